-- A worker's turns, one after another.
use Rattle.std.proofs.Common.{◌≡◌, ℕ, ℤ, ◌+◌, List, [], ◌∷◌, ◌++◌, length, All, Option, Some, None, refl, sym, ap, subst, ◌∙◌, arith}
use Rattle.std.proofs.lemmas.List.{length_push}
use Rattle.std.proofs.lemmas.List.Elements.{All-push}
use Rattle.reql_outside.specs.Source.{Source}
use Rattle.reql_outside.specs.Tape.{Tape}
use Rattle.reql_outside.proofs.Moving.{counted_twice}
use Rattle.reql_net.specs.Doors.{DoorTold}
use Rattle.reql_hall.specs.Rooms.{Rooms, Sits}
use Rattle.reql_hall.specs.Shares.{Grows, Serves, share, seen_by}
use Rattle.reql_hall.proofs.Joining.{serves_none, share_lies}
use Rattle.reql_catalog.specs.declared.catalog.Catalog.{Catalog}
use Rattle.reql_table_spec.specs.Machine.{State}
use Rattle.reql_session_spec.specs.Tasks.{Talk}
use Rattle.reql_session_spec.specs.Explained.{Life, ExplainedBy}
use Rattle.reql_session_spec.specs.Worlds.{life_of}
use Rattle.reql_session_spec.proofs.Upward.{one_more}
use Rattle.reql_session_api.specs.World.{Gave}
use Rattle.reql_desk_moves.specs.Acting.{AtDesk}
use Rattle.reql_session.specs.declared.session.Bench.{Bench}
use Rattle.reql_serve.specs.Working.{Outside, outside, gave_more, left_by, StopsWith, IsThere, AreThere, SitsAt, WorkedThere, IsLifeOf, Follow, ServesNext, WorkedSoFar, Worked}
use Rattle.reql_serve.specs.declared.worker.Member.{Member}
use Rattle.reql_serve.specs.declared.worker.WorkState.{WorkState}

gave_twice : (n : ℕ) (door : DoorTold) → gave_more 1 (gave_more n door) ≡ gave_more (n + 1) door
gave_twice n door = ap (λ g. record door { gave = g }) (counted_twice door.gave n 1)

module _ {R : Type 0} (tape : R → Tape) where
  follow_more : (from mid to : Outside) (ms : List (Member R)) (lives : List Life) (m : Member R) (life : Life)
      → Follow tape from ms lives mid → IsLifeOf tape mid to m life → Follow tape from (ms ++ m ∷ []) (lives ++ life ∷ []) to
  follow_more from mid to [] [] m life f is = (
    to,
    record {
      given = is.given;
      sent = is.sent;
      idles = is.idles;
      over = is.over;
      faults_in = is.faults_in;
      faults_out = is.faults_out;
      end = is.end;
      turns = is.turns;
      clock = subst (λ c. Gave c to.clock life.moments) f.0 is.clock;
      dice = subst (λ d. Gave d to.dice life.rolls) f.1 is.dice;
    },
    (refl, refl),
  )
  follow_more from mid to [] (l ∷ ls) m life f is = absurd f
  follow_more from mid to (n ∷ ms) [] m life f is = absurd f
  follow_more from mid to (n ∷ ms) (l ∷ ls) m life f is = (f.0, f.1, follow_more f.0 mid to ms ls m life f.2 is)

  pub follow_same : (from mid to : Outside) (ms : List (Member R)) (lives : List Life)
      → to.clock ≡ mid.clock → to.dice ≡ mid.dice → Follow tape from ms lives mid → Follow tape from ms lives to
  follow_same from mid to [] [] c d f = (c ∙ f.0, d ∙ f.1)
  follow_same from mid to [] (l ∷ ls) c d f = absurd f
  follow_same from mid to (n ∷ ms) [] c d f = absurd f
  follow_same from mid to (n ∷ ms) (l ∷ ls) c d f = (f.0, f.1, follow_same f.0 mid to ms ls c d f.2)

module _ {PL R : Type 0} (k : Talk PL) (some : State) (tape : R → Tape) where
  -- what came of a member
  abbrev its_life : (old new : AtDesk) (from to : Outside) (m : Member R) → ServesNext k some tape old new from to m → Life
  its_life old new from to m s =
      life_of s.served.explained.given s.served.explained.sent s.served.explained.idle (tape m.served.tape).over s.served.moments s.served.rolls m.served.turns m.served.end

  grows_next : (old new : AtDesk) (from to : Outside) (m : Member R) → ServesNext k some tape old new from to m → Grows some old new
  grows_next old new from to m s = record { names = s.served.explained.names; slots = s.served.explained.slots }

  explained_next : (old new : AtDesk) (from to : Outside) (m : Member R) (s : ServesNext k some tape old new from to m)
      → ExplainedBy k (seen_by some new) (share some old new) (its_life old new from to m s)
  explained_next old new from to m s = record {
    lies = share_lies some old new (grows_next old new from to m s);
    explained = s.served.explained.explained;
  }

  is_life : (old new : AtDesk) (from to : Outside) (m : Member R) (s : ServesNext k some tape old new from to m)
      → IsLifeOf tape from to m (its_life old new from to m s)
  is_life old new from to m s = record {
    given = s.served.explained.given_told;
    sent = s.served.explained.sent_told;
    idles = s.served.explained.idles;
    over = refl;
    faults_in = s.served.explained.faults_in;
    faults_out = s.served.explained.faults_out;
    end = refl;
    turns = refl;
    clock = s.served.clock;
    dice = s.served.dice;
  }

  pub none_so_far : (hall : Rooms State Catalog) (desk : AtDesk) (from : Outside) (most left : ℕ) (members : List (Member R)) → left ≡ most → members ≡ [] → Sits hall desk
      → WorkedSoFar k some tape hall desk desk from from most left members
  none_so_far hall desk from most left members e none s = record {
    lives = [];
    sits = s;
    serves = serves_none some (ExplainedBy k) desk;
    follow = subst (λ ms. Follow tape from ms [] from) (sym none) (refl, refl);
    numbers = subst (λ ms. All (λ (m : Member R). m.desk ≡ desk.names.number) ms) (sym none) (λ n d lt. absurd (omega (arith, lt)));
    door = ap (λ ms. gave_more (length ms) from.door) (sym none);
    counts = omega (arith, e, ap length none);
  }

  -- one more member
  pub more_so_far : (hall : Rooms State Catalog) (old mid new : AtDesk) (from via to : Outside) (most left next : ℕ) (before after : List (Member R)) (m : Member R)
      → WorkedSoFar k some tape hall old mid from via most left before → Sits hall new → after ≡ before ++ m ∷ [] → ServesNext k some tape mid new via to m → left ≡ next + 1
      → WorkedSoFar k some tape hall old new from to most next after
  more_so_far hall old mid new from via to most left next before after m w sits is s e =
      let many : length after ≡ length before + 1 = omega (arith, ap length is, length_push before m) in
      record {
        lives = w.lives ++ its_life mid new via to m s ∷ [];
        sits = sits;
        serves = one_more k some old mid new w.lives (its_life mid new via to m s) w.serves (grows_next mid new via to m s) (explained_next mid new via to m s);
        follow = subst (λ ms. Follow tape from ms (w.lives ++ its_life mid new via to m s ∷ []) to) (sym is)
            (follow_more tape from via to before w.lives m (its_life mid new via to m s) w.follow (is_life mid new via to m s));
        numbers = subst (λ ms. All (λ (n : Member R). n.desk ≡ old.names.number) ms) (sym is)
            (All-push (λ (n : Member R). n.desk ≡ old.names.number) before m w.numbers (s.desk ∙ w.serves.grows.names.number));
        door = s.door ∙ ap (gave_more 1) w.door ∙ gave_twice (length before) from.door ∙ ap (λ n. gave_more n from.door) (sym many);
        counts = omega (arith, w.counts, e, many);
      }

  -- nothing was used
  pub same_so_far : (hall : Rooms State Catalog) (old mid new : AtDesk) (from via to : Outside) (most left next : ℕ) (before after : List (Member R))
      → WorkedSoFar k some tape hall old mid from via most left before → new ≡ mid → to ≡ via → next ≡ left → after ≡ before → WorkedSoFar k some tape hall old new from to most next after
  same_so_far hall old mid new from via to most left next before after w n o l a =
      subst (λ (z : AtDesk × Outside × ℕ × List (Member R)). WorkedSoFar k some tape hall old z.0 from z.1 most z.2 z.3) (λ i. (sym n i, sym o i, sym l i, sym a i)) w

  -- it ends, where nothing was used but the door
  pub ends_with : (hall : Rooms State Catalog) (old mid new : AtDesk) (from via to : Outside) (most left : ℕ) (before after : List (Member R)) (end : WorkState)
      → WorkedSoFar k some tape hall old mid from via most left before → after ≡ before → new ≡ mid → to ≡ record via { door = left_by end via.door }
      → StopsWith end left → Worked k some tape hall old new from to most left after end
  ends_with hall old mid new from via to most left before after end w a n o h = record {
    lives = w.lives;
    sits = subst (Sits hall) (sym n) w.sits;
    serves = subst (λ x. Serves some (ExplainedBy k) old x w.lives) (sym n) w.serves;
    follow = subst (λ ms. Follow tape from ms w.lives to) (sym a) (follow_same tape from via to before w.lives (ap (λ (z : Outside). z.clock) o) (ap (λ (z : Outside). z.dice) o) w.follow);
    numbers = subst (λ ms. All (λ (m : Member R). m.desk ≡ old.names.number) ms) (sym a) w.numbers;
    door = ap (λ (z : Outside). z.door) o ∙ ap (left_by end) w.door ∙ ap (λ ms. left_by end (gave_more (length ms) from.door)) (sym a);
    counts = omega (arith, w.counts, ap length a);
    stops = h;
  }

module _ {PL R C D T V : Type 0} (k : Talk PL) (some : State) (tape : R → Tape) (told : T → Source ℤ) (rolled : D → Source (List ℕ)) where
  pub there_both : (hall : Rooms State Catalog) (old : Option (Bench C D T V)) (a b : Bench C D T V) (was is : DoorTold) (most left : ℕ) (members : List (Member R)) (end : WorkState) → old ≡ Some a
      → Worked k some tape hall a.desk b.desk (outside (told a.clock) (rolled a.dice) was) (outside (told b.clock) (rolled b.dice) is) most left members end
      → WorkedThere k some tape told rolled hall old (Some b) was is most left members end
  unfolding WorkedThere
  there_both hall old a b was is most left members end e h = subst (λ z. WorkedThere k some tape told rolled hall z (Some b) was is most left members end) (sym e) h

module _ {C D T V : Type 0} where
  -- who sits there, by the word that threads are told it by
  pub sits_at : (hall : Rooms State Catalog) (bench : Option (Bench C D T V)) → IsThere bench (λ (b : Bench C D T V). Sits hall b.desk) → SitsAt hall bench
  unfolding SitsAt
  sits_at hall None h = h
  sits_at hall (Some b) h = h

module _ {PL R C D T V : Type 0} (k : Talk PL) (some : State) (tape : R → Tape) (told : T → Source ℤ) (rolled : D → Source (List ℕ)) where
  pub worked_there : (hall : Rooms State Catalog) (old new : Option (Bench C D T V)) (was is : DoorTold) (most left : ℕ) (members : List (Member R)) (end : WorkState)
      → WorkedThere k some tape told rolled hall old new was is most left members end
      → AreThere old new (λ (a b : Bench C D T V). Worked k some tape hall a.desk b.desk (outside (told a.clock) (rolled a.dice) was) (outside (told b.clock) (rolled b.dice) is) most left members end)
  unfolding WorkedThere
  worked_there hall None new was is most left members end h = h
  worked_there hall (Some a) None was is most left members end h = h
  worked_there hall (Some a) (Some b) was is most left members end h = h
