-- What a desk did for its members, one after another, is all that it did.
use Rattle.std.proofs.Common.{◌≡◌, ℕ, List, [], ◌∷◌, ◌++◌, length, drop, refl, sym, ap, subst, ◌∙◌, arith, append_assoc, append-nil}
use Rattle.std.specs.Prelude.{map}
use Rattle.std.specs.List.{AllZip}
use Rattle.std.proofs.lemmas.Grind.{flat_map-append}
use Rattle.std.proofs.lemmas.List.{map_push, drop_at}
use Rattle.std.proofs.lemmas.List.Elements.{All-push, All-weaker, filter-append}
use Rattle.std.specs.Prelude.{◌==◌}
use Rattle.reql_shared.specs.declared.recorded.Recorded.{Recorded}
use Rattle.reql_shared.specs.History.{Begins, own}
use Rattle.reql_shared.specs.Machine.{Machine}
use Rattle.reql_shared.specs.Acts.{Act, places}
use Rattle.reql_shared.specs.Plays.{Plays}
use Rattle.reql_shared.specs.Sight.{Sight, Object, Learns}
use Rattle.reql_shared.specs.Parts.{Part, between, Lies}
use Rattle.reql_hall.specs.Rooms.{Sitting, Histories, history_at, pass, LearnsAll}
use Rattle.reql_hall.specs.Shares.{Share, Seen, Idles, Chained, Within, Divides, Grew, Grows, share, seen_by, BeginsAll, LiesIn, IsKept, Serves}

module _ {A : Type 0} where
  drop_nothing : (xs : List A) → drop (length xs) xs ≡ []
  drop_nothing [] = refl
  drop_nothing (x ∷ xs) = drop_nothing xs

  drop_front : (xs ys : List A) → drop (length xs) (xs ++ ys) ≡ ys
  drop_front xs ys = drop_at xs ys (length xs) refl

module _ {C : Type 0} where
  own_append : (number : ℕ) (xs ys : List (Recorded C)) → own number (xs ++ ys) ≡ own number xs ++ own number ys
  own_append number xs ys = filter-append (λ (e : Recorded C). e.by == number) xs ys

  -- entries that add none of this number have none
  none_added : (number : ℕ) (xs more : List (Recorded C)) → own number (xs ++ more) ≡ own number xs → own number more ≡ []
  none_added number xs more h =
      sym (drop_front (own number xs) (own number more)) ∙ ap (drop (length (own number xs))) (sym (own_append number xs more) ∙ h) ∙ drop_nothing (own number xs)

  idles_none : (number : ℕ) (xs : List (Recorded C)) → Idles number xs xs
  idles_none number xs = ([], sym (append-nil xs), refl)

  idles_on : (number : ℕ) (a b c : List (Recorded C)) → Idles number a b → Idles number b c → Idles number a c
  idles_on number a b c p q = (
    p.0 ++ q.0,
    q.1 ∙ ap (λ l. l ++ q.0) p.1 ∙ append_assoc a p.0 q.0,
    own_append number p.0 q.0 ∙ (λ i. p.2 i ++ q.2 i),
  )

module _ {C S : Type 0} where
  chained_longer : (number : ℕ) (before after later : List (Recorded C)) (ps : List (Part C S)) → Chained number before ps after → Idles number after later → Chained number before ps later
  chained_longer number before after later [] c w = idles_on number before after later c w
  chained_longer number before after later (p ∷ ps) c w = (c.0, chained_longer number (p.before ++ p.during) after later ps c.1 w)

  chained_more : (number : ℕ) (before : List (Recorded C)) (ps : List (Part C S)) (q : Part C S) → Chained number before ps q.before → Chained number before (ps ++ q ∷ []) (q.before ++ q.during)
  chained_more number before [] q c = (c, idles_none number (q.before ++ q.during))
  chained_more number before (p ∷ ps) q c = (c.0, chained_more number (p.before ++ p.during) ps q c.1)

  -- what a pass saw and where it was answered, from one moment to a later one
  during_is : (old new : Sight C S) (g : Grew old new) → (between old new).during ≡ g.more
  during_is old new g = ap (drop (length old.seen)) g.seen ∙ drop_front old.seen g.more

  marks_are : (old new : Sight C S) (g : Grew old new) → (between old new).marks ≡ g.added
  marks_are old new g = ap (drop (length old.marks)) g.marks ∙ drop_front old.marks g.added

  up_to : (old new : Sight C S) → Grew old new → old.seen ++ (between old new).during ≡ new.seen
  up_to old new g = ap (λ l. old.seen ++ l) (during_is old new g) ∙ sym g.seen

  during_on : (a b c : Sight C S) → Grew a b → Grew b c → (between a c).during ≡ (between a b).during ++ (between b c).during
  during_on a b c g h =
      ap (drop (length a.seen)) (h.seen ∙ ap (λ l. l ++ h.more) g.seen ∙ append_assoc a.seen g.more h.more)
      ∙ drop_front a.seen (g.more ++ h.more)
      ∙ (λ i. sym (during_is a b g) i ++ sym (during_is b c h) i)

  marks_on : (a b c : Sight C S) → Grew a b → Grew b c → (between a c).marks ≡ (between a b).marks ++ (between b c).marks
  marks_on a b c g h =
      ap (drop (length a.marks)) (h.marks ∙ ap (λ l. l ++ h.added) g.marks ∙ append_assoc a.marks g.added h.added)
      ∙ drop_front a.marks (g.added ++ h.added)
      ∙ (λ i. sym (marks_are a b g) i ++ sym (marks_are b c h) i)

  pub grew_none : (p : Sight C S) → Grew p p
  grew_none p = record {
    more = [];
    added = [];
    object = refl;
    number = refl;
    seen = sym (append-nil p.seen);
    marks = sym (append-nil p.marks);
  }

  pub grew_on : (a b c : Sight C S) → Grew a b → Grew b c → Grew a c
  grew_on a b c g h = record {
    more = g.more ++ h.more;
    added = g.added ++ h.added;
    object = h.object ∙ g.object;
    number = h.number ∙ g.number;
    seen = h.seen ∙ ap (λ l. l ++ h.more) g.seen ∙ append_assoc a.seen g.more h.more;
    marks = h.marks ∙ ap (λ l. l ++ h.added) g.marks ∙ append_assoc a.marks g.added h.added;
  }

  pub learns_grew : (old new : Sight C S) (history : List (Recorded C)) → Learns old new history → Grew old new
  learns_grew old new history l = record {
    more = l.more.0;
    added = [];
    object = l.object;
    number = l.number;
    seen = l.seen ∙ l.more.1;
    marks = l.marks ∙ sym (append-nil old.marks);
  }

  -- a pass that learns has seen entries of others alone
  learns_idles : (old new : Sight C S) (history : List (Recorded C)) → Learns old new history → Idles old.number old.seen new.seen
  learns_idles old new history l = (
    l.more.0,
    l.seen ∙ l.more.1,
    none_added old.number old.seen l.more.0 (ap (own old.number) (sym (l.seen ∙ l.more.1)) ∙ (λ i. own (sym l.number i) new.seen) ∙ l.mine),
  )

  pub plays_grew : {R Q A : Type 0} (machine : Machine S C R Q A) (old new : Sight C S) (acts : List (Act C R Q A)) → Plays machine old new acts → Grew old new
  plays_grew machine old new acts p = record {
    more = p.more;
    added = places acts;
    object = p.object;
    number = p.number;
    seen = p.seen;
    marks = p.marks;
  }

  -- what a pass did lies in what it has seen
  part_lies : (old new : Sight C S) → Grew old new → Lies (between old new) new.seen
  part_lies old new g = record { later = []; whole = sym (up_to old new g) ∙ sym (append-nil (old.seen ++ (between old new).during)) }

  lies_longer : (part : Part C S) (history longer : List (Recorded C)) → Begins history longer → Lies part history → Lies part longer
  lies_longer part history longer b l = record {
    later = l.later ++ b.0;
    whole = b.1 ∙ ap (λ h. h ++ b.0) l.whole ∙ append_assoc (part.before ++ part.during) l.later b.0;
  }

  within_same : (a b c : Sight C S) (part : Part C S) → Within (between a b) part → Within (between a c) part
  within_same a b c part w = record { start = w.start; number = w.number }

  pub divides_none : (p : Sight C S) → Divides (between p p) []
  divides_none p = record {
    within = λ k d lt. absurd (omega (arith, lt));
    order = ([], ap (λ l. p.seen ++ l) (drop_nothing p.seen), refl);
    owned = ap (own p.number) (drop_nothing p.seen);
    marks = drop_nothing p.marks;
  }

  -- what a pass did stays divided so where it only learns
  pub divides_learnt : (a b c : Sight C S) (history : List (Recorded C)) (ps : List (Part C S)) → Divides (between a b) ps → Grew a b → Learns b c history → Divides (between a c) ps
  divides_learnt a b c history ps d g l =
      let h : Grew b c = learns_grew b c history l in
      let idle : Idles b.number b.seen c.seen = learns_idles b c history l in
      let nothing : own a.number (between b c).during ≡ [] =
      ap (own a.number) (ap (drop (length b.seen)) idle.1 ∙ drop_front b.seen idle.0) ∙ (λ i. own (sym g.number i) idle.0) ∙ idle.2 in
      record {
        within = All-weaker (Within (between a b)) (Within (between a c)) (within_same a b c) ps d.within;
        order = subst (Chained a.number a.seen ps) (sym (up_to a c (grew_on a b c g h)))
            (chained_longer a.number a.seen b.seen c.seen ps
            (subst (Chained a.number a.seen ps) (up_to a b g) d.order)
            (subst (λ n. Idles n b.seen c.seen) g.number idle));
        owned = ap (own a.number) (during_on a b c g h) ∙ own_append a.number (between a b).during (between b c).during
            ∙ (λ i. d.owned i ++ nothing i) ∙ append-nil _;
        marks = marks_on a b c g h ∙ (λ i. d.marks i ++ (ap (drop (length b.marks)) l.marks ∙ drop_nothing b.marks) i) ∙ append-nil _;
      }

  -- a later use lengthens the division by its own part
  pub divides_more : (a b c : Sight C S) (ps : List (Part C S)) → Divides (between a b) ps → Grew a b → Grew b c → Divides (between a c) (ps ++ between b c ∷ [])
  divides_more a b c ps d g h =
      let own_of : Part C S → List (Recorded C) = λ p. own p.number p.during in
      let marks_of : Part C S → List ℕ = λ p. p.marks in
      let last : Within (between a c) (between b c) = record { start = ap (λ (o : Object S). o.start) g.object; number = g.number } in
      record {
        within = All-push (Within (between a c)) ps (between b c) (All-weaker (Within (between a b)) (Within (between a c)) (within_same a b c) ps d.within) last;
        order = subst (Chained a.number a.seen (ps ++ between b c ∷ [])) (up_to b c h ∙ sym (up_to a c (grew_on a b c g h)))
            (chained_more a.number a.seen ps (between b c) (subst (Chained a.number a.seen ps) (up_to a b g) d.order));
        owned = ap (own a.number) (during_on a b c g h) ∙ own_append a.number (between a b).during (between b c).during
            ∙ (λ i. d.owned i ++ (ap (λ n. own n (between b c).during) (sym g.number) ∙ sym (append-nil (own_of (between b c)))) i)
            ∙ sym (flat_map-append own_of ps (between b c ∷ []));
        marks = marks_on a b c g h
            ∙ (λ i. d.marks i ++ sym (append-nil (between b c).marks) i)
            ∙ sym (flat_map-append marks_of ps (between b c ∷ []));
      }

module _ {C S NC NS : Type 0} (some : S) where
  pub grows_none : (desk : Sitting C S NC NS) → Grows some desk desk
  grows_none desk = record { names = grew_none desk.names; slots = λ t. grew_none (pass some desk t) }

  pub grows_on : (a b c : Sitting C S NC NS) → Grows some a b → Grows some b c → Grows some a c
  grows_on a b c g h = record { names = grew_on a.names b.names c.names g.names h.names; slots = λ t. grew_on (pass some a t) (pass some b t) (pass some c t) (g.slots t) (h.slots t) }

  pub learns_grows : (old new : Sitting C S NC NS) (all : Histories C NC) → LearnsAll old new all → Grows some old new
  learns_grows old new all l = record { names = learns_grew old.names new.names all.names l.names; slots = λ t. learns_grew (pass some old t) (pass some new t) (history_at all t) (l.slots some t) }

  -- what a desk had seen begins what it has seen later
  pub grows_begins : (old new : Sitting C S NC NS) → Grows some old new → BeginsAll (seen_by some old) (seen_by some new)
  grows_begins old new g = record { names = (g.names.more, g.names.seen); slots = λ t. ((g.slots t).more, (g.slots t).seen) }

  -- what a desk did lies in what it has seen
  pub share_lies : (old new : Sitting C S NC NS) → Grows some old new → LiesIn (share some old new) (seen_by some new)
  share_lies old new g = record { names = part_lies old.names new.names g.names; slots = λ t. part_lies (pass some old t) (pass some new t) (g.slots t) }

module _ {C S NC NS : Type 0} where
  pub share_lies_longer : (s : Share C S NC NS) (seen later : Seen C NC) → BeginsAll seen later → LiesIn s seen → LiesIn s later
  share_lies_longer s seen later b l = record { names = lies_longer s.names seen.names later.names b.names l.names; slots = λ t. lies_longer (s.slots t) (seen.slots t) (later.slots t) (b.slots t) (l.slots t) }

module _ {C S NC NS M : Type 0} (some : S) (Explains : Seen C NC → Share C S NC NS → M → Type 0) where
  zip_kept : IsKept Explains → (seen later : Seen C NC) → BeginsAll seen later → (shares : List (Share C S NC NS)) (members : List M) → AllZip (Explains seen) shares members → AllZip (Explains later) shares members
  zip_kept kept seen later b [] [] z = tt
  zip_kept kept seen later b [] (m ∷ ms) z = z
  zip_kept kept seen later b (s ∷ ss) [] z = z
  zip_kept kept seen later b (s ∷ ss) (m ∷ ms) z = (kept s m seen later b z.0, zip_kept kept seen later b ss ms z.1)

  zip_push : (seen : Seen C NC) (shares : List (Share C S NC NS)) (members : List M) (s : Share C S NC NS) (m : M) → AllZip (Explains seen) shares members → Explains seen s m → AllZip (Explains seen) (shares ++ s ∷ []) (members ++ m ∷ [])
  zip_push seen [] [] s m z e = (e, tt)
  zip_push seen [] (n ∷ ms) s m z e = absurd z
  zip_push seen (t ∷ ss) [] s m z e = absurd z
  zip_push seen (t ∷ ss) (n ∷ ms) s m z e = (z.0, zip_push seen ss ms s m z.1 e)

  pub serves_none : (desk : Sitting C S NC NS) → Serves some Explains desk desk []
  serves_none desk = record {
    shares = [];
    grows = grows_none some desk;
    names = divides_none desk.names;
    slots = λ t. divides_none (pass some desk t);
    explained = tt;
  }

  -- one more member lengthens what the desk did by its share
  pub serves_more : IsKept Explains → (a b c : Sitting C S NC NS) (members : List M) (m : M) → Serves some Explains a b members → Grows some b c → Explains (seen_by some c) (share some b c) m → Serves some Explains a c (members ++ m ∷ [])
  serves_more kept a b c members m s g e = record {
    shares = s.shares ++ share some b c ∷ [];
    grows = grows_on some a b c s.grows g;
    names =
        let names_of : Share C S NC NS → Part NC NS = λ x. x.names in
        subst (Divides (between a.names c.names)) (sym (map_push names_of s.shares (share some b c)))
        (divides_more a.names b.names c.names (map names_of s.shares) s.names s.grows.names g.names);
    slots = λ t.
        let slot_of : Share C S NC NS → Part C S = λ x. x.slots t in
        subst (Divides (between (pass some a t) (pass some c t))) (sym (map_push slot_of s.shares (share some b c)))
        (divides_more (pass some a t) (pass some b t) (pass some c t) (map slot_of s.shares) (s.slots t) (s.grows.slots t) (g.slots t));
    explained = zip_push (seen_by some c) s.shares members (share some b c) m (zip_kept kept (seen_by some b) (seen_by some c) (grows_begins some b c g) s.shares members s.explained) e;
  }

  -- what a desk did stays divided so where it only learns the whole histories
  pub serves_learnt : IsKept Explains → (a b c : Sitting C S NC NS) (members : List M) (all : Histories C NC) → Serves some Explains a b members → LearnsAll b c all → Serves some Explains a c members
  serves_learnt kept a b c members all s l =
      let g : Grows some b c = learns_grows some b c all l in
      record {
        shares = s.shares;
        grows = grows_on some a b c s.grows g;
        names = divides_learnt a.names b.names c.names all.names (map (λ (x : Share C S NC NS). x.names) s.shares) s.names s.grows.names l.names;
        slots = λ t. divides_learnt (pass some a t) (pass some b t) (pass some c t) (history_at all t) (map (λ (x : Share C S NC NS). x.slots t) s.shares) (s.slots t) (s.grows.slots t) (l.slots some t);
        explained = zip_kept kept (seen_by some b) (seen_by some c) (grows_begins some b c g) s.shares members s.explained;
      }
