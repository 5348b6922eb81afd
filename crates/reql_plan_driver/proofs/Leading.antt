-- What moves of a course lead to.
use Rattle.std.proofs.Common.{◌≡◌, inl, inr, ℕ, ℤ, List, [], ◌∷◌, ◌++◌, Option, Result, Ok, Err, IfOk, refl, sym, ap, subst, ◌∙◌}
use Rattle.reql_datum.specs.declared.point.Point.{Point}
use Rattle.reql_memory.specs.declared.memory.Memory.{Memory}
use Rattle.reql_outside.specs.Source.{Source, Gives}
use Rattle.reql_shared.specs.Acts.{Ran, Looked, Denied}
use Rattle.reql_catalog.specs.Catalog.{Named}
use Rattle.reql_catalog.specs.declared.command.CatCmd.{CatCmd}
use Rattle.reql_catalog.specs.declared.command.CatReply.{CatReply}
use Rattle.reql_term.specs.Views.{Document, Index}
use Rattle.reql_table_machine_spec.specs.declared.command.Look.{Look}
use Rattle.reql_table_spec.specs.Engines.{seen_in, ShowsTables}
use Rattle.reql_table_spec.specs.Machine.{State, Seen}
use Rattle.reql_table_spec.specs.Replies.{Answered as Told}
use Rattle.reql_table_spec.specs.declared.command.Order.{Order}
use Rattle.reql_table_spec.specs.declared.reply.Saved.{Saved}
use Rattle.reql_session_spec.specs.Requests.{Arm, LookNames, TellTime, LookSlot, RunSlot, ChangeNames, Roll, Found, SawNames, Clocked, SawSlot, RanSlot, ChangedNames, Rolled, put_point, point, point_of, points_from}
use Rattle.reql_session_spec.specs.Books.{Books, saw_names}
use Rattle.reql_session_spec.specs.Tasks.{Talk, Planning, at, wanted}
use Rattle.reql_session_api.specs.Meant.{Course, heard_with, next_of, arms_of, move_of}
use Rattle.reql_session_api.specs.declared.answered.Answered.{Answered}
use Rattle.reql_session_api.specs.declared.moves.Move.{Move}
use Rattle.reql_desk_moves.specs.Acting.{AtDesk, Answers, Shows, NamesAct}
use Rattle.reql_desk_moves.specs.Steps.{Steps, put_points}
use Rattle.reql_desk_moves.proofs.Stepping.{steps_none, steps_want}
use Rattle.reql_desk_moves.proofs.Visits.{put_more}
use Rattle.reql_plan_driver.specs.Meeting.{closed_by, opened_by, without_closed, noted, Stays, Sees, RefusedIn, LooksSlotIn}
use Rattle.reql_plan_driver.specs.Walking.{Tools, tools, stage, given_up, IsMet, IsNext, Walks, StepsTo, Follows}
use Rattle.reql_plan_driver.specs.declared.met.Met.{Met}
use Rattle.reql_plan_driver.specs.declared.following.After.{After}
use Rattle.reql_plan_driver.specs.declared.following.After.TheVariants as after
use Rattle.reql_plan_driver.specs.declared.following.Reached.{Reached}
use Rattle.reql_plan_driver.specs.declared.following.Reached.TheVariants as reached
use Rattle.reql_plan_driver.proofs.Pacing.{points_more, walks_steps, walks_on, walks_clocked, walks_rolled, steps_names, steps_changed, steps_names_denied, steps_change_denied, steps_slot, steps_slot_denied, steps_run, steps_run_denied}

module _ {PL : Type 0} (k : Talk PL) (some : State) where
  -- a walk to where this was found leads to the next stage
  pub walked : (w v : Tools) (c d : Course PL) (m n : Met) (x : Found) (arms : List Arm) → d ≡ heard_with x c → arms_of n.opened.items ≡ arms →
      ((b : Books) (token : ℕ) → Walks k some w v (stage b token c m) (at (saw_names n.names b) (Planning token c.plan c.noreply c.count (c.found ++ x ∷ []) arms))) → (b : Books) (token : ℕ) → Walks k some w v (stage b token c m) (stage b token d n)
  walked w v c d m n x arms e o h b token =
      subst (λ (z : Course PL × List Arm). Walks k some w v (stage b token c m) (at (saw_names n.names b) (Planning token z.0.plan z.0.noreply z.0.count z.0.found z.1))) (λ i. (sym e i, sym o i)) (h b token)

  pub gives_up : (v : Tools) (d : Course PL) (n : Met) (b : Books) (token : ℕ) → Walks k some v v (stage b token d n) (given_up b token d n)
  gives_up v d n b token = walks_steps k some v.desk v.desk v.clock v.dice (stage b token d n) (given_up b token d n) (steps_want k some v.desk (saw_names n.names b) (Planning token d.plan d.noreply d.count d.found (arms_of n.opened.items)))

  pub stepped : (w v : Tools) (c d : Course PL) (m n : Met) (next : Result Move Memory) (result : After) → ((b : Books) (token : ℕ) → Walks k some w v (stage b token c m) (stage b token d n)) → (IsMet c m → IsMet d n) →
      IfOk next (λ move. move_of move ≡ next_of k d) → IsNext next result → StepsTo k some w v c d m n result
  stepped w v c d m n (Ok move) (after.On a) walk met goes is = (walk, sym goes ∙ ap move_of (sym is), met)
  stepped w v c d m n (Ok move) (after.Ends a) walk met goes is = absurd is
  stepped w v c d m n (Ok move) after.Denied walk met goes is = absurd is
  stepped w v c d m n (Err x) (after.On a) walk met goes is = absurd is
  stepped w v c d m n (Err x) (after.Ends a) walk met goes is = absurd is
  stepped w v c d m n (Err x) after.Denied walk met goes is = λ b token. walks_on k some w v v (stage b token c m) (stage b token d n) (given_up b token d n) (walk b token) (gives_up v d n b token)

  -- what was found without a point
  pub met_still : (c d : Course PL) (m n : Met) (x : Found) → ((ps : List Point) → point_of x ps ≡ ps) → d ≡ heard_with x c → n.points.items ≡ m.points.items → IsMet c m → IsMet d n
  met_still c d m n x none e p h = ap (λ (z : Course PL). points_from [] z.found) e ∙ points_more [] c.found x ∙ none (points_from [] c.found) ∙ h ∙ ap (put_points []) (sym p)

  pub met_more : (c d : Course PL) (m n : Met) (x : Found) (p : Point) → ((ps : List Point) → point_of x ps ≡ put_point p ps) → d ≡ heard_with x c → n.points.items ≡ m.points.items ++ p ∷ [] → IsMet c m → IsMet d n
  met_more c d m n x p one e q h = ap (λ (z : Course PL). points_from [] z.found) e ∙ points_more [] c.found x ∙ one (points_from [] c.found) ∙ ap (put_point p) h ∙ sym (put_more [] m.points.items p) ∙ ap (put_points []) (sym q)

  -- the names were looked at
  pub names_step : (p q : AtDesk) (clock : Source ℤ) (dice : Source (List ℕ)) (c d : Course PL) (m n : Met) (names : Named) (next : Result Move Memory) (result : After) → next_of k c ≡ LookNames → NamesAct some p q (Looked n.names (record {}) names) → Stays m n →
      d ≡ heard_with (SawNames n.names names) c → IfOk next (λ move. move_of move ≡ next_of k d) → IsNext next result → StepsTo k some (tools p clock dice) (tools q clock dice) c d m n result
  names_step p q clock dice c d m n names next result h a s e goes is =
      stepped (tools p clock dice) (tools q clock dice) c d m n next result
      (walked (tools p clock dice) (tools q clock dice) c d m n (SawNames n.names names) (arms_of m.opened.items) e (ap arms_of s.opened)
      (λ b token. walks_steps k some p q clock dice (stage b token c m) (at (saw_names n.names b) (Planning token c.plan c.noreply c.count (c.found ++ SawNames n.names names ∷ []) (arms_of m.opened.items)))
      (steps_names k some p q (saw_names m.names b) token c.plan c.noreply c.count c.found (arms_of m.opened.items) n.names names h a)))
      (met_still c d m n (SawNames n.names names) (λ ps. refl) e s.points) goes is

  -- a command on the names was run
  pub change_step : (p q : AtDesk) (clock : Source ℤ) (dice : Source (List ℕ)) (c d : Course PL) (m n : Met) (place : ℕ) (cmd : CatCmd) (reply : CatReply) (next : Result Move Memory) (result : After) → next_of k c ≡ ChangeNames cmd → NamesAct some p q (Ran place cmd reply) → Stays m n → n.names ≡ reply.place →
      d ≡ heard_with (ChangedNames reply.place reply) c → IfOk next (λ move. move_of move ≡ next_of k d) → IsNext next result → StepsTo k some (tools p clock dice) (tools q clock dice) c d m n result
  change_step p q clock dice c d m n place cmd reply next result h a s at_place e goes is =
      stepped (tools p clock dice) (tools q clock dice) c d m n next result
      (walked (tools p clock dice) (tools q clock dice) c d m n (ChangedNames reply.place reply) (arms_of m.opened.items) e (ap arms_of s.opened)
      (λ b token. walks_steps k some p q clock dice (stage b token c m) (at (saw_names n.names b) (Planning token c.plan c.noreply c.count (c.found ++ ChangedNames reply.place reply ∷ []) (arms_of m.opened.items)))
      (subst (λ z. Steps k some p q (stage b token c m) (at (saw_names z b) (Planning token c.plan c.noreply c.count (c.found ++ ChangedNames reply.place reply ∷ []) (arms_of m.opened.items)))) (sym at_place)
      (steps_changed k some p q (saw_names m.names b) token c.plan c.noreply c.count c.found (arms_of m.opened.items) place cmd reply h a))))
      (met_still c d m n (ChangedNames reply.place reply) (λ ps. refl) e s.points) goes is

  -- the same place of the names, and these feeds open
  given_at : (b : Books) (token : ℕ) (c : Course PL) (m n : Met) (arms : List Arm) → n.names ≡ m.names → arms_of n.opened.items ≡ arms → wanted (saw_names m.names b) (Planning token c.plan c.noreply c.count c.found arms) ≡ given_up b token c n
  given_at b token c m n arms e o = λ i. wanted (saw_names (sym e i) b) (Planning token c.plan c.noreply c.count c.found (sym o i))

  -- a look at the names, or a command on them, was refused
  pub names_refused : (p q : AtDesk) (clock : Source ℤ) (dice : Source (List ℕ)) (c : Course PL) (m n : Met) → next_of k c ≡ LookNames → (place : ℕ) × NamesAct some p q (Denied place) → Stays m n → n.names ≡ m.names → StepsTo k some (tools p clock dice) (tools q clock dice) c c m n after.Denied
  names_refused p q clock dice c m n h a s e b token =
      subst (Walks k some (tools p clock dice) (tools q clock dice) (stage b token c m)) (given_at b token c m n (arms_of m.opened.items) e (ap arms_of s.opened))
      (walks_steps k some p q clock dice (stage b token c m) (wanted (saw_names m.names b) (Planning token c.plan c.noreply c.count c.found (arms_of m.opened.items))) (steps_names_denied k some p q (saw_names m.names b) token c.plan c.noreply c.count c.found (arms_of m.opened.items) a.0 h a.1))

  pub change_refused : (p q : AtDesk) (clock : Source ℤ) (dice : Source (List ℕ)) (c : Course PL) (m n : Met) (cmd : CatCmd) → next_of k c ≡ ChangeNames cmd → (place : ℕ) × NamesAct some p q (Denied place) → Stays m n → n.names ≡ m.names → StepsTo k some (tools p clock dice) (tools q clock dice) c c m n after.Denied
  change_refused p q clock dice c m n cmd h a s e b token =
      subst (Walks k some (tools p clock dice) (tools q clock dice) (stage b token c m)) (given_at b token c m n (arms_of m.opened.items) e (ap arms_of s.opened))
      (walks_steps k some p q clock dice (stage b token c m) (wanted (saw_names m.names b) (Planning token c.plan c.noreply c.count c.found (arms_of m.opened.items))) (steps_change_denied k some p q (saw_names m.names b) token c.plan c.noreply c.count c.found (arms_of m.opened.items) a.0 cmd h a.1))

  -- a slot was looked at
  pub look_step : (p q : AtDesk) (clock : Source ℤ) (dice : Source (List ℕ)) (c d : Course PL) (m n : Met) (slot : ℕ) (look : Seen) (next : Result Move Memory) (result : After) → next_of k c ≡ LookSlot slot → Shows some p q slot look → Sees m n (point slot look.place look.stamp) (arms_of m.opened.items) →
      d ≡ heard_with (SawSlot slot look) c → IfOk next (λ move. move_of move ≡ next_of k d) → IsNext next result → StepsTo k some (tools p clock dice) (tools q clock dice) c d m n result
  look_step p q clock dice c d m n slot look next result h a s e goes is =
      stepped (tools p clock dice) (tools q clock dice) c d m n next result
      (walked (tools p clock dice) (tools q clock dice) c d m n (SawSlot slot look) (arms_of m.opened.items) e s.opened
      (λ b token. walks_steps k some p q clock dice (stage b token c m) (at (saw_names n.names b) (Planning token c.plan c.noreply c.count (c.found ++ SawSlot slot look ∷ []) (arms_of m.opened.items)))
      (subst (λ z. Steps k some p q (stage b token c m) (at (saw_names z b) (Planning token c.plan c.noreply c.count (c.found ++ SawSlot slot look ∷ []) (arms_of m.opened.items)))) (sym s.names)
      (steps_slot k some p q (saw_names m.names b) token c.plan c.noreply c.count c.found (arms_of m.opened.items) slot look h a))))
      (met_more c d m n (SawSlot slot look) (point slot look.place look.stamp) (λ ps. refl) e s.points) goes is

  -- likewise as an engine that shows its tables tells it
  pub seen_step : {V : Type 0} (documents : V → List Document) (indexes : V → List (List ℕ × Index)) (heard : Look V → Seen) → ShowsTables documents indexes heard → (p q : AtDesk) (clock : Source ℤ) (dice : Source (List ℕ)) (c d : Course PL) (m n : Met) (slot : ℕ) (look : Look V) (next : Result Move Memory) (result : After) →
      next_of k c ≡ LookSlot slot → LooksSlotIn heard some p q m n slot (Ok look) → d ≡ heard_with (SawSlot slot (seen_in documents indexes look)) c → IfOk next (λ move. move_of move ≡ next_of k d) → IsNext next result → StepsTo k some (tools p clock dice) (tools q clock dice) c d m n result
  seen_step documents indexes heard shows p q clock dice c d m n slot look next result h a e goes is =
      look_step p q clock dice c d m n slot (seen_in documents indexes look) next result h (subst (Shows some p q slot) (shows look) a.0) a.1 e goes is

  -- a command on a slot was run
  pub run_step : (p q : AtDesk) (clock : Source ℤ) (dice : Source (List ℕ)) (c d : Course PL) (m n : Met) (slot : ℕ) (order : Order) (reply : Told) (kept : Saved) (next : Result Move Memory) (result : After) → next_of k c ≡ RunSlot slot order → Answers some p q slot order reply kept →
      Sees m n (point slot reply.place reply.stamp) (noted slot (closed_by order.cmd) (opened_by reply.said) (arms_of m.opened.items)) → d ≡ heard_with (RanSlot slot reply kept) c → IfOk next (λ move. move_of move ≡ next_of k d) → IsNext next result → StepsTo k some (tools p clock dice) (tools q clock dice) c d m n result
  run_step p q clock dice c d m n slot order reply kept next result h a s e goes is =
      let arms : List Arm = noted slot (closed_by order.cmd) (opened_by reply.said) (arms_of m.opened.items) in
      stepped (tools p clock dice) (tools q clock dice) c d m n next result
      (walked (tools p clock dice) (tools q clock dice) c d m n (RanSlot slot reply kept) arms e s.opened
      (λ b token. walks_steps k some p q clock dice (stage b token c m) (at (saw_names n.names b) (Planning token c.plan c.noreply c.count (c.found ++ RanSlot slot reply kept ∷ []) arms))
      (subst (λ z. Steps k some p q (stage b token c m) (at (saw_names z b) (Planning token c.plan c.noreply c.count (c.found ++ RanSlot slot reply kept ∷ []) arms))) (sym s.names)
      (steps_run k some p q (saw_names m.names b) token c.plan c.noreply c.count c.found (arms_of m.opened.items) slot order reply kept h a))))
      (met_more c d m n (RanSlot slot reply kept) (point slot reply.place reply.stamp) (λ ps. refl) e s.points) goes is

  -- a look at a slot was refused, or memory was wanted before it
  pub look_refused : (p q : AtDesk) (clock : Source ℤ) (dice : Source (List ℕ)) (c : Course PL) (m n : Met) (slot : ℕ) → next_of k c ≡ LookSlot slot → RefusedIn some p q m n slot (arms_of m.opened.items) → StepsTo k some (tools p clock dice) (tools q clock dice) c c m n after.Denied
  look_refused p q clock dice c m n slot h r b token = elim r.1 [
    | inl x ↦ subst (λ z. Walks k some (tools p clock dice) (tools z clock dice) (stage b token c m) (given_up b token c n)) (sym x.0)
        (subst (Walks k some (tools p clock dice) (tools p clock dice) (stage b token c m)) (given_at b token c m n (arms_of m.opened.items) r.0 (ap arms_of x.1)) (gives_up (tools p clock dice) c m b token))
    | inr x ↦ subst (Walks k some (tools p clock dice) (tools q clock dice) (stage b token c m)) (given_at b token c m n (arms_of m.opened.items) r.0 x.1)
        (walks_steps k some p q clock dice (stage b token c m) (wanted (saw_names m.names b) (Planning token c.plan c.noreply c.count c.found (arms_of m.opened.items)))
        (steps_slot_denied k some p q (saw_names m.names b) token c.plan c.noreply c.count c.found (arms_of m.opened.items) slot h x.0))
  ]

  -- likewise a command
  pub run_refused : (p q : AtDesk) (clock : Source ℤ) (dice : Source (List ℕ)) (c : Course PL) (m n : Met) (slot : ℕ) (order : Order) → next_of k c ≡ RunSlot slot order → RefusedIn some p q m n slot (without_closed slot (closed_by order.cmd) (arms_of m.opened.items)) → StepsTo k some (tools p clock dice) (tools q clock dice) c c m n after.Denied
  run_refused p q clock dice c m n slot order h r b token = elim r.1 [
    | inl x ↦ subst (λ z. Walks k some (tools p clock dice) (tools z clock dice) (stage b token c m) (given_up b token c n)) (sym x.0)
        (subst (Walks k some (tools p clock dice) (tools p clock dice) (stage b token c m)) (given_at b token c m n (arms_of m.opened.items) r.0 (ap arms_of x.1)) (gives_up (tools p clock dice) c m b token))
    | inr x ↦ subst (Walks k some (tools p clock dice) (tools q clock dice) (stage b token c m)) (given_at b token c m n (without_closed slot (closed_by order.cmd) (arms_of m.opened.items)) r.0 x.1)
        (walks_steps k some p q clock dice (stage b token c m) (wanted (saw_names m.names b) (Planning token c.plan c.noreply c.count c.found (without_closed slot (closed_by order.cmd) (arms_of m.opened.items))))
        (steps_run_denied k some p q (saw_names m.names b) token c.plan c.noreply c.count c.found (arms_of m.opened.items) slot order h x.0))
  ]

  -- the clock told the time, or failed
  pub clock_step : (p : AtDesk) (clock later : Source ℤ) (dice : Source (List ℕ)) (c d : Course PL) (m : Met) (moment : Option ℤ) (next : Result Move Memory) (result : After) → next_of k c ≡ TellTime → Gives clock later moment →
      d ≡ heard_with (Clocked moment) c → IfOk next (λ move. move_of move ≡ next_of k d) → IsNext next result → StepsTo k some (tools p clock dice) (tools p later dice) c d m m result
  clock_step p clock later dice c d m moment next result h g e goes is =
      stepped (tools p clock dice) (tools p later dice) c d m m next result
      (walked (tools p clock dice) (tools p later dice) c d m m (Clocked moment) (arms_of m.opened.items) e refl
      (λ b token. walks_clocked k some p clock later dice (saw_names m.names b) token c.plan c.noreply c.count c.found (arms_of m.opened.items) moment h g))
      (met_still c d m m (Clocked moment) (λ ps. refl) e refl) goes is

  -- the dice were rolled, or failed
  pub dice_step : (p : AtDesk) (clock : Source ℤ) (dice later : Source (List ℕ)) (c d : Course PL) (m : Met) (bytes : Option (List ℕ)) (next : Result Move Memory) (result : After) → next_of k c ≡ Roll → Gives dice later bytes →
      d ≡ heard_with (Rolled bytes) c → IfOk next (λ move. move_of move ≡ next_of k d) → IsNext next result → StepsTo k some (tools p clock dice) (tools p clock later) c d m m result
  dice_step p clock dice later c d m bytes next result h g e goes is =
      stepped (tools p clock dice) (tools p clock later) c d m m next result
      (walked (tools p clock dice) (tools p clock later) c d m m (Rolled bytes) (arms_of m.opened.items) e refl
      (λ b token. walks_rolled k some p clock dice later (saw_names m.names b) token c.plan c.noreply c.count c.found (arms_of m.opened.items) bytes h g))
      (met_still c d m m (Rolled bytes) (λ ps. refl) e refl) goes is

  -- a course at a move
  pub record FollowedTo (w v : Tools) (c d : Course PL) (m n : Met) (next : Move) : Type 0 where
    pub walk : (b : Books) (token : ℕ) → Walks k some w v (stage b token c m) (stage b token d n)
    pub goes : next_of k d ≡ move_of next
    pub met : IsMet d n

  pub follow_begun : (w : Tools) (c d : Course PL) (m : Met) (next : Move) → d ≡ c → move_of next ≡ next_of k c → c.found ≡ [] → m.points.items ≡ [] → FollowedTo w w d d m m next
  follow_begun w c d m next same h e p = subst (λ z. FollowedTo w w z z m m next) (sym same) (record {
    walk = λ b token. walks_steps k some w.desk w.desk w.clock w.dice (stage b token c m) (stage b token c m) (steps_none k some w.desk (stage b token c m));
    goes = sym h;
    met = ap (points_from []) e ∙ ap (put_points []) (sym p);
  })

  pub follows_from : (w v : Tools) (c d e : Course PL) (m n : Met) (r : Reached) → d ≡ c → Follows k some w v d e m n r → Follows k some w v c e m n r
  follows_from w v c d e m n r same f = subst (λ z. Follows k some w v z e m n r) same f

  pub follow_on : (w v u : Tools) (c d e : Course PL) (l m n : Met) (next later : Move) → FollowedTo w v c d l m next → StepsTo k some v u d e m n (after.On later) → FollowedTo w u c e l n later
  follow_on w v u c d e l m n next later f s = record {
    walk = λ b token. walks_on k some w v u (stage b token c l) (stage b token d m) (stage b token e n) (f.walk b token) (s.0 b token);
    goes = s.1;
    met = s.2 f.met;
  }

  pub follow_ends : (w v u : Tools) (c d e : Course PL) (l m n : Met) (next : Move) (a : Answered) → FollowedTo w v c d l m next → StepsTo k some v u d e m n (after.Ends a) → Follows k some w u c e l n (reached.Ends a)
  follow_ends w v u c d e l m n next a f s = subst (λ (z : Tools × Course PL × Met). Follows k some w z.0 c z.1 l z.2 (reached.Ends a)) (λ i. (sym s.1 i, sym s.2 i, sym s.3 i)) (f.walk, s.0, f.met)

  pub follow_denied : (w v u : Tools) (c d e : Course PL) (l m n : Met) (next : Move) → FollowedTo w v c d l m next → StepsTo k some v u d e m n after.Denied → Follows k some w u c e l n reached.Denied
  follow_denied w v u c d e l m n next f s b token = walks_on k some w v u (stage b token c l) (stage b token d m) (given_up b token e n) (f.walk b token) (s b token)

  -- memory was wanted before the first move, or at the one that would come
  pub follow_given_up : (w v : Tools) (c d : Course PL) (m n : Met) (next : Move) → FollowedTo w v c d m n next → Follows k some w v c d m n reached.Denied
  follow_given_up w v c d m n next f b token = walks_on k some w v v (stage b token c m) (stage b token d n) (given_up b token d n) (f.walk b token) (gives_up v d n b token)

  pub follow_unbegun : (w : Tools) (c d : Course PL) (m : Met) → d ≡ c → Follows k some w w c d m m reached.Denied
  follow_unbegun w c d m e b token = subst (λ z. Walks k some w w (stage b token c m) (given_up b token z m)) (sym e) (gives_up w c m b token)
