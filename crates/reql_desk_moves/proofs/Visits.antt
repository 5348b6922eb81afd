-- A visit, arm by arm.
use Rattle.std.proofs.Common.{◌≡◌, ℕ, zero, ◌+◌, ◌<◌, ◌≤◌, get_or, Bool, true, false, true≢false, List, [], ◌∷◌, ◌++◌, length, map, drop, Option, Some, refl, sym, ap, subst, ◌∙◌, arith}
use Rattle.std.proofs.Math.ListN.{drop_of_length-le}
use Rattle.reql_datum.specs.Plain.{Plain}
use Rattle.reql_datum.specs.declared.point.Point.{Point}
use Rattle.reql_table_machine_spec.specs.declared.command.Said.{Said}
use Rattle.reql_table_machine_spec.specs.declared.command.Said.TheVariants as said
use Rattle.reql_write_spec.specs.declared.command.Summary.{Summary}
use Rattle.reql_table_spec.specs.Machine.{State}
use Rattle.reql_table_spec.specs.Replies.{Answered, told_of}
use Rattle.reql_table_spec.specs.declared.reply.Reply.{Reply}
use Rattle.reql_session_spec.specs.Requests.{Arm, Internal, point, put_point}
use Rattle.reql_session_spec.specs.Books.{Books, Open, feed_of, waits}
use Rattle.reql_session_spec.specs.Tasks.{Talk, Next, Visiting, at, done, only_tell, next_arm, took, took_said, take_order}
use Rattle.reql_session_api.specs.Meant.{arm_of}
use Rattle.reql_desk_moves.specs.Acting.{AtDesk, tells_something, TakesArm}
use Rattle.reql_desk_moves.specs.Steps.{Steps, put_points, VisitsArms}
use Rattle.reql_session_api.specs.declared.answered.Arm as coded
use Rattle.reql_desk_moves.specs.declared.taking.Taken.TheVariants as taken
use Rattle.reql_desk_moves.specs.declared.taking.Visited.TheVariants as visited
use Rattle.reql_desk_moves.proofs.Stepping.{next_in, drop_map, steps_none, steps_on, steps_ran, steps_denied, steps_want}

pub put_more : (ps qs : List Point) (q : Point) → put_points ps (qs ++ q ∷ []) ≡ put_point q (put_points ps qs)
put_more ps [] q = refl
put_more ps (x ∷ qs) q = put_more (put_point x ps) qs q

module _ {PL : Type 0} (k : Talk PL) (some : State) where
  -- a Take that finds nothing goes on to the next arm
  next_so : (b : Books) (f : Open) (arm : Arm) (arms : List Arm) (points : List Point) (s : Said Summary Plain) → tells_something s ≡ false → took_said k b f arm arms points s ≡ next_arm k b f.token arms points
  next_so b f arm arms points (said.Batch x y z) e = absurd (true≢false e)
  next_so b f arm arms points said.Gone e = absurd (true≢false e)
  next_so b f arm arms points (said.HistoryFull x) e = absurd (true≢false e)
  next_so b f arm arms points other e = refl

  takes_at : (b : Books) (f : Open) (arm : Arm) (arms : List Arm) (points : List Point) (reply : Answered) → feed_of f.token b.feeds ≡ Some f → took k b f.token arm arms points reply (feed_of f.token b.feeds) ≡ took_said k b f arm arms (put_point (point arm.slot reply.place reply.stamp) points) reply.said
  takes_at b f arm arms points reply e = ap (took k b f.token arm arms points reply) e

  -- a visit that came to an arm of the slice, with these points seen
  abbrev pub VisitAt : AtDesk → AtDesk → Books → Open → List coded.Arm → ℕ → List Point → Type 0
  VisitAt p q b f arms i seen = Steps k some p q (at b (Visiting f.token f.arms [])) (next_arm k b f.token (map arm_of (drop i arms)) (put_points [] seen))

  pub visit_begins : (p : AtDesk) (b : Books) (f : Open) (arms : List coded.Arm) → f.arms ≡ map arm_of arms → (length arms ≡ 0 → ⊥) → VisitAt p p b f arms 0 []
  visit_begins p b f [] e h = absurd (h refl)
  visit_begins p b f (x ∷ xs) e h = subst (λ z. Steps k some p p (at b (Visiting f.token z [])) (at b (Visiting f.token (map arm_of (x ∷ xs)) []))) (sym e) (steps_none k some p (at b (Visiting f.token (map arm_of (x ∷ xs)) [])))

  visit_here : (p q : AtDesk) (b : Books) (f : Open) (arms : List coded.Arm) (i : ℕ) (arm : coded.Arm) (seen : List Point) → i < length arms → arm ≡ get_or arms i arm → VisitAt p q b f arms i seen →
      Steps k some p q (at b (Visiting f.token f.arms [])) (at b (Visiting f.token (arm_of arm ∷ map arm_of (drop (i + 1) arms)) (put_points [] seen)))
  visit_here p q b f arms i arm seen h is v = subst (λ z. Steps k some p q (at b (Visiting f.token f.arms [])) (next_arm k b f.token z (put_points [] seen))) (next_in arm_of arms i arm arm h is) v

  pub visit_next : (p q r : AtDesk) (b : Books) (f : Open) (arms : List coded.Arm) (i : ℕ) (arm : coded.Arm) (batch : ℕ) (met : Point) (seen : List Point) → feed_of f.token b.feeds ≡ Some f → f.batch ≡ batch → i < length arms → arm ≡ get_or arms i arm → VisitAt p q b f arms i seen →
      TakesArm some q r arm batch (taken.Nothing met) → VisitAt p r b f arms (i + 1) (seen ++ met ∷ [])
  visit_next p q r b f arms i arm batch met seen e n h is v t =
      let rest : List Arm = map arm_of (drop (i + 1) arms) in
      let before : List Point = put_points [] seen in
      let after : List Point = put_points [] (seen ++ met ∷ []) in
      let points : put_point (point arm.slot t.0.place t.0.stamp) before ≡ after = ap (λ z. put_point z before) (sym t.3) ∙ sym (put_more [] seen met) in
      steps_on k some p q r (at b (Visiting f.token f.arms [])) (at b (Visiting f.token (arm_of arm ∷ rest) before)) (next_arm k b f.token rest after) (visit_here p q b f arms i arm seen h is v)
      (steps_ran k some q r b (Visiting f.token (arm_of arm ∷ rest) before) (next_arm k b f.token rest after) arm.slot (take_order arm.feed batch) t.0 t.1 (f, e, refl, ap (take_order arm.feed) (sym n))
      (takes_at b f (arm_of arm) rest before t.0 e ∙ next_so b f (arm_of arm) rest (put_point (point arm.slot t.0.place t.0.stamp) before) t.0.said t.2 ∙ ap (next_arm k b f.token rest) points) t.4)

  pub visit_took : (p q r : AtDesk) (b : Books) (f : Open) (arms : List coded.Arm) (i : ℕ) (arm : coded.Arm) (batch : ℕ) (reply : Reply) (met : Point) (seen : List Point) → feed_of f.token b.feeds ≡ Some f → f.arms ≡ map arm_of arms → f.batch ≡ batch → i < length arms → arm ≡ get_or arms i arm → VisitAt p q b f arms i seen →
      TakesArm some q r arm batch (taken.Answered reply met) → VisitsArms k some p r b f (visited.Took i reply (seen ++ met ∷ []))
  visit_took p q r b f arms i arm batch reply met seen e s n h is v t =
      let rest : List Arm = map arm_of (drop (i + 1) arms) in
      let before : List Point = put_points [] seen in
      let after : List Point = put_points [] (seen ++ met ∷ []) in (
        arm_of arm,
        rest,
        ap (drop i) s ∙ drop_map arm_of arms i ∙ next_in arm_of arms i arm arm h is,
        t.0,
        steps_on k some p q r (at b (Visiting f.token f.arms [])) (at b (Visiting f.token (arm_of arm ∷ rest) before)) (took_said k b f (arm_of arm) rest after (told_of reply).said) (visit_here p q b f arms i arm seen h is v)
            (steps_ran k some q r b (Visiting f.token (arm_of arm ∷ rest) before) (took_said k b f (arm_of arm) rest after (told_of reply).said) arm.slot (take_order arm.feed batch) (told_of reply) reply.saved (f, e, refl, ap (take_order arm.feed) (sym n))
            (takes_at b f (arm_of arm) rest before (told_of reply) e ∙ ap (λ z. took_said k b f (arm_of arm) rest z (told_of reply).said) (ap (λ z. put_point z before) (sym t.1) ∙ sym (put_more [] seen met))) t.2),
      )

  pub visit_denied : (p q r : AtDesk) (b : Books) (f : Open) (arms : List coded.Arm) (i : ℕ) (arm : coded.Arm) (batch : ℕ) (seen : List Point) → feed_of f.token b.feeds ≡ Some f → f.batch ≡ batch → i < length arms → arm ≡ get_or arms i arm → VisitAt p q b f arms i seen →
      TakesArm some q r arm batch taken.Denied → VisitsArms k some p r b f visited.Denied
  visit_denied p q r b f arms i arm batch seen e n h is v t =
      let rest : List Arm = map arm_of (drop (i + 1) arms) in
      steps_on k some p q r (at b (Visiting f.token f.arms [])) (at b (Visiting f.token (arm_of arm ∷ rest) (put_points [] seen))) (only_tell b f.token Internal) (visit_here p q b f arms i arm seen h is v)
      (steps_denied k some q r b (Visiting f.token (arm_of arm ∷ rest) (put_points [] seen)) (only_tell b f.token Internal) arm.slot (take_order arm.feed batch) (f, e, refl, ap (take_order arm.feed) (sym n)) refl t)

  pub visit_all : (p q : AtDesk) (b : Books) (f : Open) (arms : List coded.Arm) (i : ℕ) (seen : List Point) → length arms ≤ i → VisitAt p q b f arms i seen → VisitsArms k some p q b f visited.Waits
  visit_all p q b f arms i seen h v = subst (λ z. Steps k some p q (at b (Visiting f.token f.arms [])) (next_arm k b f.token (map arm_of z) (put_points [] seen))) (drop_of_length-le arms h) v

  pub visit_want : (p : AtDesk) (b : Books) (f : Open) → VisitsArms k some p p b f visited.Denied
  visit_want p b f = steps_want k some p b (Visiting f.token f.arms [])

  pub as_seen : (p q : AtDesk) (b : Books) (f : Open) (arms : List coded.Arm) (i : ℕ) (seen now : List Point) → seen ≡ now → VisitAt p q b f arms i seen → VisitAt p q b f arms i now
  as_seen p q b f arms i seen now e v = subst (VisitAt p q b f arms i) e v

  pub took_as_seen : (p q : AtDesk) (b : Books) (f : Open) (i : ℕ) (reply : Reply) (seen now : List Point) → seen ≡ now → VisitsArms k some p q b f (visited.Took i reply seen) → VisitsArms k some p q b f (visited.Took i reply now)
  took_as_seen p q b f i reply seen now e v = subst (λ z. VisitsArms k some p q b f (visited.Took i reply z)) e v
