-- A request is followed to its end.
use Rattle.std.proofs.Common.{◌≡◌, ℕ, Bool, false, List, [], ◌++◌, cond, Option, Some, None, sym, ap, subst, ◌∙◌, arith}
use Rattle.reql_outside.specs.Tape.{Tape}
use Rattle.reql_datum.specs.declared.point.Point.{Point}
use Rattle.reql_table_spec.specs.Machine.{State}
use Rattle.reql_table_spec.specs.declared.limits.Limits.{Limits}
use Rattle.reql_session_spec.specs.Requests.{Arm, Answered, Ends, Internal, points_from}
use Rattle.reql_session_spec.specs.Books.{Books, has_token, is_open, opened, saw_names}
use Rattle.reql_session_spec.specs.Tasks.{Talk, Next, Planning, Settled, at, close, lesser}
use Rattle.reql_session_spec.specs.declared.end.End.{End}
use Rattle.reql_session_api.specs.World.{AtWork}
use Rattle.reql_session_api.specs.Meant.{Course, next_of, answered_of, arms_of}
use Rattle.reql_session_api.specs.declared.answered.Answered.{Answered as Coded}
use Rattle.reql_session_api.specs.declared.answered.Arm as coded
use Rattle.reql_desk_moves.specs.Acting.{AreThere}
use Rattle.reql_desk_moves.specs.Steps.{put_points}
use Rattle.reql_plan_driver.specs.Walking.{Tools, Follows, IsSame, stage, given_up}
use Rattle.reql_plan_driver.specs.declared.met.Met.{Met}
use Rattle.reql_plan_driver.specs.declared.following.Reached.{Reached}
use Rattle.reql_plan_driver.specs.declared.following.Reached.TheVariants as reached
use Rattle.reql_session.specs.Settling.{working, Leads, Settles}
use Rattle.reql_session.specs.Ending.{Reaches, on_course}
use Rattle.reql_session.specs.Keeping.{Keeps}
use Rattle.reql_session.proofs.Settled.{settles_on, leads_walks}
use Rattle.reql_session.proofs.Keeping.{keeps_names}

-- no arms are there
pub none_there : (n : ℕ) (arms : List coded.Arm) → arms ≡ [] → AreThere n arms
none_there n arms e = subst (AreThere n) (sym e) (λ k d h. absurd (omega (arith, h)))

-- the same books, in which the names were seen
pub still_ended : (n : ℕ) (rest : List ℕ) (token place : ℕ) (a b new : Books) → a ≡ saw_names place b →
    (is_open token a ≡ false → has_token token (a.waiting ++ rest) ≡ false → Keeps n rest a → Keeps n rest new) →
    is_open token b ≡ false → has_token token (b.waiting ++ rest) ≡ false → Keeps n rest b → Keeps n rest new
still_ended n rest token place a b new e f o w k =
    f (subst (λ (z : Books). is_open token z ≡ false) (sym e) o) (subst (λ (z : Books). has_token token (z.waiting ++ rest) ≡ false) (sym e) w) (subst (Keeps n rest) (sym e) (keeps_names n rest b place k))

module _ {PL : Type 0} where
  abbrev pub begun : PL → Bool → ℕ → Course PL
  begun plan noreply count = record { plan = plan; noreply = noreply; count = count; found = [] }

  -- a course that has met nothing yet
  pub first_stage : (b : Books) (token : ℕ) (plan : PL) (noreply : Bool) (count : ℕ) (c : Course PL) (m : Met) → c ≡ begun plan noreply count → count ≡ opened b → m.names ≡ b.names → m.opened.items ≡ [] →
      stage b token c m ≡ at b (Planning token plan noreply (opened b) [] [])
  first_stage b token plan noreply count c m begins counts names none =
      ap (λ (z : Course PL). at (saw_names m.names b) (Planning token z.plan z.noreply z.count z.found (arms_of m.opened.items))) begins
      ∙ ap (λ n. at (saw_names m.names b) (Planning token plan noreply n [] (arms_of m.opened.items))) counts
      ∙ ap (λ n. at (saw_names n b) (Planning token plan noreply (opened b) [] (arms_of m.opened.items))) names
      ∙ ap (λ arms. at (saw_names b.names b) (Planning token plan noreply (opened b) [] (arms_of arms))) none

module _ {PL : Type 0} (k : Talk PL) where
  -- what it reaches, in batches of the size of its plan
  pub reaches_end : (c d : Course PL) (plan : PL) (noreply : Bool) (count : ℕ) (to : Answered) (has : Limits) (asked : List Point) (n most : ℕ) → c ≡ begun plan noreply count → IsSame c d → has ≡ k.limits → n ≡ k.batch plan → most ≡ lesser n has.batch →
      next_of k d ≡ Ends to → points_from [] d.found ≡ put_points [] asked → Reaches k d to has asked most
  reaches_end c d plan noreply count to has asked n most begins same limits size least next points = record {
    limits = sym limits;
    next = next;
    points = points;
    batch = least ∙ ap (λ z. lesser z has.batch) size ∙ ap (λ (l : Limits). lesser (k.batch plan) l.batch) limits ∙ ap (λ p. lesser (k.batch p) k.limits.batch) (sym (same.0 ∙ ap (λ (z : Course PL). z.plan) begins));
  }

  pub same_noreply : (c d : Course PL) (plan : PL) (noreply : Bool) (count : ℕ) → c ≡ begun plan noreply count → IsSame c d → d.noreply ≡ noreply
  same_noreply c d plan noreply count begins same = same.1 ∙ ap (λ (z : Course PL). z.noreply) begins

  pub ends_next : (some : State) (p q : Tools) (c d : Course PL) (m n : Met) (r : Reached) (to : Coded) → r ≡ reached.Ends to → Follows k some p q c d m n r → next_of k d ≡ Ends (answered_of to)
  ends_next some p q c d m n r to is f = (subst (Follows k some p q c d m n) is f).1

  pub ends_points : (some : State) (p q : Tools) (c d : Course PL) (m n : Met) (r : Reached) (to : Coded) → r ≡ reached.Ends to → Follows k some p q c d m n r → points_from [] d.found ≡ put_points [] n.points.items
  ends_points some p q c d m n r to is f = (subst (Follows k some p q c d m n) is f).2

  -- it comes to its end
  pub starts_ends : (some : State) (t s u : Tape) (v : AtWork) (p q : Tools) (c d : Course PL) (m n : Met) (r : Reached) (to : Coded) (a b : Books) (token : ℕ) (x : Next PL) (end : Option End) → r ≡ reached.Ends to → Follows k some p q c d m n r →
      stage b token c m ≡ x → s ≡ t → a ≡ saw_names n.names b → Settles k s u (working some q.desk a q.clock q.dice) v (on_course a token d (arms_of n.opened.items)) end → Settles k t u (working some p.desk b p.clock p.dice) v x end
  starts_ends some t s u v p q c d m n r to a b token x end is f begins unsaid saw told =
      settles_on k t t u (working some p.desk b p.clock p.dice) (working some q.desk a q.clock q.dice) v x (stage b token d n) end
      (subst (λ z. Leads k t t (working some p.desk b p.clock p.dice) (working some q.desk a q.clock q.dice) z (stage b token d n)) begins (leads_walks k some t p q b a (stage b token c m) (stage b token d n) ((subst (Follows k some p q c d m n) is f).0 b token)))
      (subst (λ z. Settles k t u (working some q.desk a q.clock q.dice) v (on_course z token d (arms_of n.opened.items)) end) saw
      (subst (λ z. Settles k z u (working some q.desk a q.clock q.dice) v (on_course a token d (arms_of n.opened.items)) end) unsaid told))

  -- memory was wanted
  pub starts_denied : (some : State) (t s u : Tape) (v : AtWork) (p q : Tools) (c d : Course PL) (m n : Met) (r : Reached) (a b : Books) (token : ℕ) (noreply : Bool) (xs : List Arm) (x : Next PL) (end : Option End) → r ≡ reached.Denied → Follows k some p q c d m n r →
      stage b token c m ≡ x → d.noreply ≡ noreply → s ≡ t → a ≡ saw_names n.names b → xs ≡ arms_of n.opened.items → Settles k s u (working some q.desk a q.clock q.dice) v (close a token xs Settled (cond noreply None (Some Internal))) end →
      Settles k t u (working some p.desk b p.clock p.dice) v x end
  starts_denied some t s u v p q c d m n r a b token noreply xs x end is f begins wants unsaid saw xs_are told =
      settles_on k t t u (working some p.desk b p.clock p.dice) (working some q.desk a q.clock q.dice) v x (given_up b token d n) end
      (subst (λ z. Leads k t t (working some p.desk b p.clock p.dice) (working some q.desk a q.clock q.dice) z (given_up b token d n)) begins (leads_walks k some t p q b a (stage b token c m) (given_up b token d n) ((subst (Follows k some p q c d m n) is f) b token)))
      (subst (λ z. Settles k t u (working some q.desk a q.clock q.dice) v (close (saw_names n.names b) token (arms_of n.opened.items) Settled (cond z None (Some Internal))) end) (sym wants)
      (subst (λ z. Settles k t u (working some q.desk a q.clock q.dice) v (close (saw_names n.names b) token z Settled (cond noreply None (Some Internal))) end) xs_are
      (subst (λ z. Settles k t u (working some q.desk a q.clock q.dice) v (close z token xs Settled (cond noreply None (Some Internal))) end) saw
      (subst (λ z. Settles k z u (working some q.desk a q.clock q.dice) v (close a token xs Settled (cond noreply None (Some Internal))) end) unsaid told))))
