-- A course comes to its end.
use Rattle.std.proofs.Common.{◌≡◌, ◌≤◌, ℕ, true, List, [], length, take, drop, cond, Option, Some, None, refl, sym, ap, subst, ◌∙◌, arith}
use Rattle.std.specs.Prelude.{nat_le}
use Rattle.std.proofs.lemmas.Bool.Decides.{nat_tests}
use Rattle.reql_datum.specs.Plain.{Plain}
use Rattle.reql_datum.specs.declared.point.Point.{Point}
use Rattle.reql_answer.specs.declared.error.ErrorType.{ErrorType}
use Rattle.reql_table_spec.specs.declared.limits.Limits.{Limits}
use Rattle.reql_outside.specs.Tape.{Tape}
use Rattle.reql_session_spec.specs.Requests.{Arm, Answered, Ends, Unsent, One, Stream, Fault, Wanting, Internal, Atom, Last, Part, Failed, points_from, stamped}
use Rattle.reql_session_spec.specs.Books.{Books, with_cursor}
use Rattle.reql_session_spec.specs.Tasks.{Talk, Next, Settled, close, settle, tell, comes_to, batch_size}
use Rattle.reql_session_spec.specs.declared.end.End.{End}
use Rattle.reql_session_api.specs.World.{AtWork}
use Rattle.reql_session_api.specs.Meant.{Course, next_of}
use Rattle.reql_desk_moves.specs.Steps.{put_points}
use Rattle.reql_session.specs.Settling.{Leads, Settles}
use Rattle.reql_session.specs.Ending.{Reaches, seen_at, on_course}
use Rattle.reql_session.proofs.Settled.{settles_on, leads_come}

fits : (m n : ℕ) → n ≤ m → nat_le n m ≡ true
fits m n h = grind (arith, nat_tests)

module _ {PL : Type 0} (k : Talk PL) where
  -- with arms that are equal to these
  pub with_arms : (t u : Tape) (w v : AtWork) (b : Books) (token : ℕ) (c : Course PL) (xs arms : List Arm) (end : Option End) → xs ≡ arms → Settles k t u w v (on_course b token c xs) end → Settles k t u w v (on_course b token c arms) end
  with_arms t u w v b token c xs arms end e s = subst (λ z. Settles k t u w v (on_course b token c z) end) e s

  -- by what it comes to
  pub course_ends : (t u : Tape) (w v : AtWork) (b : Books) (token : ℕ) (c : Course PL) (arms : List Arm) (to : Answered) (x : Next PL) (end : Option End) → next_of k c ≡ Ends to → comes_to k b token (batch_size k c.plan) c.found arms to ≡ x →
      Settles k t u w v x end → Settles k t u w v (on_course b token c arms) end
  course_ends t u w v b token c arms to x end next e s =
      settles_on k t t u w w v (on_course b token c arms) x end (subst (λ z. Leads k t t w w (on_course b token c arms) z) e (leads_come k t w b token c arms to next)) s

  -- by another name for what it comes to, and for the slots that it asked
  pub reaches_as : (c : Course PL) (to as_told : Answered) (has : Limits) (asked seen : List Point) (most : ℕ) → to ≡ as_told → seen ≡ asked → Reaches k c to has asked most → Reaches k c as_told has seen most
  reaches_as c to as_told has asked seen most e p r = record { limits = r.limits; next = subst (λ z. next_of k c ≡ Ends z) e r.next; points = r.points ∙ ap (put_points []) (sym p); batch = r.batch }

  -- nothing is sent, or memory was wanted
  pub ends_unsent : (t u : Tape) (w v : AtWork) (b : Books) (token : ℕ) (c : Course PL) (xs arms : List Arm) (has : Limits) (asked : List Point) (most : ℕ) (end : Option End) → Reaches k c Unsent has asked most → xs ≡ arms →
      Settles k t u w v (close b token xs Settled None) end → Settles k t u w v (on_course b token c arms) end
  ends_unsent t u w v b token c xs arms has asked most end r is s =
      with_arms t u w v b token c xs arms end is (course_ends t u w v b token c xs Unsent (close b token xs Settled None) end r.next refl s)

  pub ends_wanting : (t u : Tape) (w v : AtWork) (b : Books) (token : ℕ) (c : Course PL) (xs arms : List Arm) (has : Limits) (asked : List Point) (most : ℕ) (end : Option End) → Reaches k c Wanting has asked most → xs ≡ arms →
      Settles k t u w v (close b token xs Settled (Some Internal)) end → Settles k t u w v (on_course b token c arms) end
  ends_wanting t u w v b token c xs arms has asked most end r is s =
      with_arms t u w v b token c xs arms end is (course_ends t u w v b token c xs Wanting (close b token xs Settled (Some Internal)) end r.next refl s)

  -- one value, a stream that has no more, a fault
  pub one_comes : (c : Course PL) (v : Plain) (has : Limits) (asked : List Point) (most : ℕ) → Reaches k c (One v) has asked most → (b : Books) (token : ℕ) (arms : List Arm) →
      comes_to k b token (batch_size k c.plan) c.found arms (One v) ≡ settle k b token arms (Atom v (seen_at b.names asked))
  one_comes c v has asked most r b token arms = ap (λ ps. settle k b token arms (Atom v (stamped b.names ps))) r.points

  pub fault_comes : (c : Course PL) (error : ErrorType) (why : List ℕ) (has : Limits) (asked : List Point) (most : ℕ) → Reaches k c (Fault error why) has asked most → (b : Books) (token : ℕ) (arms : List Arm) →
      comes_to k b token (batch_size k c.plan) c.found arms (Fault error why) ≡ settle k b token arms (Failed error why (Some (seen_at b.names asked)))
  fault_comes c error why has asked most r b token arms = ap (λ ps. settle k b token arms (Failed error why (Some (stamped b.names ps)))) r.points

  pub last_comes : (c : Course PL) (vs : List Plain) (has : Limits) (asked : List Point) (most : ℕ) → Reaches k c (Stream vs) has asked most → length vs ≤ most → (b : Books) (token : ℕ) (arms : List Arm) →
      comes_to k b token (batch_size k c.plan) c.found arms (Stream vs) ≡ settle k b token arms (Last vs (Some (seen_at b.names asked)))
  last_comes c vs has asked most r all b token arms =
      ap (λ n. comes_to k b token n c.found arms (Stream vs)) (sym r.batch)
      ∙ ap (λ z. cond z (settle k b token arms (Last vs (Some (stamped b.names (points_from [] c.found))))) (tell k b token (Part (take most vs) (Some (stamped b.names (points_from [] c.found)))) (with_cursor (record { token = token; rest = drop most vs; batch = most }) b) arms None)) (fits most (length vs) all)
      ∙ ap (λ ps. settle k b token arms (Last vs (Some (stamped b.names ps)))) r.points
