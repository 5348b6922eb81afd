-- A moment that the clock told, in its range or not.
use mir.Val.{SFits, of_z, to_z}
use mir.Syntax.{w64}
use Rattle.std.proofs.lemmas.Int.{to_z-of_z}
use Rattle.std.proofs.Common.{◌≡◌, ℤ, List, Option, Some, None, Bool, true, false, if◌then◌else◌, cond, Result, refl, subst}
use Rattle.reql_datum.specs.Answer.{Reason}
use Rattle.reql_datum.specs.Whole.{is_in}
use Rattle.reql_datum.specs.declared.whole.NumFault.TheVariants.{OverRange}
use Rattle.reql_term.specs.Views.{Document, Entry}
use Rattle.reql_rules.specs.Faults.{number_fault}
use Rattle.reql_rules.specs.Lists.{Bytes}
use Rattle.reql_table_spec.specs.Indexes.{Indexes}
use Rattle.reql_plan_spec.specs.Course.{moment_in_range}
use Rattle.reql_plan_spec.specs.Request.{Request, give, refuse}
use Rattle.reql_plan_state.specs.Turn.{Turns}
use Rattle.reql_plan_state.specs.declared.stage.Turn.{Turn}

module _ {V E : Type 0} (documents : V → List Document) (indexes : V → Indexes) (entries : V → Bytes → List Entry) where
  by_test : (b : Bool) (r : Result (Turn V) E) (n m : ℤ) (why : Reason) (on : ℤ → Request) → Some m ≡ (if b then Some n else None) → Turns documents indexes entries r (on m) → Turns documents indexes entries r (cond b (give n) (refuse why) on)
  by_test true r n m why on h is = let q : m ≡ n = cc in subst (λ (k : ℤ). Turns documents indexes entries r (on k)) q is
  by_test false r n m why on h is = absurd (let f : Some m ≡ None = h in cc)

  pub in_range : (r : Result (Turn V) E) (n m : ℤ) (on : ℤ → Request) → Some m ≡ (if is_in n then Some n else None) → Turns documents indexes entries r (on m) → Turns documents indexes entries r (moment_in_range n on)
  in_range r n m on h is = by_test (is_in n) r n m (number_fault OverRange) on h is

no_moment : (b : Bool) (n : ℤ) (why : Reason) (on : ℤ → Request) → None ≡ (if b then Some n else None) → cond b (give n) (refuse why) on ≡ refuse why on
no_moment true n why on h = absurd (let f : None ≡ Some n = h in cc)
no_moment false n why on h = refl

pub over_range : (n : ℤ) (on : ℤ → Request) → None ≡ (if is_in n then Some n else None) → moment_in_range n on ≡ refuse (number_fault OverRange) on
over_range n on h = no_moment (is_in n) n (number_fault OverRange) on h

-- what is passed at its width is the moment
pub at_width : (n m : ℤ) → SFits w64 n → Some m ≡ (if is_in (to_z w64 (of_z w64 n)) then Some (to_z w64 (of_z w64 n)) else None) → Some m ≡ (if is_in n then Some n else None)
at_width n m fits is = subst (λ (k : ℤ). Some m ≡ (if is_in k then Some k else None)) (to_z-of_z w64 n fits) is
