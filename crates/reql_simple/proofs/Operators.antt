-- Operators among terms, and variables.
use Rattle.std.proofs.Common.{◌≡◌, ℕ, suc, List, [], ◌∷◌, Bool, true, Option, Some, None, IfSome, Ok, Err, if◌then◌else◌, length, get_or, refl, ap, sym, ◌∙◌, arith}
use Rattle.reql_datum.specs.Answer.{Answer}
use Rattle.reql_datum.specs.Plain.{Plain}
use Rattle.reql_term.specs.Form.{Form}
use Rattle.reql_term.specs.Table.{way_of}
use Rattle.reql_term.specs.View.{form_of}
use Rattle.reql_term.specs.declared.op.Op.{Op}
use Rattle.reql_term.specs.declared.term.Term.{Term}
use Rattle.reql_rules.specs.Faults.{misplaced}
use Rattle.reql_rules.specs.Lists.{Bytes}
use Rattle.reql_rules.specs.Sizes.{within}
use Rattle.reql_value_spec.specs.Meaning.{sense, sense_of, sense_by, is_fit, bound as bound_to}
use Rattle.reql_value_spec.specs.Sense.{Sense, plain}
use Rattle.reql_value_spec.specs.Table.{rule_of}
use Rattle.reql_value_spec.specs.World.{World, Vars}
use Rattle.reql_term_analysis.specs.Bound.{listed, optional}
use Rattle.reql_simple.specs.Found.{document}
use Rattle.reql_simple.specs.Stands.{Stands, role_sense}
use Rattle.reql_simple.specs.declared.lying.Found.{Found}
use Rattle.reql_simple.specs.declared.roles.Role.{Role}

-- the value of a variable, within the limits
pub bound_stands : (limit : ℕ) (find : Vars → Answer Plain) (vars : Vars) (d e : Plain) → find vars ≡ Ok d → e ≡ d → within limit e ≡ Ok e → Stands limit (plain (bound_to find)) vars e
bound_stands limit find vars d e h same k w l = rw (h, ← same, l, k) refl

-- an operator without options, whose count of arguments is right
pub operator_stands : (limit : ℕ) (o : Op) (ss : List Sense) (ms : List (Bytes × Form)) (role : Role) (vars : Vars) (d : Plain)
    → length ms ≡ 0 → is_fit o ss (optional ms) ≡ true → sense_by (way_of o) (rule_of o) ss [] ≡ role_sense role ss
    → Stands limit (role_sense role ss) vars d → Stands limit (sense_of o ss (optional ms)) vars d
operator_stands limit o ss [] role vars d none fit is stands =
    let e : sense_of o ss [] ≡ role_sense role ss = ap (λ (b : Bool). if b then sense_by (way_of o) (rule_of o) ss [] else plain (λ w frames. Err misplaced)) fit ∙ is in
    rw e stands
operator_stands limit o ss (m ∷ ms) role vars d none fit is stands = absurd (omega (arith, none))

-- where what it stands for is found
pub operator_found : (limit : ℕ) (o : Op) (ss : List Sense) (ms : List (Bytes × Form)) (role : Role) (vars : Vars) (r : Option Found)
    → length ms ≡ 0 → is_fit o ss (optional ms) ≡ true → sense_by (way_of o) (rule_of o) ss [] ≡ role_sense role ss
    → IfSome r (λ x. Stands limit (role_sense role ss) vars (document x)) → IfSome r (λ x. Stands limit (sense_of o ss (optional ms)) vars (document x))
operator_found limit o ss ms role vars None none fit is found = tt
operator_found limit o ss ms role vars (Some x) none fit is found = operator_stands limit o ss ms role vars (document x) none fit is found

-- one term, and two
pub one_listed : (ts : List Term) (t : Term) → length ts ≡ 1 → t ≡ get_or ts 0 t → listed ts ≡ sense (form_of t) ∷ []
one_listed [] t n h = absurd (omega (arith, n))
one_listed (u ∷ []) t n h = ap (λ x. sense (form_of x) ∷ []) (sym h)
one_listed (u ∷ v ∷ ts) t n h = absurd (omega (arith, n))

pub two_listed : (ts : List Term) (t u : Term) → length ts ≡ 2 → t ≡ get_or ts 0 t → u ≡ get_or ts 1 u → listed ts ≡ sense (form_of t) ∷ sense (form_of u) ∷ []
two_listed [] t u n h k = absurd (omega (arith, n))
two_listed (x ∷ []) t u n h k = absurd (omega (arith, n))
two_listed (x ∷ y ∷ []) t u n h k = rw (← h, ← k) refl
two_listed (x ∷ y ∷ z ∷ ts) t u n h k = absurd (omega (arith, n))
