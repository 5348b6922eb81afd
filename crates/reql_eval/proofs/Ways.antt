-- What operators denote, by how they take their arguments.
use Rattle.std.proofs.Common.{◌≡◌, ℕ, suc, List, [], ◌∷◌, Result, Err, true, false, refl, ap, sym, ◌∙◌, nat_eq, arith, length, get_or, map, ◌<◌, ◌⊎◌, inl, inr}
use Rattle.std.proofs.lemmas.Bool.Decides.{nat_tests}
use Rattle.reql_datum.specs.Answer.{Answer, Reason}
use Rattle.reql_datum.specs.Outcome.{Gives}
use Rattle.reql_datum.specs.Plain.{Plain}
use Rattle.reql_datum.specs.View.{plain as plain_of}
use Rattle.reql_datum.specs.declared.datum.Datum.{Datum}
use Rattle.reql_datum.specs.declared.fault.Fault.{Fault}
use Rattle.reql_term.specs.Form.{Form}
use Rattle.reql_term.specs.View.{form_of}
use Rattle.reql_term.specs.declared.role.Way.{Way}
use Rattle.reql_term.specs.declared.role.Way.TheVariants as way
use Rattle.reql_term.specs.declared.term.Term.{Term}
use Rattle.reql_rules.specs.Faults.{misplaced, wrong_count}
use Rattle.reql_rules.specs.Lists.{Bytes}
use Rattle.reql_value_spec.specs.Lazy.{chained, branch, default}
use Rattle.reql_value_spec.specs.Meaning.{sense, sense_by, called, settled, applied as applied_to}
use Rattle.reql_value_spec.specs.Meant.{Rule}
use Rattle.reql_value_spec.specs.Sense.{Sense, plain, func, sorter, raiser, value, key_argument, arguments, key_arguments, strict}
use Rattle.reql_value_spec.specs.Scalars.{make_array}
use Rattle.reql_value_spec.specs.Sequenced.{array}
use Rattle.reql_value_spec.specs.World.{World, Vars, bind}
use Rattle.reql_apply.specs.Kinds.{kind_rule}
use Rattle.reql_argument_order.specs.Ruled.{ruled, in_groups}
use Rattle.reql_apply.specs.declared.kinds.Kind.{Kind}
use Rattle.reql_apply.specs.declared.kinds.Kind.TheVariants as kind
use Rattle.reql_apply.specs.declared.kinds.Scalar.TheVariants as scalar
use Rattle.reql_term_analysis.specs.Bound.{bound, bound_step, listed, optional}
use Rattle.reql_term_analysis.proofs.Frames.{bind_differs}
use Rattle.reql_term_analysis.specs.Kinds.{given_to}
use Rattle.reql_term_analysis.specs.Ways.{taken_by, is_taking, is_lazy, lazy, tail}
use Rattle.reql_term_analysis.specs.declared.vars.Vars.TheVariants as vars
use Rattle.reql_term_analysis.specs.declared.vars.Vars.TheVariants.{rolls-Empty}
use Rattle.reql_term_analysis.specs.declared.vars.Vars.TheFolds.{fold-roll-Vars}
use Rattle.reql_term_analysis.specs.declared.vars.Vars.TheOpen.{Vars-F}
use Rattle.reql_argument_order.specs.Applied.{applied}
use Rattle.reql_eval.specs.Taken.{taking, key_value, out_of_order}

-- what a call gave, moved along an equation
pub gives_as : {X Y : Type 0} (view : X → Y) (r : Result X Fault) (a b : Answer Y) → a ≡ b → Gives view r b → Gives view r a
gives_as view r a b e h = rw e h

-- the keys of ORDER_BY stand after the first argument
later_keys : (at : ℕ) (ss : List Sense) (w : World) (vars : Vars) → arguments (taken_by way.Sorting) (suc at) ss w vars ≡ arguments key_argument (suc at) ss w vars
later_keys at [] w vars = refl
later_keys at (s ∷ ss) w vars = let e : nat_eq (suc at) 0 ≡ false = grind (arith, nat_tests) in rw (e, later_keys (suc at) ss w vars) refl

keys : (ss : List Sense) (w : World) (vars : Vars) → arguments (taken_by way.Sorting) 0 ss w vars ≡ key_arguments ss w vars
keys [] w vars = refl
keys (s ∷ ss) w vars = rw (later_keys 0 ss w vars) refl

taking_at : (how : Way) (k : Kind) (ss : List Sense) (os : List (Bytes × Sense)) (w : World) (vars : Vars)
    → is_taking how ≡ true → value (sense_by how (kind_rule k) ss os) w vars ≡ taking how k ss os w vars
unfolding taking applied ruled in_groups
taking_at way.Strict k ss os w vars t = refl
taking_at way.Sorting k ss os w vars t = rw (keys ss w vars) refl
taking_at way.Filtering k ss os w vars t = refl
taking_at way.Whole k ss os w vars t = refl
taking_at way.UntilTrue k ss os w vars t = cc
taking_at way.UntilFalse k ss os w vars t = cc
taking_at way.Branching k ss os w vars t = cc
taking_at way.Defaulting k ss os w vars t = cc
taking_at way.Rising k ss os w vars t = cc
taking_at way.Falling k ss os w vars t = cc
taking_at way.Raising k ss os w vars t = refl

pub taking_is : (how : Way) (k : Kind) (rule : Rule) (ss : List Sense) (os : List (Bytes × Sense)) (w : World) (vars : Vars)
    → kind_rule k ≡ rule → is_taking how ≡ true → value (sense_by how rule ss os) w vars ≡ taking how k ss os w vars
taking_is how k rule ss os w vars e t = ap (λ (r : Rule). value (sense_by how r ss os) w vars) (sym e) ∙ taking_at how k ss os w vars t

-- the ways of operators that take all their arguments, and of those that take them as they need
pub taking_ways : (how : Way) → (how ≡ way.Strict) ⊎ ((how ≡ way.Sorting) ⊎ ((how ≡ way.Filtering) ⊎ ((how ≡ way.Whole) ⊎ (how ≡ way.Raising)))) → is_taking how ≡ true
taking_ways how h = elim h [ inl a ↦ rw a refl | inr i ↦ elim i [ inl a ↦ rw a refl | inr j ↦ elim j [ inl a ↦ rw a refl | inr k ↦ elim k [ inl a ↦ rw a refl | inr a ↦ rw a refl ] ] ] ]

pub lazy_ways : (how : Way) → (how ≡ way.UntilTrue) ⊎ ((how ≡ way.UntilFalse) ⊎ (how ≡ way.Branching)) → is_lazy how ≡ true
lazy_ways how h = elim h [ inl a ↦ rw a refl | inr i ↦ elim i [ inl a ↦ rw a refl | inr a ↦ rw a refl ] ]

until_true : (ss : List Sense) (w : World) (vars : Vars) → chained true ss w vars ≡ lazy way.UntilTrue ss w vars
unfolding tail
until_true [] w vars = refl
until_true (s ∷ ss) w vars = refl

until_false : (ss : List Sense) (w : World) (vars : Vars) → chained false ss w vars ≡ lazy way.UntilFalse ss w vars
unfolding tail
until_false [] w vars = refl
until_false (s ∷ ss) w vars = refl

branching : (ss : List Sense) (w : World) (vars : Vars) → branch ss w vars ≡ lazy way.Branching ss w vars
unfolding tail
branching [] w vars = refl
branching (s ∷ ss) w vars = refl

pub lazy_is : (how : Way) (rule : Rule) (ss : List Sense) (os : List (Bytes × Sense)) (w : World) (vars : Vars)
    → is_lazy how ≡ true → value (sense_by how rule ss os) w vars ≡ lazy how ss w vars
lazy_is way.Strict rule ss os w vars t = cc
lazy_is way.Sorting rule ss os w vars t = cc
lazy_is way.Filtering rule ss os w vars t = cc
lazy_is way.Whole rule ss os w vars t = cc
lazy_is way.UntilTrue rule ss os w vars t = until_true ss w vars
lazy_is way.UntilFalse rule ss os w vars t = until_false ss w vars
lazy_is way.Branching rule ss os w vars t = branching ss w vars
lazy_is way.Defaulting rule ss os w vars t = cc
lazy_is way.Rising rule ss os w vars t = cc
lazy_is way.Falling rule ss os w vars t = cc
lazy_is way.Raising rule ss os w vars t = cc

applied_is : (s : Sense) (w : World) (ds : List Plain) → applied_to s w ds ≡ given_to s w [] ds
applied_is (plain f) w ds = refl
applied_is (func o f) w ds = refl
applied_is (sorter down s) w ds = refl
applied_is (raiser texted f) w ds = refl

pub array_is : (ms : List (Bytes × Form)) (ss : List Sense) (w : World) (vars : Vars) → ms ≡ []
    → strict (array make_array) ss [] w vars ≡ taking way.Strict (kind.Scalar scalar.MakeArray) ss (optional ms) w vars
array_is ms ss w vars e = rw e (taking_at way.Strict (kind.Scalar scalar.MakeArray) ss [] w vars refl)

-- DEFAULT where there are not two
pub no_default : (ts : List Term) (w : World) (vars : Vars) → (length ts ≡ 2 → ⊥) → default (listed ts) w vars ≡ Err misplaced
no_default [] w vars h = refl
no_default (t ∷ []) w vars h = refl
no_default (t ∷ u ∷ []) w vars h = absurd (h refl)
no_default (t ∷ u ∷ v ∷ ts) w vars h = refl

-- a key with its direction
pub first_key : (ts : List Term) (t : Term) (w : World) (vars : Vars) → 0 < length ts → t ≡ get_or ts 0 t → key_value (listed ts) w vars ≡ out_of_order (value (sense (form_of t)) w vars)
first_key [] t w vars h here = absurd (omega arith)
first_key (u ∷ ts) t w vars h here = ap (λ x. out_of_order (value (sense (form_of x)) w vars)) (sym here)

length_plains : (ds : List Datum) → length (map plain_of ds) ≡ length ds
length_plains [] = refl
length_plains (d ∷ ds) = ap suc (length_plains ds)

-- a body called with another count of values
pub other_count : (ids : List ℕ) (s : Sense) (ds : List Datum) (w : World) (vars : Vars) (r : Reason) → (length ids ≡ length ds → ⊥) → r ≡ wrong_count (length ids) (length ds)
    → called ids s w vars (map plain_of ds) ≡ Err r
other_count ids s ds w vars r h e =
    let b : bind ids (map plain_of ds) vars ≡ Err r = bind_differs ids ds vars h ∙ (ap (λ n. Err (wrong_count (length ids) n)) (length_plains ds) ∙ ap Err (sym e)) in
    rw b refl

no_frame : bound vars.Empty ≡ []
no_frame = ap bound (sym rolls-Empty) ∙ fold-roll-Vars Vars bound_step Vars-F.Empty

-- a function outside of any request
pub function_is : (s : Sense) (w : World) (ds : List Plain) → settled (applied_to s w ds) ≡ settled (given_to s w (bound vars.Empty) ds)
function_is s w ds = ap settled (applied_is s w ds ∙ ap (λ (frames : Vars). given_to s w frames ds) (sym no_frame))
