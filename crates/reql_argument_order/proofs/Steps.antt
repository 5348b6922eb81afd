-- AND, OR and BRANCH by places: the next step, and one that fails.
use Rattle.std.proofs.Common.{◌≡◌, ℕ, ◌+◌, ◌<◌, length, drop, List, [], ◌∷◌, arith, Ok, Err, Bool, true, false, if◌then◌else◌, refl, ap, ◌∙◌}
use Rattle.reql_datum.specs.Answer.{Answer, Reason, query_logic, non_existence, resource_limit, op_failed, user, no_text, ◌>>=◌}
use Rattle.reql_datum.specs.Outcome.{Fails}
use Rattle.reql_datum.specs.Plain.{Plain}
use Rattle.reql_datum.specs.declared.fault.Fault.{Fault}
use Rattle.reql_datum.specs.declared.fault.Fault.TheVariants.{QueryLogic, NonExistence, ResourceLimit, OpFailed, User, Empty, Memory}
use Rattle.reql_term.specs.declared.role.Way.{Way}
use Rattle.reql_rules.specs.Faults.{misplaced}
use Rattle.reql_rules.specs.Types.{truth}
use Rattle.reql_value_spec.specs.Lazy.{chain, stops, branches, branch_on}
use Rattle.reql_value_spec.specs.Meant.{Meant}
use Rattle.reql_value_spec.specs.Sense.{Sense}
use Rattle.reql_value_spec.specs.Sequenced.{on_groups}
use Rattle.reql_value_spec.specs.Wanted.{to_datum}
use Rattle.reql_value_spec.specs.World.{World, Vars}
use Rattle.reql_operand.proofs.Steps.{fails_on}
use Rattle.reql_term_analysis.specs.Ways.{stop_of, truth_of, of_nothing, lazy}
use Rattle.reql_argument_order.proofs.Places.{chain_from, branches_from}
use Rattle.reql_argument_order.specs.Kept.{others}
use Rattle.reql_argument_order.specs.Lent.{value_at}

fails_as : {A B : Type 0} (e : Fault) (a : Answer A) (b : Answer B) → ((x : Reason) → a ≡ Err x → b ≡ Err x) → Fails e a → Fails e b
fails_as (QueryLogic s) a b f h = f (query_logic s) h
fails_as (NonExistence s) a b f h = f (non_existence s) h
fails_as (ResourceLimit s) a b f h = f (resource_limit s) h
fails_as (OpFailed s) a b f h = f (op_failed s) h
fails_as (User s) a b f h = f (user s) h
fails_as Empty a b f h = f no_text h
fails_as Memory a b f h = tt

after_test : {B : Type 0} (x : Answer Plain) (test : Plain → Bool) (one other : Answer B) → (x >>= λ d. Ok (test d)) ≡ Ok false
    → (x >>= λ d. if test d then one else other) ≡ other
after_test (Ok d) test one other h = let e : test d ≡ false = cc in rw e refl
after_test (Err r) test one other h = cc

failed_test : {B : Type 0} (x : Answer Plain) (test : Plain → Bool) (k : Plain → Answer B) (r : Reason) → (x >>= λ d. Ok (test d)) ≡ Err r → (x >>= k) ≡ Err r
failed_test (Ok d) test k r h = cc
failed_test (Err s) test k r h = let e : s ≡ r = cc in ap Err e

passed_test : {B : Type 0} (x : Answer Plain) (test : Plain → Bool) (one other : Answer B) → (x >>= λ d. Ok (test d)) ≡ Ok true
    → (x >>= λ d. if test d then one else other) ≡ one
passed_test (Ok d) test one other h = let e : test d ≡ true = cc in rw e refl
passed_test (Err r) test one other h = cc

-- AND and OR go on where the value does not end them
next : (at : Bool) (ss : List Sense) (i : ℕ) (w : World) (vars : Vars) (m : Meant) → i < length ss → stop_of at m ≡ Ok false
    → chain at (drop i ss) w vars m ≡ (value_at ss i w vars >>= chain at (drop (i + 1) ss) w vars)
next at ss i w vars m below goes = chain_from at ss i w vars m below ∙ after_test (to_datum m) (stops at) (Ok m) (value_at ss i w vars >>= chain at (drop (i + 1) ss) w vars) goes

-- a value that is no document
pub no_stop : (at : Bool) (ss : List Sense) (i : ℕ) (w : World) (vars : Vars) (m : Meant) (e : Fault) (all : Answer Meant)
    → i < length ss → Fails e (stop_of at m) → all ≡ chain at (drop i ss) w vars m → Fails e all
no_stop at ss i w vars m e all below fails known =
    let goes_on = value_at ss i w vars >>= chain at (drop (i + 1) ss) w vars in
    rw (known ∙ chain_from at ss i w vars m below) (fails_as e (stop_of at m) (to_datum m >>= λ d. if stops at d then Ok m else goes_on) (λ r f. failed_test (to_datum m) (stops at) (λ d. if stops at d then Ok m else goes_on) r f) fails)

-- a value that ends them
pub on_stop : (at : Bool) (ss : List Sense) (i : ℕ) (w : World) (vars : Vars) (m : Meant) (all : Answer Meant)
    → i < length ss → stop_of at m ≡ Ok true → all ≡ chain at (drop i ss) w vars m → all ≡ Ok m
on_stop at ss i w vars m all below ends known =
    known ∙ (chain_from at ss i w vars m below ∙ passed_test (to_datum m) (stops at) (Ok m) (value_at ss i w vars >>= chain at (drop (i + 1) ss) w vars) ends)

-- the next term that fails
pub no_next : (at : Bool) (ss : List Sense) (i : ℕ) (w : World) (vars : Vars) (m : Meant) (e : Fault) (all : Answer Meant)
    → i < length ss → stop_of at m ≡ Ok false → Fails e (value_at ss i w vars) → all ≡ chain at (drop i ss) w vars m → Fails e all
no_next at ss i w vars m e all below goes fails known =
    rw (known ∙ next at ss i w vars m below goes) (fails_on e (value_at ss i w vars) (chain at (drop (i + 1) ss) w vars) fails)

-- the next term's value
pub on_next : (at : Bool) (ss : List Sense) (i : ℕ) (w : World) (vars : Vars) (m n : Meant) (all : Answer Meant)
    → i < length ss → stop_of at m ≡ Ok false → value_at ss i w vars ≡ Ok n → all ≡ chain at (drop i ss) w vars m
    → all ≡ chain at (drop (i + 1) ss) w vars n
on_next at ss i w vars m n all below goes gives known =
    known ∙ (next at ss i w vars m below goes ∙ ap (λ (a : Answer Meant). a >>= chain at (drop (i + 1) ss) w vars) gives)

-- BRANCH: a test that fails
pub no_test : (ss : List Sense) (i : ℕ) (w : World) (vars : Vars) (e : Fault) (all : Answer Meant)
    → i + 1 < length ss → Fails e (value_at ss i w vars) → all ≡ branches (drop i ss) w vars → Fails e all
no_test ss i w vars e all below fails known =
    rw (known ∙ branches_from ss i w vars below)
    (fails_on e (value_at ss i w vars) (λ m. to_datum m >>= λ d. if truth d then value_at ss (i + 1) w vars else branches (drop (i + 2) ss) w vars) fails)

-- a test known
tested : (ss : List Sense) (i : ℕ) (w : World) (vars : Vars) (m : Meant) (all : Answer Meant)
    → i + 1 < length ss → value_at ss i w vars ≡ Ok m → all ≡ branches (drop i ss) w vars
    → all ≡ (to_datum m >>= λ d. if truth d then value_at ss (i + 1) w vars else branches (drop (i + 2) ss) w vars)
tested ss i w vars m all below gives known =
    known ∙ (branches_from ss i w vars below
    ∙ ap (λ (a : Answer Meant). a >>= λ n. to_datum n >>= λ d. if truth d then value_at ss (i + 1) w vars else branches (drop (i + 2) ss) w vars) gives)

-- a test that is no document
pub no_truth : (ss : List Sense) (i : ℕ) (w : World) (vars : Vars) (m : Meant) (e : Fault) (all : Answer Meant)
    → i + 1 < length ss → value_at ss i w vars ≡ Ok m → Fails e (truth_of m) → all ≡ branches (drop i ss) w vars → Fails e all
no_truth ss i w vars m e all below gives fails known =
    let by = λ (d : Plain). if truth d then value_at ss (i + 1) w vars else branches (drop (i + 2) ss) w vars in
    rw (tested ss i w vars m all below gives known)
    (fails_as e (truth_of m) (to_datum m >>= by) (λ r f. failed_test (to_datum m) truth by r f) fails)

-- a test that is true, and one that isn't
pub on_true : (ss : List Sense) (i : ℕ) (w : World) (vars : Vars) (m : Meant) (all : Answer Meant)
    → i + 1 < length ss → value_at ss i w vars ≡ Ok m → truth_of m ≡ Ok true → all ≡ branches (drop i ss) w vars → all ≡ value_at ss (i + 1) w vars
on_true ss i w vars m all below gives passed known =
    tested ss i w vars m all below gives known ∙ passed_test (to_datum m) truth (value_at ss (i + 1) w vars) (branches (drop (i + 2) ss) w vars) passed

pub on_false : (ss : List Sense) (i : ℕ) (w : World) (vars : Vars) (m : Meant) (all : Answer Meant)
    → i + 1 < length ss → value_at ss i w vars ≡ Ok m → truth_of m ≡ Ok false → all ≡ branches (drop i ss) w vars → all ≡ branches (drop (i + 2) ss) w vars
on_false ss i w vars m all below gives failed known =
    tested ss i w vars m all below gives known ∙ after_test (to_datum m) truth (value_at ss (i + 1) w vars) (branches (drop (i + 2) ss) w vars) failed

-- BRANCH from its first test on
branch_from : (ss : List Sense) (w : World) (vars : Vars) (m : Meant) → 1 < length ss
    → branch_on (drop 1 ss) w vars m ≡ (to_datum m >>= λ d. if truth d then value_at ss 1 w vars else branches (drop 2 ss) w vars)
branch_from [] w vars m h = absurd (omega arith)
branch_from (s ∷ []) w vars m h = absurd (omega arith)
branch_from (s ∷ t ∷ ss) w vars m h = refl

pub no_branch : (ss : List Sense) (w : World) (vars : Vars) (m : Meant) → length ss < 2 → branch_on (drop 1 ss) w vars m ≡ Err misplaced
no_branch [] w vars m h = refl
no_branch (s ∷ []) w vars m h = refl
no_branch (s ∷ t ∷ ss) w vars m h = absurd (omega arith)

pub first_no_truth : (ss : List Sense) (w : World) (vars : Vars) (m : Meant) (e : Fault) → 1 < length ss → Fails e (truth_of m) → Fails e (branch_on (drop 1 ss) w vars m)
first_no_truth ss w vars m e h fails =
    let by = λ (d : Plain). if truth d then value_at ss 1 w vars else branches (drop 2 ss) w vars in
    rw (branch_from ss w vars m h) (fails_as e (truth_of m) (to_datum m >>= by) (λ r f. failed_test (to_datum m) truth by r f) fails)

pub first_true : (ss : List Sense) (w : World) (vars : Vars) (m : Meant) → 1 < length ss → truth_of m ≡ Ok true → branch_on (drop 1 ss) w vars m ≡ value_at ss 1 w vars
first_true ss w vars m h passed = branch_from ss w vars m h ∙ passed_test (to_datum m) truth (value_at ss 1 w vars) (branches (drop 2 ss) w vars) passed

pub first_false : (ss : List Sense) (w : World) (vars : Vars) (m : Meant) → 1 < length ss → truth_of m ≡ Ok false → branch_on (drop 1 ss) w vars m ≡ branches (drop 2 ss) w vars
first_false ss w vars m h failed = branch_from ss w vars m h ∙ after_test (to_datum m) truth (value_at ss 1 w vars) (branches (drop 2 ss) w vars) failed

-- AND, OR and BRANCH by their first
pub no_first : (how : Way) (ss : List Sense) (w : World) (vars : Vars) → length ss ≡ 0 → lazy how ss w vars ≡ of_nothing how
no_first how [] w vars h = refl
no_first how (s ∷ ss) w vars h = absurd (omega arith)

pub by_first : (how : Way) (ss : List Sense) (w : World) (vars : Vars) → 0 < length ss → lazy how ss w vars ≡ (value_at ss 0 w vars >>= on_groups (others how ss w vars))
unfolding others
by_first how [] w vars h = absurd (omega arith)
by_first how (s ∷ ss) w vars h = refl
