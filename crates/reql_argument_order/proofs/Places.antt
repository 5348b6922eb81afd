-- Terms by their places.
use Rattle.std.proofs.Common.{◌≡◌, ℕ, zero, suc, ◌+◌, ◌<◌, ◌≤◌, length, drop, slice_get, List, [], ◌∷◌, ◌++◌, append_assoc, Bool, Ok, Err, if◌then◌else◌, refl, ap, sym, ◌∙◌, arith}
use Rattle.std.proofs.lemmas.List.{drop_all}
use Rattle.reql_datum.specs.Answer.{Answer, ◌>>=◌}
use Rattle.reql_datum.specs.Outcome.{Fails}
use Rattle.reql_datum.specs.declared.fault.Fault.{Fault}
use Rattle.reql_rules.specs.Faults.{misplaced}
use Rattle.reql_rules.specs.Types.{truth}
use Rattle.reql_value_spec.specs.Lazy.{chain, stops, branches}
use Rattle.reql_value_spec.specs.Meant.{Meant, Given}
use Rattle.reql_value_spec.specs.Sense.{Sense, arguments}
use Rattle.reql_value_spec.specs.Wanted.{to_datum}
use Rattle.reql_value_spec.specs.World.{World, Vars}
use Rattle.reql_operand.proofs.Steps.{fails_on}
use Rattle.reql_argument_order.specs.Lent.{Take, value_at, taken_of, taken_at}

-- AND and OR from a place on
chain_after : (at : Bool) (ss : List Sense) (i : ℕ) (w : World) (vars : Vars) (m : Meant) → i < length ss
    → chain at (drop i ss) w vars m ≡ (to_datum m >>= λ d. if stops at d then Ok m else (value_at ss i w vars >>= chain at (drop (suc i) ss) w vars))
chain_after at [] i w vars m h = absurd (omega arith)
chain_after at (s ∷ ss) zero w vars m h = refl
chain_after at (s ∷ ss) (suc i) w vars m h = chain_after at ss i w vars m (omega arith)

pub chain_from : (at : Bool) (ss : List Sense) (i : ℕ) (w : World) (vars : Vars) (m : Meant) → i < length ss
    → chain at (drop i ss) w vars m ≡ (to_datum m >>= λ d. if stops at d then Ok m else (value_at ss i w vars >>= chain at (drop (i + 1) ss) w vars))
chain_from at ss i w vars m h = let e : i + 1 ≡ suc i = omega arith in rw e (chain_after at ss i w vars m h)

-- the last arm of BRANCH, and a test with its arm
pub last_arm : (ss : List Sense) (i : ℕ) (w : World) (vars : Vars) → i + 1 ≡ length ss → branches (drop i ss) w vars ≡ value_at ss i w vars
last_arm [] i w vars h = absurd (omega arith)
last_arm (s ∷ []) zero w vars h = refl
last_arm (s ∷ t ∷ ss) zero w vars h = absurd (omega arith)
last_arm (s ∷ ss) (suc i) w vars h = last_arm ss i w vars (omega arith)

branches_after : (ss : List Sense) (i : ℕ) (w : World) (vars : Vars) → i + 1 < length ss
    → branches (drop i ss) w vars ≡ (value_at ss i w vars >>= λ m. to_datum m >>= λ d. if truth d then value_at ss (suc i) w vars else branches (drop (suc (suc i)) ss) w vars)
branches_after [] i w vars h = absurd (omega arith)
branches_after (s ∷ []) zero w vars h = absurd (omega arith)
branches_after (s ∷ t ∷ ss) zero w vars h = refl
branches_after (s ∷ ss) (suc i) w vars h = branches_after ss i w vars (omega arith)

pub branches_from : (ss : List Sense) (i : ℕ) (w : World) (vars : Vars) → i + 1 < length ss
    → branches (drop i ss) w vars ≡ (value_at ss i w vars >>= λ m. to_datum m >>= λ d. if truth d then value_at ss (i + 1) w vars else branches (drop (i + 2) ss) w vars)
branches_from ss i w vars h =
    let one : i + 1 ≡ suc i = omega arith in
    let two : i + 2 ≡ suc (suc i) = omega arith in
    rw (one, two) (branches_after ss i w vars h)

pub no_arms : (ss : List Sense) (i : ℕ) (w : World) (vars : Vars) → length ss ≤ i → branches (drop i ss) w vars ≡ Err misplaced
no_arms ss i w vars h = ap (λ ts. branches ts w vars) (drop_all i ss h)

-- arguments from a place on
arguments_after : (how : Take) (at : ℕ) (ss : List Sense) (i : ℕ) (w : World) (vars : Vars) → i < length ss
    → arguments how at (drop i ss) w vars ≡ (taken_of how at (slice_get ss i) w vars >>= λ g. arguments how (suc at) (drop (suc i) ss) w vars >>= λ gs. Ok (g ∷ gs))
arguments_after how at [] i w vars h = absurd (omega arith)
arguments_after how at (s ∷ ss) zero w vars h = refl
arguments_after how at (s ∷ ss) (suc i) w vars h = arguments_after how at ss i w vars (omega arith)

arguments_from : (how : Take) (ss : List Sense) (i : ℕ) (w : World) (vars : Vars) → i < length ss
    → arguments how i (drop i ss) w vars ≡ (taken_at how ss i w vars >>= λ g. arguments how (i + 1) (drop (i + 1) ss) w vars >>= λ gs. Ok (g ∷ gs))
arguments_from how ss i w vars h = let e : i + 1 ≡ suc i = omega arith in rw e (arguments_after how i ss i w vars h)

one_more : {B : Type 0} (ys : List B) (y : B) (r : Answer (List B)) → ((r >>= λ zs. Ok (y ∷ zs)) >>= λ zs. Ok (ys ++ zs)) ≡ (r >>= λ zs. Ok ((ys ++ y ∷ []) ++ zs))
one_more ys y (Ok zs) = ap Ok (sym (append_assoc ys (y ∷ []) zs))
one_more ys y (Err e) = refl

-- one that fails, and the next
pub no_argument : (how : Take) (ss : List Sense) (i : ℕ) (w : World) (vars : Vars) (e : Fault) (ys : List Given) (all : Answer (List Given))
    → i < length ss → Fails e (taken_at how ss i w vars) → all ≡ (arguments how i (drop i ss) w vars >>= λ gs. Ok (ys ++ gs)) → Fails e all
no_argument how ss i w vars e ys all below fails known =
    let k = λ (g : Given). arguments how (i + 1) (drop (i + 1) ss) w vars >>= λ gs. Ok (g ∷ gs) in
    let first : Fails e (arguments how i (drop i ss) w vars) = rw (arguments_from how ss i w vars below) (fails_on e (taken_at how ss i w vars) k fails) in
    rw known (fails_on e (arguments how i (drop i ss) w vars) (λ gs. Ok (ys ++ gs)) first)

pub on_argument : (how : Take) (ss : List Sense) (i : ℕ) (w : World) (vars : Vars) (g : Given) (ys more : List Given) (all : Answer (List Given))
    → i < length ss → taken_at how ss i w vars ≡ Ok g → more ≡ ys ++ g ∷ [] → all ≡ (arguments how i (drop i ss) w vars >>= λ gs. Ok (ys ++ gs))
    → all ≡ (arguments how (i + 1) (drop (i + 1) ss) w vars >>= λ gs. Ok (more ++ gs))
on_argument how ss i w vars g ys more all below gives m known =
    let rest = arguments how (i + 1) (drop (i + 1) ss) w vars in
    let first : arguments how i (drop i ss) w vars ≡ (rest >>= λ gs. Ok (g ∷ gs)) =
    arguments_from how ss i w vars below ∙ ap (λ (a : Answer Given). a >>= λ h. rest >>= λ gs. Ok (h ∷ gs)) gives in
    rw m (known ∙ (ap (λ (a : Answer (List Given)). a >>= λ gs. Ok (ys ++ gs)) first ∙ one_more ys g rest))

-- AND and OR past the last
pub chain_ends : (at : Bool) (ss : List Sense) (i : ℕ) (w : World) (vars : Vars) (m : Meant) (all : Answer Meant) → length ss ≤ i → all ≡ chain at (drop i ss) w vars m → all ≡ Ok m
chain_ends at ss i w vars m all past known = known ∙ ap (λ ts. chain at ts w vars m) (drop_all i ss past)

-- a place with another behind it, by the count of all
pub not_last : (ss : List Sense) (i count : ℕ) → count ≡ length ss → i < count → (i + 1 ≡ count → ⊥) → i + 1 < length ss
not_last ss i count counted below other = omega (arith, counted, below, other)

pub not_one : (ss : List Sense) (count : ℕ) → count ≡ length ss → 2 ≤ count → 1 < length ss
not_one ss count counted few = omega (arith, counted, few)
