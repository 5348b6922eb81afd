-- The numbers of the operators, computed over all of them.
use Rattle.std.proofs.Common.{◌≡◌, ℕ, zero, suc, ◌+◌, ◌≤◌, ◌<◌, List, [], ◌∷◌, map, get_or, Option, Some, None, Bool, true, false, ◌&&◌, if◌then◌else◌, nat_eq, nat_lt, refl, sym, ap, subst, ◌∙◌, arith}
use Rattle.std.proofs.lemmas.Bool.Decides.{nat_tests}
use Rattle.reql_term.specs.declared.op.Op.{Op}
use Rattle.reql_term.specs.declared.op.Op.TheVariants as op
use Rattle.reql_term.specs.declared.by_number.TheConstants.{BY_NUMBER}
use Rattle.reql_term.specs.OpCode.{op_back}
use Rattle.reql_term.specs.Table.{place, every_op, find_op, op_of, number_of}

-- two functions that give the same over a list give the same at each place
at_place : {X : Type 0} (f g : Op → X) (ops : List Op) (i : ℕ) (d : Op) → f d ≡ g d → map f ops ≡ map g ops → f (get_or ops i d) ≡ g (get_or ops i d)
at_place f g [] i d beyond same = beyond
at_place f g (o ∷ os) zero d beyond same = cc
at_place f g (o ∷ os) (suc i) d beyond same = at_place f g os i d beyond (let e : map f os ≡ map g os = cc in e)

at_op : {X : Type 0} (f g : Op → X) (o : Op) → f op.Minval ≡ g op.Minval → map f every_op ≡ map g every_op → f o ≡ g o
at_op f g o beyond same = subst (λ o. f o ≡ g o) (op_back o) (at_place f g every_op (place o) op.Minval beyond same)

found : map (λ o. op_of (number_of o)) every_op ≡ map Some every_op
found = refl

pub numbered : (o : Op) → op_of (number_of o) ≡ Some o
numbered o = at_op (λ o. op_of (number_of o)) Some o refl found

-- an operator is found by its own number
same_number : (a b : ℕ) → nat_eq a b ≡ true → a ≡ b
same_number a b h = grind (arith, nat_tests)

here_or_later : (is : Bool) (o : Op) (os : List Op) (n : ℕ) (op : Op) → nat_eq (number_of o) n ≡ is → (find_op os n ≡ Some op → number_of op ≡ n)
    → (if is then Some o else find_op os n) ≡ Some op → number_of op ≡ n
here_or_later true o os n op here later is = let e : o ≡ op = cc in subst (λ o. number_of o ≡ n) e (same_number (number_of o) n here)
here_or_later false o os n op here later is = later is

named_in : (os : List Op) (n : ℕ) (op : Op) → find_op os n ≡ Some op → number_of op ≡ n
named_in [] n op is = cc
named_in (o ∷ os) n op is = here_or_later (nat_eq (number_of o) n) o os n op refl (named_in os n op) is

pub named : (n : ℕ) (op : Op) → op_of n ≡ Some op → number_of op ≡ n
named n op is = named_in every_op n op is

-- every number is above 0 and below 187
bounded : Op → Bool
bounded o = nat_lt 0 (number_of o) && nat_lt (number_of o) 187

all_bounded : map bounded every_op ≡ map (λ o. true) every_op
unfolding bounded
all_bounded = refl

both : (a b : Bool) → (a && b) ≡ true → (a ≡ true) × (b ≡ true)
both true true h = (refl, refl)
both true false h = cc
both false b h = cc

is_bounded : (o : Op) → bounded o ≡ true
unfolding bounded
is_bounded o = at_op bounded (λ o. true) o refl all_bounded

in_bytes : (n : ℕ) → nat_lt 0 n ≡ true → nat_lt n 187 ≡ true → (1 ≤ n) × (n ≤ 255)
in_bytes n low high = (grind (arith, nat_tests), grind (arith, nat_tests))

pub byte : (o : Op) → (1 ≤ number_of o) × (number_of o ≤ 255)
unfolding bounded
byte o = let h = both _ _ (is_bounded o) in in_bytes (number_of o) h.0 h.1

-- ---- the index by number

ops_from : ℕ → ℕ → List (Option Op)
ops_from n zero = []
ops_from n (suc k) = op_of n ∷ ops_from (suc n) k

all_indexed : BY_NUMBER ≡ ops_from 0 187
unfolding ops_from
all_indexed = refl

within : (n k i : ℕ) → i < k → get_or (ops_from n k) i None ≡ op_of (n + i)
unfolding ops_from
within n zero i below = absurd (omega arith)
within n (suc k) zero below = ap op_of (let e : n ≡ n + 0 = omega arith in e)
within n (suc k) (suc i) below = within (suc n) k i (omega arith) ∙ ap op_of (let e : suc n + i ≡ n + suc i = omega arith in e)

past : (n k i : ℕ) → k ≤ i → get_or (ops_from n k) i None ≡ None
unfolding ops_from
past n zero i above = refl
past n (suc k) zero above = absurd (omega arith)
past n (suc k) (suc i) above = past (suc n) k i (omega arith)

unnumbered_here : (is : Bool) (o : Op) (os : List Op) (n : ℕ) → nat_eq (number_of o) n ≡ is → nat_lt (number_of o) 187 ≡ true → 187 ≤ n → find_op os n ≡ None → (if is then Some o else find_op os n) ≡ None
unnumbered_here true o os n here low above later = absurd (let e : number_of o ≡ n = same_number (number_of o) n here in let b : nat_lt n 187 ≡ true = rw (← e) low in grind (arith, nat_tests))
unnumbered_here false o os n here low above later = later

unnumbered : (os : List Op) (n : ℕ) → 187 ≤ n → find_op os n ≡ None
unfolding bounded
unnumbered [] n above = refl
unnumbered (o ∷ os) n above = unnumbered_here (nat_eq (number_of o) n) o os n refl (both _ _ (is_bounded o)).1 above (unnumbered os n above)

indexed_by : (n : ℕ) (is : Bool) → nat_lt n 187 ≡ is → get_or (ops_from 0 187) n None ≡ op_of n
indexed_by n true low = within 0 187 n (grind (arith, nat_tests)) ∙ ap op_of (let e : 0 + n ≡ n = omega arith in e)
indexed_by n false high =
    let above : 187 ≤ n = grind (arith, nat_tests) in
    past 0 187 n above ∙ sym (unnumbered every_op n above)

-- what the index has for a number
pub indexed : (n : ℕ) → get_or BY_NUMBER n None ≡ op_of n
indexed n = ap (λ os. get_or os n None) all_indexed ∙ indexed_by n (nat_lt n 187) refl
