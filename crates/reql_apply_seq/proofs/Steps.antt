-- One element more: whether some or all pass, and how many do.
use Rattle.std.proofs.Common.{◌≡◌, refl, ap, ℕ, suc, ◌+◌, arith, List, ◌∷◌, length, Bool, true, false, ◌||◌, ◌&&◌, if◌then◌else◌, Ok, Err}
use Rattle.reql_datum.specs.Answer.{Answer, ◌>>=◌}
use Rattle.reql_datum.specs.Plain.{Plain}
use Rattle.reql_rules.specs.Places.{counted_as}
use Rattle.reql_apply_seq.specs.Passing.{counting, count_on, or_on, and_on}

pub or_step : (s b : Bool) (a : Answer Bool) → or_on s (a >>= λ c. Ok (b || c)) ≡ or_on (s || b) a
or_step true b (Ok c) = refl
or_step false b (Ok c) = refl
or_step s b (Err e) = refl

pub and_step : (s b : Bool) (a : Answer Bool) → and_on s (a >>= λ c. Ok (b && c)) ≡ and_on (s && b) a
and_step true b (Ok c) = refl
and_step false b (Ok c) = refl
and_step s b (Err e) = refl

pub count_step : (n : ℕ) (b : Bool) (v : Plain) (a : Answer (List Plain))
    → count_on n (a >>= λ ws. Ok (if b then v ∷ ws else ws)) ≡ count_on (if b then n + 1 else n) a
count_step n true v (Ok ws) =
    let same : n + suc (length ws) ≡ n + 1 + length ws = omega arith in
    ap (λ k. Ok (counted_as k)) same
count_step n false v (Ok ws) = refl
count_step n b v (Err e) = refl

pub count_none : (a : Answer (List Plain)) → counting a ≡ count_on 0 a
count_none (Ok ws) =
    let same : length ws ≡ 0 + length ws = omega arith in
    ap (λ k. Ok (counted_as k)) same
count_none (Err e) = refl
