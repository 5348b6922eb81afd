-- The shares of all workers are all sessions.
use Rattle.std.proofs.Common.{◌≡◌, ℕ, zero, suc, ◌+◌, ◌-◌, ◌*◌, ◌<◌, ◌≤◌, map, sym, ap, subst, ◌∙◌, arith}
use Rattle.std.specs.Prelude.{◌/◌, ◌%◌, cond, nat_lt}
use Rattle.std.specs.List.{range_with_len, sum}
use Rattle.std.proofs.lemmas.Bool.{lt-ltb, le-ltb}
use Rattle.std.proofs.lemmas.List.FromFn.{sum_by-map-range_with_len_more}
use Rattle.std.proofs.Math.Nat.{add-mul, div-add-mod, mod-lt, le-mul_of_pos_right, mul_comm, zero-mul}
use Rattle.reql_serve.specs.Many.{SharesAddUp}

module _ (each rest : ℕ) where
  abbrev one_of : ℕ → ℕ
  one_of number = each + cond (nat_lt number rest) 1 0

  -- the shares of the first n workers
  abbrev first : ℕ → ℕ
  first n = sum (map one_of (range_with_len 0 n))

  one_more : (n : ℕ) → first (n + 1) ≡ first n + one_of n
  one_more n = sum_by-map-range_with_len_more (λ x. x) one_of 0 n n (omega arith)

  more_up : (n a c b : ℕ) → b ≡ a + (each + c) → c ≡ 1 → a ≡ n * each + n → b ≡ (n + 1) * each + (n + 1)
  more_up n a c b e o h = omega (arith, e, o, h, add-mul n 1 each)

  same_up : (n a c b : ℕ) → b ≡ a + (each + c) → c ≡ 0 → a ≡ n * each + rest → b ≡ (n + 1) * each + rest
  same_up n a c b e o h = omega (arith, e, o, h, add-mul n 1 each)

  nothing : 0 ≡ 0 * each + 0
  nothing = omega (arith, zero-mul each)

  up_to : (n : ℕ) → n ≤ rest → first n ≡ n * each + n
  up_to zero le = nothing
  up_to (suc n) le =
      let e : suc n ≡ n + 1 = omega arith in
      subst (λ m. first m ≡ m * each + m) (sym e)
      (more_up n (first n) (cond (nat_lt n rest) 1 0) (first (n + 1)) (one_more n) (ap (λ b. cond b 1 0) (lt-ltb n rest (omega (arith, le)))) (up_to n (omega (arith, le))))

  past : (more : ℕ) → first (rest + more) ≡ (rest + more) * each + rest
  past zero = subst (λ m. first m ≡ m * each + rest) (omega arith) (up_to rest (omega arith))
  past (suc n) =
      let e : rest + suc n ≡ (rest + n) + 1 = omega arith in
      subst (λ m. first m ≡ m * each + rest) (sym e)
      (same_up (rest + n) (first (rest + n)) (cond (nat_lt (rest + n) rest) 1 0) (first ((rest + n) + 1)) (one_more (rest + n)) (ap (λ b. cond b 1 0) (le-ltb (rest + n) rest (omega arith))) (past n))

pub add_up : SharesAddUp
add_up sessions workers lt =
    let each = sessions / workers in
    let rest = sessions % workers in
    let e : rest + (workers - rest) ≡ workers = omega (arith, mod-lt sessions lt) in
    subst (λ m. first each rest m ≡ m * each + rest) e (past each rest (workers - rest)) ∙ div-add-mod sessions workers

-- where some are left over, one more than each has is no more than all
pub room_for_one : (sessions workers number limit : ℕ) → 0 < workers → sessions < limit → number < sessions % workers → sessions / workers + 1 < limit
room_for_one sessions workers number limit lt s n =
    let each = sessions / workers in
    let whole : workers * each + sessions % workers ≡ sessions = div-add-mod sessions workers in
    let le : each ≤ workers * each = subst (λ m. each ≤ m) (mul_comm each workers) (le-mul_of_pos_right each lt) in
    omega (arith, whole, le, s, n)
