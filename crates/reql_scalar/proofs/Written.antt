-- Numbers of texts.
use Rattle.std.proofs.Common.{◌≡◌, ℕ, ◌+◌, ◌*◌, ◌-◌, ◌<◌, ◌≤◌, nat_le, ℤ, pos, neg_ℤ, zero, suc, [], ◌∷◌, Bool, true, false, if◌then◌else◌, Option, Some, None, option_map, option_and_then, refl, sym, ap, ◌∙◌, arith}
use Rattle.reql_datum.specs.Whole.{is_in}
use Rattle.reql_rules.specs.Lists.{Bytes}
use Rattle.reql_rules.specs.Coercing.{digits, digits_on, is_digit, in_range, signed}
use Rattle.reql_datum.specs.Plain.{number}
use Rattle.reql_scalar.specs.Digits.{small, small_on, small_in, held_in, positive, negative, number_of}

nat_le_off : (n m : ℕ) → m < n → nat_le n m ≡ false
nat_le_off n m h = grind arith

large_at : (b : Bool) (n : ℕ) (cs : Bytes) → small_on n cs ≡ None → option_and_then small (if b then digits_on n cs else None) ≡ None
large_at true n cs h = h
large_at false n cs h = refl

pub large_on : (n : ℕ) (s : Bytes) → 9007199254740992 < n → small_on n s ≡ None
large_on n [] h = rw (nat_le_off n 9007199254740992 h) refl
large_on n (c ∷ cs) h = large_at (is_digit c) (n * 10 + (c - 48)) cs (large_on (n * 10 + (c - 48)) cs (omega arith))

digit_at : (c : ℕ) → 48 ≤ c → c ≤ 57 → is_digit c ≡ true
digit_at c h k = grind arith

-- one digit more, beyond the range
pub beyond : (n c : ℕ) (cs s t : Bytes) → t ≡ c ∷ cs → 48 ≤ c → c ≤ 57 → 9007199254740992 < n * 10 + (c - 48) → small_on n t ≡ small_on 0 s → None ≡ small_on 0 s
beyond n c cs s t is h k more was =
    sym (large_on (n * 10 + (c - 48)) cs more) ∙ ap (λ b. option_and_then small (if b then digits_on (n * 10 + (c - 48)) cs else None)) (sym (digit_at c h k)) ∙ ap (small_on n) (sym is) ∙ was

pos_held : (n : ℕ) → is_in (pos n) ≡ nat_le n 9007199254740992
pos_held n = refl

pos_at : (n : ℕ) (b : Bool) → b ≡ nat_le n 9007199254740992 → held_in (pos n) ≡ option_and_then (λ k. held_in (pos k)) (if b then Some n else None)
pos_at n true e = refl
pos_at n false e = rw (pos_held n, ← e) refl

pos_small : (a : Option ℕ) → option_and_then held_in (option_map pos a) ≡ option_and_then (λ n. held_in (pos n)) (option_and_then small a)
pos_small None = refl
pos_small (Some n) = pos_at n (nat_le n 9007199254740992) refl

pub positive_is : (s : Bytes) → positive s ≡ option_and_then (λ n. held_in (pos n)) (small_in s)
positive_is s = pos_small (digits s)

neg_held : (n : ℕ) → is_in (neg_ℤ (pos n)) ≡ nat_le n 9007199254740992
neg_held zero = refl
neg_held (suc n) = grind arith

neg_at : (n : ℕ) (b : Bool) → b ≡ nat_le n 9007199254740992 → held_in (neg_ℤ (pos n)) ≡ option_and_then (λ k. held_in (neg_ℤ (pos k))) (if b then Some n else None)
neg_at n true e = refl
neg_at n false e = rw (neg_held n, ← e) refl

neg_small : (a : Option ℕ) → option_and_then held_in (option_map (λ n. neg_ℤ (pos n)) a) ≡ option_and_then (λ n. held_in (neg_ℤ (pos n))) (option_and_then small a)
neg_small None = refl
neg_small (Some n) = neg_at n (nat_le n 9007199254740992) refl

pub negative_is : (s : Bytes) → negative s ≡ option_and_then (λ n. held_in (neg_ℤ (pos n))) (small_in s)
negative_is s = neg_small (digits s)

held_number : (n : ℤ) (b : Bool) → (if b then Some (number n) else None) ≡ option_map number (if b then Some n else None)
held_number n true = refl
held_number n false = refl

numbers_held : (a : Option ℤ) → option_and_then in_range a ≡ option_map number (option_and_then held_in a)
numbers_held None = refl
numbers_held (Some n) = held_number n (is_in n)

pub whole_text : (s : Bytes) → option_and_then in_range (signed s) ≡ option_map number (number_of s)
whole_text s = numbers_held (signed s)
