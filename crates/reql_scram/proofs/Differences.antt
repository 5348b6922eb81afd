-- Bits in which bytes differ.
use Rattle.std.proofs.Common.{◌≡◌, ℕ, ◌<◌, List, length, get_or, ap, ◌∙◌, arith, bit_or, bit_xor}
use Rattle.std.proofs.lemmas.List.{ext_get_or}
use Rattle.std.proofs.lemmas.Nat.{and_le_l, and_le_r, le_or_l, le_or_r}
use Rattle.std.specs.Int.Bits.{or_zero_r, xor_add_and, xor_self}

pub none_in_one : (a b : ℕ) → bit_xor a b ≡ 0 → a ≡ b
none_in_one a b none = omega (arith, none, xor_add_and a b, and_le_l a b, and_le_r a b)

pub none_in_same : (a b : ℕ) → a ≡ b → bit_xor a b ≡ 0
none_in_same a b same = ap (λ x. bit_xor x b) same ∙ xor_self b

pub none_so_far : (so_far more : ℕ) → bit_or so_far more ≡ 0 → so_far ≡ 0
none_so_far so_far more none = omega (arith, none, le_or_l so_far more)

pub none_more : (so_far more : ℕ) → bit_or so_far more ≡ 0 → more ≡ 0
none_more so_far more none = omega (arith, none, le_or_r so_far more)

pub none_at_all : (so_far more : ℕ) → so_far ≡ 0 → more ≡ 0 → bit_or so_far more ≡ 0
none_at_all so_far more a b = ap (λ x. bit_or x more) a ∙ ap (bit_or 0) b ∙ or_zero_r 0

pub same_at_each : (xs ys : List ℕ) → length xs ≡ length ys → ((k : ℕ) → k < length xs → get_or xs k 0 ≡ get_or ys k 0) → xs ≡ ys
same_at_each xs ys e each = ext_get_or 0 xs ys e each
