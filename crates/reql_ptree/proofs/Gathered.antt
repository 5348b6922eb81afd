-- What is given of two parts one after the other, and of a chunk.
use Rattle.std.proofs.Common.{◌≡◌, ℕ, zero, suc, ◌+◌, ◌-◌, ◌<◌, ◌≤◌, min, List, [], ◌∷◌, ◌++◌, length, take, drop, map, reverse, Bool, true, false, not, ◌&&◌, Option, Some, None, refl, sym, ap, ◌∙◌, subst, arith, length-append, append_assoc}
use Rattle.std.specs.List.{AllByRecursion}
use Rattle.std.proofs.lemmas.List.{append-nil, length-map, length-take, take_all, take-append-le, take-append-drop, map-append, reverse-append, length-reverse, take-map, drop-map, drop-take, drop_all}
use Rattle.std.proofs.lemmas.List.Elements.{filter-append}
use Rattle.reql_datum.specs.Plain.{Plain}
use Rattle.reql_ptree.specs.Chunk.{pair}
use Rattle.reql_ptree.specs.Ends.{is_past, is_before, within, between, given, start_of, end_of, search_for, IsFrom, IsTo}
use Rattle.reql_ptree.specs.Next.{behind, IsCut}
use Rattle.reql_ptree.specs.Pairs.{Opens}
use Rattle.reql_ptree.specs.Spent.{IsSpent, credit}
use Rattle.reql_ptree.specs.Tall.{digits}
use Rattle.reql_ptree.proofs.Spent.{spent_chunk, credit_le}
use Rattle.reql_ptree.specs.declared.chunk.Pair.{Pair}
use Rattle.reql_ptree.proofs.Ranges.{filter_none, and_false, past_free, before_free, all_as}

along_joined : (a b : List Plain) → reverse (a ++ b) ≡ reverse b ++ reverse a
along_joined a b = reverse-append a b

pub given_rising : (a b : List (Plain × Plain)) → given false (a ++ b) ≡ given false a ++ given false b
given_rising a b = map-append (λ (m : Plain × Plain). m.1) a b

pub given_falling : (a b : List (Plain × Plain)) → given true (a ++ b) ≡ given true b ++ given true a
given_falling a b = ap reverse (map-append (λ (m : Plain × Plain). m.1) a b) ∙ reverse-append (map (λ (m : Plain × Plain). m.1) a) (map (λ (m : Plain × Plain). m.1) b)

pub length_given : (falling : Bool) (ms : List (Plain × Plain)) → length (given falling ms) ≡ length ms
length_given false ms = length-map ms (λ (m : Plain × Plain). m.1)
length_given true ms = length-reverse (map (λ (m : Plain × Plain). m.1) ms) ∙ length-map ms (λ (m : Plain × Plain). m.1)

-- up to so many, in two steps
take_on : (n : ℕ) (a b : List Plain) → take n (take n a ++ b) ≡ take n (a ++ b)
take_on zero a b = refl
take_on (suc n) [] b = refl
take_on (suc n) (x ∷ a) b = ap (λ t. x ∷ t) (take_on n a b)

take_full : (n : ℕ) (a b : List Plain) → n ≤ length a → take n a ≡ take n (a ++ b)
take_full n a b full = sym (take-append-le n a b full)

module _ (most : ℕ) (o x y : List Plain) (x' : List Plain) (is : x' ≡ take most (o ++ x)) where
  pub then_given : (y' : List Plain) → y' ≡ take most (x' ++ y) → y' ≡ take most (o ++ (x ++ y))
  then_given y' e = e ∙ ap (λ t. take most (t ++ y)) is ∙ take_on most (o ++ x) y ∙ ap (take most) (append_assoc o x y)

  pub full_given : most ≤ length x' → x' ≡ take most (o ++ (x ++ y))
  full_given full =
      let e : length x' ≡ min most (length (o ++ x)) = ap length is ∙ length-take most (o ++ x) in
      is ∙ take_full most (o ++ x) y (omega (arith, e, full)) ∙ ap (take most) (append_assoc o x y)

  pub length_now : length x' ≡ min most (length o + length x)
  length_now = ap length is ∙ length-take most (o ++ x) ∙ ap (min most) (length-append o x)

-- nothing more than there is room for
pub all_given : (most : ℕ) (o x : List Plain) → length o ≤ most → length o + length x ≤ most → o ++ x ≡ take most (o ++ x)
all_given most o x room fits = sym (take_all most (o ++ x) (omega (arith, length-append o x, fits)))

module _ (P : Plain × Plain → Type 0) where
  all_drop_take : (ms : List (Plain × Plain)) (i j : ℕ) → AllByRecursion P (drop i ms) → AllByRecursion P (drop i (take j ms))
  all_drop_take [] zero zero all = tt
  all_drop_take [] zero (suc j) all = tt
  all_drop_take [] (suc i) zero all = tt
  all_drop_take [] (suc i) (suc j) all = tt
  all_drop_take (m ∷ ms) zero zero all = tt
  all_drop_take (m ∷ ms) (suc i) zero all = tt
  all_drop_take (m ∷ ms) zero (suc j) all = (all.0, all_drop_take ms zero j all.1)
  all_drop_take (m ∷ ms) (suc i) (suc j) all = all_drop_take ms i j all

  all_take_take : (ms : List (Plain × Plain)) (i j : ℕ) → AllByRecursion P (take i ms) → AllByRecursion P (take i (take j ms))
  all_take_take [] zero zero all = tt
  all_take_take [] zero (suc j) all = tt
  all_take_take [] (suc i) zero all = tt
  all_take_take [] (suc i) (suc j) all = tt
  all_take_take (m ∷ ms) zero zero all = tt
  all_take_take (m ∷ ms) (suc i) zero all = tt
  all_take_take (m ∷ ms) zero (suc j) all = tt
  all_take_take (m ∷ ms) (suc i) (suc j) all = (all.0, all_take_take ms i j all.1)

between_all : (ms : List (Plain × Plain)) → between None None ms ≡ ms
between_all [] = refl
between_all (m ∷ ms) = ap (λ t. m ∷ t) (between_all ms)

-- the pairs of a chunk between two ends, by their places
pub between_places : (low high : Option (Plain × Bool)) (ms : List (Plain × Plain)) (i j : ℕ) → IsFrom low ms i → IsTo high ms j → between low high ms ≡ drop i (take j ms)
between_places low high ms i j from to =
    let cut = take j ms in
    let rest : between low high (drop j ms) ≡ [] = filter_none (within low high) (within None None) (drop j ms) (all_as (λ m. is_before high m.0 ≡ false) (λ m. within low high m ≡ false) (λ m e. and_false (is_past low m.0) (is_before high m.0) e) (drop j ms) to.1) in
    let early : between low None (take i cut) ≡ [] = filter_none (within low None) (within None None) (take i cut) (all_as (λ m. is_past low m.0 ≡ false) (λ m. within low None m ≡ false) (λ m e. ap (λ b. b && true) e) (take i cut) (all_take_take (λ m. is_past low m.0 ≡ false) ms i j from.0)) in
    let late : between low None (drop i cut) ≡ drop i cut = past_free low None (drop i cut) (all_drop_take (λ m. is_past low m.0 ≡ true) ms i j from.1) ∙ between_all (drop i cut) in
    ap (between low high) (sym (take-append-drop j ms)) ∙ filter-append (within low high) cut (drop j ms) ∙ ap (λ t. between low high cut ++ t) rest ∙ append-nil (between low high cut)
    ∙ before_free low high cut to.0
    ∙ ap (between low None) (sym (take-append-drop i cut)) ∙ filter-append (within low None) (take i cut) (drop i cut) ∙ ap (λ t. t ++ between low None (drop i cut)) early ∙ late

-- the places of ends, from cuts
not_of : (b : Bool) → b ≡ true → not b ≡ false
not_of b h = ap not h

cut_parts : (k : Plain) (at : Bool) (ms : List (Plain × Plain)) (i : ℕ) → IsCut k at ms i → AllByRecursion (λ m. behind k at m ≡ true) (take i ms) × AllByRecursion (λ m. behind k at m ≡ false) (drop i ms)
cut_parts k at [] zero h = (tt, tt)
cut_parts k at [] (suc i) h = absurd h
cut_parts k at (m ∷ ms) zero h = (tt, h)
cut_parts k at (m ∷ ms) (suc i) h = let rest = cut_parts k at ms i h.1 in ((h.0, rest.0), rest.1)

pub from_cut : (c : Plain × Bool) (ms : List (Plain × Plain)) (i : ℕ) → IsCut c.0 c.1 ms i → IsFrom (Some c) ms i
from_cut c ms i h =
    let parts = cut_parts c.0 c.1 ms i h in (
      all_as (λ m. behind c.0 c.1 m ≡ true) (λ m. is_past (Some c) m.0 ≡ false) (λ m e. ap not e) (take i ms) parts.0,
      all_as (λ m. behind c.0 c.1 m ≡ false) (λ m. is_past (Some c) m.0 ≡ true) (λ m e. ap not e) (drop i ms) parts.1,
    )

pub to_cut : (c : Plain × Bool) (ms : List (Plain × Plain)) (i : ℕ) → IsCut c.0 c.1 ms i → IsTo (Some c) ms i
to_cut c ms i h = cut_parts c.0 c.1 ms i h

all_refl : (ms : List (Plain × Plain)) → AllByRecursion (λ m. true ≡ true) ms
all_refl [] = tt
all_refl (m ∷ ms) = (refl, all_refl ms)

pub from_none : (ms : List (Plain × Plain)) → IsFrom None ms 0
from_none [] = (tt, tt)
from_none (m ∷ ms) = (tt, all_refl (m ∷ ms))

pub to_none : (ms : List (Plain × Plain)) → IsTo None ms (length ms)
to_none [] = (tt, tt)
to_none (m ∷ ms) = ((refl, (to_none ms).0), (to_none ms).1)

-- a waiting chunk has a pair to give where there is no low end
pub credit_has : (low high : Option (Plain × Bool)) (p q : List (Plain × Plain)) → (low ≡ None → Opens (λ k. is_before high k ≡ true) p) → credit low p ≤ length (between low high (p ++ q))
credit_has (Some c) high p q h = omega arith
credit_has None high [] q h = omega arith
credit_has None high (m ∷ ms) q h = rw (h refl) (omega arith)

pub credit_past : (low : Option (Plain × Bool)) (first : Plain) (p : List (Plain × Plain)) → is_past low first ≡ false → credit low p ≡ 0
credit_past None first p h = absurd (cc)
credit_past (Some c) first p h = refl

pub credit_one : (p : List (Plain × Plain)) → 0 < length p → credit None p ≡ 1
credit_one [] some = absurd (omega arith)
credit_one (m ∷ ms) some = refl

-- a part of a chunk, and what was given of one where there was room for no more
pub part_is : (rs : List Pair) (i j : ℕ) → i < j → map pair (take (j - i) (drop i rs)) ≡ drop i (take j (map pair rs))
part_is rs i j less =
    let e : i + (j - i) ≡ j = omega arith in
    sym (take-map pair (j - i) (drop i rs)) ∙ ap (take (j - i)) (sym (drop-map pair i rs)) ∙ sym (drop-take i (j - i) (map pair rs)) ∙ ap (λ n. drop i (take n (map pair rs))) e

pub part_none : (rs : List Pair) (i j : ℕ) → j ≤ i → [] ≡ drop i (take j (map pair rs))
part_none rs i j less = sym (drop_all i (take j (map pair rs)) (omega (arith, length-take j (map pair rs), less)))

stop : (most : ℕ) (o x y out : List Plain) → out ≡ o ++ x → length out ≤ most → most ≤ length out → out ≡ take most (o ++ (x ++ y))
stop most o x y out is room full =
    sym (take_all most out room) ∙ take_full most out y full ∙ ap (λ t. take most (t ++ y)) is ∙ ap (take most) (append_assoc o x y)

pub stop_rising : (most : ℕ) (o out : List Plain) (rs : List Pair) (i : ℕ) → out ≡ o ++ given false (map pair (take i rs)) → length out ≤ most → most ≤ length out → out ≡ take most (o ++ given false (map pair rs))
stop_rising most o out rs i is room full =
    let e : map pair (take i rs) ++ map pair (drop i rs) ≡ map pair rs = sym (map-append pair (take i rs) (drop i rs)) ∙ ap (map pair) (take-append-drop i rs) in
    stop most o (given false (map pair (take i rs))) (given false (map pair (drop i rs))) out is room full
    ∙ ap (λ t. take most (o ++ t)) (sym (given_rising (map pair (take i rs)) (map pair (drop i rs))) ∙ ap (given false) e)

pub stop_falling : (most : ℕ) (o out : List Plain) (rs : List Pair) (i : ℕ) → out ≡ o ++ given true (map pair (drop i rs)) → length out ≤ most → most ≤ length out → out ≡ take most (o ++ given true (map pair rs))
stop_falling most o out rs i is room full =
    let e : map pair (take i rs) ++ map pair (drop i rs) ≡ map pair rs = sym (map-append pair (take i rs) (drop i rs)) ∙ ap (map pair) (take-append-drop i rs) in
    stop most o (given true (map pair (drop i rs))) (given true (map pair (take i rs))) out is room full
    ∙ ap (λ t. take most (o ++ t)) (sym (given_falling (map pair (take i rs)) (map pair (drop i rs))) ∙ ap (given true) e)

-- a search for each end that there is
search_le : (o : Option (Plain × Bool)) (n : ℕ) → search_for o n ≤ digits n
search_le None n = omega arith
search_le (Some c) n = omega arith

search_none : (o : Option (Plain × Bool)) (n : ℕ) → o ≡ None → search_for o n ≡ 0
search_none None n e = refl
search_none (Some c) n e = absurd (cc)

both_ends : (falling : Bool) (low high : Option (Plain × Bool)) (n : ℕ) → search_for low n + search_for high n ≡ search_for (start_of falling low high) n + search_for (end_of falling low high) n
both_ends false low high n = refl
both_ends true low high n = omega arith

pub chunk_spends : (falling : Bool) (low high : Option (Plain × Bool)) (ms : List (Plain × Plain)) (room n s0 s1 : ℕ) → length ms ≤ 15 → 0 < room → (low ≡ None → Opens (λ k. is_before high k ≡ true) ms) → n ≡ length ms → s1 ≤ s0 + search_for low n + search_for high n
    → IsSpent (start_of falling low high) (end_of falling low high) (length ms) 0 0 room (length (between low high (ms ++ []))) (credit low ms) s0 s1
chunk_spends falling low high ms room n s0 s1 few some waits same cost =
    let m = length ms in
    spent_chunk (start_of falling low high) (end_of falling low high) m few room (length (between low high (ms ++ []))) (credit low ms) s0 s1 (search_for (start_of falling low high) m) (search_for (end_of falling low high) m)
    (search_le (start_of falling low high) m) (search_le (end_of falling low high) m) (search_none (start_of falling low high) m) (search_none (end_of falling low high) m)
    (omega (arith, credit_le low ms, credit_has low high ms [] waits, some))
    (let e : s1 ≤ s0 + search_for low m + search_for high m = subst (λ k. s1 ≤ s0 + search_for low k + search_for high k) same cost in omega (arith, e, both_ends falling low high m))
