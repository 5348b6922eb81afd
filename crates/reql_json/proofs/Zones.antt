-- Zones and their texts.
use Rattle.std.proofs.Common.{◌≡◌, ℕ, ℤ, pos, negsuc, zero, suc, ◌+◌, ◌-◌, ◌*◌, ◌/◌, ◌%◌, ◌<◌, ◌==◌, List, [], ◌∷◌, codes, Bool, true, false, ◌&&◌, not, nat_lt, neg_ℤ, int_le, if◌then◌else◌, Option, Some, None, option_map, refl, ap, arith}
use Rattle.std.specs.Option.{IfSome}
use Rattle.std.specs.Ordering.{is_eq}
use Rattle.std.proofs.lemmas.Bool.{ltb-true, lt-ltb, le-leb}
use Rattle.std.proofs.lemmas.Int.{ints}
use Rattle.reql_datum.specs.Members.{text_order}
use Rattle.reql_datum.specs.Zone.{is_zone, zone_text}
use Rattle.reql_json.specs.Literal.{is_digit, two_digits, minutes, offset, zone_in}

both : (a b : Bool) → (a && b) ≡ true → (a ≡ true) × (b ≡ true)
both true b h = (refl, h)
both false b h = cc

east : (m : ℕ) → is_zone (pos m) ≡ true → m < 1440
east m h =
    let most : int_le (pos m) (pos 1439) ≡ true = (both (int_le (negsuc 1438) (pos m)) (int_le (pos m) (pos 1439)) h).1 in
    omega (arith, ints)

west : (m : ℕ) → is_zone (negsuc m) ≡ true → suc m < 1440
west m h =
    let least : int_le (negsuc 1438) (negsuc m) ≡ true = (both (int_le (negsuc 1438) (negsuc m)) (int_le (negsuc m) (pos 1439)) h).0 in
    omega (arith, ints)

-- ---- what is spelled is read

digit : (n : ℕ) → n < 10 → is_digit (48 + n) ≡ true
digit n h = rw (le-leb 48 (48 + n) (omega arith), le-leb (48 + n) 57 (omega arith)) refl

digits_back : (limit a b : ℕ) → a < 10 → b < 10 → a * 10 + b < limit → two_digits limit (48 + a) (48 + b) ≡ Some (a * 10 + b)
digits_back limit a b h k l =
    let e : 48 + a - 48 ≡ a = omega arith in
    let f : 48 + b - 48 ≡ b = omega arith in
    rw (digit a h, digit b k, e, f, lt-ltb (a * 10 + b) limit l) refl

clock_back : (m : ℕ) → m < 1440 → minutes (two_digits 24 (48 + m / 600) (48 + m / 60 % 10)) (two_digits 60 (48 + m % 60 / 10) (48 + m % 10)) ≡ Some m
clock_back m h =
    let hours = digits_back 24 (m / 600) (m / 60 % 10) (omega arith) (omega arith) (omega arith) in
    let more = digits_back 60 (m % 60 / 10) (m % 10) (omega arith) (omega arith) (omega arith) in
    let whole : (m / 600 * 10 + m / 60 % 10) * 60 + (m % 60 / 10 * 10 + m % 10) ≡ m = omega arith in
    rw (hours, more) (ap Some whole)

pub zone_back : (z : ℤ) → is_zone z ≡ true → zone_in (zone_text z) ≡ Some z
zone_back (pos m) h = rw (clock_back m (east m h)) refl
zone_back (negsuc m) h = rw (clock_back (suc m) (west m h)) refl

-- ---- what is read is a zone

below_if : (c : Bool) (limit n : ℕ) → (c ≡ true → n < limit) → IfSome (if c then Some n else None) (λ k. k < limit)
below_if true limit n h = h refl
below_if false limit n h = tt

digits_below : (limit a b : ℕ) → IfSome (two_digits limit a b) (λ n. n < limit)
digits_below limit a b =
    let n : ℕ = (a - 48) * 10 + (b - 48) in
    below_if (is_digit a && is_digit b && nat_lt n limit) limit n (λ h. ltb-true n limit (both (is_digit a && is_digit b) (nat_lt n limit) h).1)

minutes_below : (h m : Option ℕ) → IfSome h (λ n. n < 24) → IfSome m (λ n. n < 60) → IfSome (minutes h m) (λ n. n < 1440)
minutes_below None m a b = tt
minutes_below (Some x) None a b = tt
minutes_below (Some x) (Some y) a b = omega arith

east_zone : (m : ℕ) → m < 1440 → is_zone (pos m) ≡ true
east_zone m h = rw (le-leb m 1439 (omega arith)) refl

west_zone : (m : ℕ) → m < 1440 → is_zone (neg_ℤ (pos m)) ≡ true
west_zone zero h = refl
west_zone (suc k) h = rw (le-leb k 1438 (omega arith)) refl

offset_if : (x y z : Bool) (m : Option ℕ) → IfSome m (λ n. n < 1440)
    → IfSome (if x then None else (if y then option_map pos m else (if z then option_map (λ n. neg_ℤ (pos n)) m else None))) (λ o. is_zone o ≡ true)
offset_if true y z m h = tt
offset_if false true z None h = tt
offset_if false true z (Some n) h = east_zone n h
offset_if false false true None h = tt
offset_if false false true (Some n) h = west_zone n h
offset_if false false false m h = tt

offset_kept : (s : List ℕ) → IfSome (offset s) (λ z. is_zone z ≡ true)
offset_kept [] = tt
offset_kept (a ∷ []) = tt
offset_kept (a ∷ b ∷ []) = tt
offset_kept (a ∷ b ∷ c ∷ []) = tt
offset_kept (a ∷ b ∷ c ∷ d ∷ []) = tt
offset_kept (a ∷ b ∷ c ∷ d ∷ e ∷ []) = tt
offset_kept (sign ∷ a ∷ b ∷ colon ∷ c ∷ d ∷ []) =
    offset_if (not (colon == 58)) (sign == 43) (sign == 45) (minutes (two_digits 24 a b) (two_digits 60 c d))
    (minutes_below (two_digits 24 a b) (two_digits 60 c d) (digits_below 24 a b) (digits_below 60 c d))
offset_kept (a ∷ b ∷ c ∷ d ∷ e ∷ f ∷ g ∷ s) = tt

either : (b : Bool) (o : Option ℤ) → IfSome o (λ z. is_zone z ≡ true) → IfSome (if b then Some (pos 0) else o) (λ z. is_zone z ≡ true)
either true o h = refl
either false o h = h

pub zone_kept : (s : List ℕ) → IfSome (zone_in s) (λ z. is_zone z ≡ true)
zone_kept s = either (is_eq (text_order s (codes "Z"))) (offset s) (offset_kept s)
