-- NTH by the one element that it gives.
use Rattle.std.proofs.Common.{◌≡◌, refl, sym, ap, ◌∙◌, ℕ, suc, ◌-◌, ℤ, pos, negsuc, nat_lt, List, length, Bool, true, false, if◌then◌else◌, Option, Some, None, option_and_then, slice_get, Ok, Err, codes, rules, subst}
use Rattle.std.proofs.lemmas.Bool.{ltb-false}
use Rattle.std.proofs.lemmas.Option.{slice_get_past}
use Rattle.reql_datum.specs.Answer.{Answer, ◌>>=◌, Reason}
use Rattle.reql_datum.specs.Plain.{Plain}
use Rattle.reql_rules.specs.Faults.{out_of_bounds}
use Rattle.reql_rules.specs.Places as places
use Rattle.reql_rules.specs.Places.{at_place}
use Rattle.reql_rules.specs.Types.{number_in, wanted}
use Rattle.reql_value_spec.specs.Meant.{Meant, Given, meant_of}
use Rattle.reql_value_spec.specs.Sequences.{count_elements}
use Rattle.reql_value_spec.specs.Wanted.{to_sequence, as_number, seen, wrong}
use Rattle.reql_value_spec.specs.World.{World}
use Rattle.reql_apply_path.specs.Places.{nth, reached, from_end, counted_from_end, nth_at}

past : (ds : List Plain) (n : ℕ) → nat_lt n (length ds) ≡ false → slice_get ds n ≡ None
past ds n h = slice_get_past ds n (ltb-false n (length ds) h)

within : (b : Bool) (ds : List Plain) (n : ℕ) (at : ℤ) → nat_lt n (length ds) ≡ b
    → ((if b then Ok n else Err (out_of_bounds at)) >>= λ p. at_place at (slice_get ds p)) ≡ at_place at (slice_get ds n)
within true ds n at h = refl
within false ds n at h = rw (past ds n h) refl

front : (r : Answer (List Plain)) (n : ℕ) → (r >>= λ ds. places.nth ds (pos n)) ≡ ((r >>= λ ds. Ok (slice_get ds n)) >>= at_place (pos n))
front (Err e) n = refl
front (Ok ds) n = within (nat_lt n (length ds)) ds n (pos n) refl

pub from_front_is : (w : World) (m : Meant) (at : ℤ) (n : ℕ) → pos n ≡ at → nth w at m ≡ reached w n at m
from_front_is w m at n h = subst (λ k. nth w k m ≡ reached w n k m) h (front (to_sequence w m) n)

from_end_step : (b : Bool) (ds : List Plain) (w : World) (m : Meant) (n : ℕ) → to_sequence w m ≡ Ok ds → nat_lt n (length ds) ≡ b
    → ((places.below (length ds) (negsuc n) (if b then Some (length ds - suc n) else None)) >>= λ p. at_place (negsuc n) (slice_get ds p))
    ≡ (if b then reached w (length ds - suc n) (negsuc n) m else Err (out_of_bounds (negsuc n)))
from_end_step false ds w m n s h = refl
from_end_step true ds w m n s h =
    within (nat_lt (length ds - suc n) (length ds)) ds (length ds - suc n) (negsuc n) refl
    ∙ sym (ap (λ r. (r >>= λ es. Ok (slice_get es (length ds - suc n))) >>= at_place (negsuc n)) s)

back : (r : Answer (List Plain)) (w : World) (m : Meant) (n : ℕ) → to_sequence w m ≡ r → (r >>= λ ds. places.nth ds (negsuc n)) ≡ ((r >>= λ ds. Ok (length ds)) >>= λ size. from_end w n (negsuc n) m size)
back (Err e) w m n h = refl
back (Ok ds) w m n h = from_end_step (nat_lt n (length ds)) ds w m n h refl

pub from_end_is : (w : World) (m : Meant) (at : ℤ) (n : ℕ) → negsuc n ≡ at → nth w at m ≡ counted_from_end w n at m
from_end_is w m at n h = subst (λ k. nth w k m ≡ counted_from_end w n k m) h (back (to_sequence w m) w m n refl)

number_is : (g : Given) (v : Option ℤ) → option_and_then number_in (seen g) ≡ v → as_number g ≡ wanted (wrong (codes "NUMBER") (meant_of g)) v
number_is g v h = ap (wanted (wrong (codes "NUMBER") (meant_of g))) h

pub place_is : (w : World) (m : Meant) (g : Given) (at : ℤ) → Some at ≡ option_and_then number_in (seen g) → nth_at w m g ≡ nth w at m
place_is w m g at h = ap (λ a. to_sequence w m >>= λ ds. (a >>= λ n. places.nth ds n)) (number_is g (Some at) (sym h))

none_of : (r : Answer (List Plain)) (a : Answer ℤ) (e : Reason) (size : ℕ) → (r >>= λ ds. Ok (length ds)) ≡ Ok size → a ≡ Err e → (r >>= λ ds. (a >>= λ n. places.nth ds n)) ≡ Err e
none_of (Ok ds) a e size h i = rw i refl
none_of (Err f) a e size h i = absurd (search rules)

pub no_place_is : (w : World) (m : Meant) (g : Given) (size : ℕ) → count_elements w m ≡ Ok size → None ≡ option_and_then number_in (seen g) → nth_at w m g ≡ Err (wrong (codes "NUMBER") (meant_of g))
no_place_is w m g size h i = none_of (to_sequence w m) (as_number g) (wrong (codes "NUMBER") (meant_of g)) size h (number_is g None (sym i))
