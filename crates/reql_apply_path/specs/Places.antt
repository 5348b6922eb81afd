-- The element of a sequence at a place, by one element where the place is counted from the front, and by the length where it is counted from the end.
use Rattle.std.specs.Prelude.{ℕ, suc, ◌-◌, ℤ, pos, negsuc, nat_lt, if◌then◌else◌, Err}
use Rattle.reql_datum.specs.Answer.{Answer, ◌>>=◌}
use Rattle.reql_datum.specs.Plain.{Plain}
use Rattle.reql_rules.specs.Faults.{out_of_bounds}
use Rattle.reql_rules.specs.Places as places
use Rattle.reql_rules.specs.Places.{at_place}
use Rattle.reql_value_spec.specs.Meant.{Meant, Given}
use Rattle.reql_value_spec.specs.Sequences.{count_elements}
use Rattle.reql_value_spec.specs.Wanted.{to_sequence, as_number}
use Rattle.reql_value_spec.specs.World.{World}
use Rattle.reql_operand.specs.Counted.{element}
use Rattle.reql_apply_path.specs.declared.places.Place.{Place}
use Rattle.reql_apply_path.specs.declared.places.Place.TheVariants.{FromFront, FromEnd}

-- the number that a place is given by
abbrev pub number_of : Place → ℤ
number_of (FromFront n) = pos n
number_of (FromEnd n) = negsuc n

abbrev pub nth : World → ℤ → Meant → Answer Plain
nth w at m = to_sequence w m >>= λ ds. places.nth ds at

-- the element at a place from the front, where the number is what a fault tells
abbrev pub reached : World → ℕ → ℤ → Meant → Answer Plain
reached w n at m = element w n m >>= at_place at

abbrev pub from_end : World → ℕ → ℤ → Meant → ℕ → Answer Plain
from_end w back at m size = if nat_lt back size then reached w (size - suc back) at m else Err (out_of_bounds at)

abbrev pub counted_from_end : World → ℕ → ℤ → Meant → Answer Plain
counted_from_end w back at m = count_elements w m >>= λ size. from_end w back at m size

-- the place as an argument
abbrev pub nth_at : World → Meant → Given → Answer Plain
nth_at w m g = do
  ds ← to_sequence w m
  at ← as_number g
  places.nth ds at
