-- Places in lists (ReQL API reference: nth, slice, skip, limit): negative ones count from the end.
use Rattle.std.specs.Prelude.{ℕ, suc, ◌+◌, ◌-◌, ℤ, pos, negsuc, min, nat_lt, Bool, if◌then◌else◌, List, length, slice_range, slice_get, Option, Some, None, Ok, Err}
use Rattle.reql_datum.specs.Answer.{Answer, ◌>>=◌}
use Rattle.reql_datum.specs.Plain.{Plain, number}
use Rattle.reql_rules.specs.Faults.{out_of_bounds, negative_count}

-- the place that −1 stands just below `end` for
abbrev pub counted : ℕ → ℤ → Option ℕ
counted end (pos n) = Some n
counted end (negsuc n) = if nat_lt n end then Some (end - suc n) else None

abbrev pub below : ℕ → ℤ → Option ℕ → Answer ℕ
below places at None = Err (out_of_bounds at)
below places at (Some n) = if nat_lt n places then Ok n else Err (out_of_bounds at)

-- one of so many places, where −1 is the last before `end`
abbrev pub place : ℕ → ℕ → ℤ → Answer ℕ
place end places at = below places at (counted end at)

-- the place of an item, −1 for the last
abbrev pub item_place : List Plain → ℤ → Answer ℕ
item_place vs at = place (length vs) (length vs) at

-- a place between items, where −1 is the end
abbrev pub gap_place : List Plain → ℤ → Answer ℕ
gap_place vs at = place (length vs + 1) (length vs + 1) at

-- a boundary, which may be the length, and −1 is before the last item
abbrev pub boundary : List Plain → ℤ → Answer ℕ
boundary vs at = place (length vs) (length vs + 1) at

abbrev pub at_place : ℤ → Option Plain → Answer Plain
at_place at None = Err (out_of_bounds at)
at_place at (Some v) = Ok v

abbrev pub nth : List Plain → ℤ → Answer Plain
nth vs at = do
  p ← item_place vs at
  at_place at (slice_get vs p)

-- the items from one place up to another, neither above the length
abbrev pub cut : List Plain → ℕ → ℕ → List Plain
cut vs from to = slice_range vs from to

-- an edge of a slice: past the item at the place or before it; what is outside is cut off
abbrev pub edge : ℕ → Bool → ℤ → ℕ
edge size past (pos n) = min size (if past then suc n else n)
edge size past (negsuc n) = min size ((if past then suc size else size) - suc n)

abbrev pub sliced : List Plain → Bool → ℤ → Bool → ℤ → List Plain
sliced vs left_open from right_closed to = cut vs (edge (length vs) left_open from) (edge (length vs) right_closed to)

-- how many are taken or passed over
abbrev pub as_count : ℤ → Answer ℕ
as_count (pos n) = Ok n
as_count (negsuc n) = Err negative_count

-- a count or a place as a number; above the range it is the greatest number
abbrev pub counted_as : ℕ → Plain
counted_as n = number (pos (min n 9007199254740992))
