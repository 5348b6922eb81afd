-- What a list or an object keeps beside its members: how deep they are, and whether all may be stored.
use Rattle.std.specs.Prelude.{◌≡◌, ℕ, List, ◌&&◌, not, min, max, true, ◌+◌}
use Rattle.std.specs.Ordering.{is_eq}
use Rattle.reql_datum.specs.Kinds.{reserved, is_storable, are_storable}
use Rattle.reql_datum.specs.Members.{AreRising, text_order}
use Rattle.reql_datum.specs.Plain.{Plain, object, depth, items_depth, pairs_depth, items_of, pairs_of}
use Rattle.reql_datum.specs.declared.shape.Shape.{Shape}

-- the most that a depth is told as, 2^32 - 1
abbrev pub told : ℕ → ℕ
told n = min n 4294967295

abbrev pub shape_of : Plain → Shape
shape_of v = record { depth = told (depth v); storable = is_storable v }

abbrev pub items_shape : List Plain → Shape
items_shape vs = record { depth = told (items_depth (items_of vs)); storable = are_storable (items_of vs) }

abbrev pub members_shape : List (List ℕ × Plain) → Shape
members_shape ms = record { depth = told (pairs_depth (pairs_of ms)); storable = is_storable (object (pairs_of ms)) }

-- a member with the reserved name may not be stored
abbrev pub member_shape : List ℕ → Plain → Shape
member_shape k v = record { depth = told (depth v); storable = not (is_eq (text_order reserved k)) && is_storable v }

abbrev pub flat : Shape
flat = record { depth = 0; storable = true }

abbrev pub beside : Shape → Shape → Shape
beside s t = record { depth = max s.depth t.depth; storable = s.storable && t.storable }

-- one level further out
abbrev pub around : Shape → Shape
around s = record { depth = told (s.depth + 1); storable = s.storable }

-- the shape without a member of that depth, of what had the first shape with it
pub record IsLeft (shape : Shape) (old : ℕ) (rest : Shape) : Type 0 where
  pub deep : shape.depth ≡ max old rest.depth
  pub kept : shape.storable ≡ true → rest.storable ≡ true

-- what the fields of an object keep
pub record FieldsHold (shape : Shape) (ms : List (List ℕ × Plain)) : Type 0 where
  pub rising : AreRising ms
  pub shaped : shape ≡ members_shape ms
