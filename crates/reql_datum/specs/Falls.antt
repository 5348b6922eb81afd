-- A datum inside another is less deep.
use Rattle.std.specs.Prelude.{◌≤◌, max, List, [], ◌∷◌, map, Option, Some, None, Vec}
use Rattle.std.specs.declared.sync.Arc.{Arc}
use Rattle.std.specs.declared.alloc.Global.{Global}
use Rattle.reql_memory.specs.CopyOnWrite.{held_items}
use Rattle.std.proofs.Common.{arith}
use denote.Param.Weighed.{most}
use Rattle.reql_datum.specs.Plain.{weight, list_weight, members_weight}
use Rattle.reql_datum.specs.View.{plain, member}
use Rattle.reql_datum.specs.declared.datum.Datum.{Datum}
use Rattle.reql_datum.specs.declared.datum.Datum.TheVariants as v
use Rattle.reql_datum.specs.declared.datum.Field.{Field}
use Rattle.reql_datum.specs.declared.shape.Shape.{Shape}
use Rattle.reql_datum.specs.declared.datum.Fields.TheDeep.{deep-Datum, deep-Items, deep-Fields}

pub deep_le-weight : (d : Datum) → deep-Datum d ≤ weight (plain d)
deep_le-weight v.Low = omega arith
deep_le-weight (v.List vs) = omega arith
deep_le-weight (v.Bool b) = omega arith
deep_le-weight v.Null = omega arith
deep_le-weight (v.Num n) = omega arith
deep_le-weight (v.Obj ms) = omega arith
deep_le-weight (v.Binary s) = omega arith
deep_le-weight (v.Time t) = omega arith
deep_le-weight (v.Text s) = omega arith
deep_le-weight v.High = omega arith

pub items_fall : (ds : List Datum) → max (most deep-Datum ds) 0 ≤ list_weight (map plain ds)
items_fall [] = omega arith
items_fall (d ∷ ds) = omega (arith, deep_le-weight d, items_fall ds)

pub fields_fall : (ms : List Field) → max (most (λ m. max (deep-Datum m.value) 0) ms) 0 ≤ members_weight (map member ms)
fields_fall [] = omega arith
fields_fall (m ∷ ms) = omega (arith, deep_le-weight m.value, fields_fall ms)

pub held_fall : (alloc : Global) (held : Option (Arc (Vec Datum Global) Global)) (shape : Shape) → deep-Items (record { alloc = alloc; held = held; shape = shape }) ≤ list_weight (map plain (held_items held))
held_fall alloc None shape = omega arith
held_fall alloc (Some list) shape = omega (arith, items_fall list.value.items)

pub held_members_fall : (alloc : Global) (held : Option (Arc (Vec Field Global) Global)) (shape : Shape) → deep-Fields (record { alloc = alloc; held = held; shape = shape }) ≤ members_weight (map member (held_items held))
held_members_fall alloc None shape = omega arith
held_members_fall alloc (Some list) shape = omega (arith, fields_fall list.value.items)
