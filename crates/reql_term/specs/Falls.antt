-- A term inside another is less deep.
use Rattle.std.specs.Prelude.{◌≤◌, max, List, [], ◌∷◌, map, Option, Some, None, Vec}
use Rattle.std.specs.declared.sync.Arc.{Arc}
use Rattle.std.specs.declared.alloc.Global.{Global}
use Rattle.std.proofs.Common.{arith}
use denote.Param.Weighed.{most}
use Rattle.reql_memory.specs.CopyOnWrite.{held_items}
use Rattle.reql_term.specs.Form.{weight, list_weight, fields_weight}
use Rattle.reql_term.specs.View.{form_of, field_of}
use Rattle.reql_term.specs.declared.term.Term.{Term}
use Rattle.reql_term.specs.declared.term.Term.TheVariants.{Lit, Arr, Obj, Var, Row, Func, Slot, Op}
use Rattle.reql_term.specs.declared.term.TermField.{TermField}
use Rattle.reql_term.specs.declared.term.Body.TheDeep.{deep-Term, deep-Terms, deep-TermFields}

deep_le-weight : (t : Term) → deep-Term t ≤ weight (form_of t)
deep_le-weight (Lit d) = omega arith
deep_le-weight (Arr ts) = omega arith
deep_le-weight (Obj ms) = omega arith
deep_le-weight (Var n) = omega arith
deep_le-weight Row = omega arith
deep_le-weight (Func ids t) = omega arith
deep_le-weight (Slot n) = omega arith
deep_le-weight (Op op ts ms) = omega arith

terms_fall : (ts : List Term) → max (most deep-Term ts) 0 ≤ list_weight (map form_of ts)
terms_fall [] = omega arith
terms_fall (t ∷ ts) = omega (arith, deep_le-weight t, terms_fall ts)

fields_fall : (ms : List TermField) → max (most (λ m. max (deep-Term m.value) 0) ms) 0 ≤ fields_weight (map field_of ms)
fields_fall [] = omega arith
fields_fall (m ∷ ms) = omega (arith, deep_le-weight m.value, fields_fall ms)

pub body_falls : (t : Term) → max (deep-Term t) 0 ≤ weight (form_of t)
body_falls t = omega (arith, deep_le-weight t)

pub held_fall : (alloc : Global) (held : Option (Arc (Vec Term Global) Global)) → deep-Terms (record { alloc = alloc; held = held }) ≤ list_weight (map form_of (held_items held))
held_fall alloc None = omega arith
held_fall alloc (Some list) = omega (arith, terms_fall list.value.items)

pub held_fields_fall : (alloc : Global) (held : Option (Arc (Vec TermField Global) Global)) → deep-TermFields (record { alloc = alloc; held = held }) ≤ fields_weight (map field_of (held_items held))
held_fields_fall alloc None = omega arith
held_fields_fall alloc (Some list) = omega (arith, fields_fall list.value.items)
