-- What a request goes on with, as definitions speak of it, by what a view of a table tells.
use Rattle.std.specs.Prelude.{List, map}
use Rattle.reql_term.specs.Views.{Document, Entry, Index}
use Rattle.reql_rules.specs.Lists.{Bytes}
use Rattle.reql_operand.specs.Tables.{slotted, seen}
use Rattle.reql_plan_spec.specs.Held as law
use Rattle.reql_plan_context.specs.declared.holding.Held.{Held}
use Rattle.reql_plan_context.specs.declared.holding.Read.{Read}

module _ {V : Type 0} (documents : V → List Document) (indexes : V → List (Bytes × Index)) (entries : V → Bytes → List Entry) where
  abbrev pub read : Read V → law.Read
  read r = record { tables = map (slotted documents indexes entries) r.tables.items; points = r.points }

  abbrev pub held : Held V → law.Held
  held h = record { names = h.names; db = h.db; world = seen documents indexes entries h.world; points = h.points; setting = h.setting; batch = h.batch }
