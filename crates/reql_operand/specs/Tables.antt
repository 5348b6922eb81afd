-- What the tables of code stand for, by what a view of a table tells.
use Rattle.std.specs.Prelude.{ℕ, List, map}
use Rattle.reql_term.specs.Views.{Document, Entry, Index}
use Rattle.reql_rules.specs.Lists.{Bytes}
use Rattle.reql_value_spec.specs.World as w
use Rattle.reql_operand.specs.declared.world.Viewed.{Viewed}
use Rattle.reql_operand.specs.declared.world.Database.{Database}
use Rattle.reql_operand.specs.declared.world.World.{World}

abbrev pub database : Database → Bytes × ℕ
database d = (d.name, d.number)

module _ {V : Type 0} (documents : V → List Document) (indexes : V → List (Bytes × Index)) (entries : V → Bytes → List Entry) where
  abbrev pub view : Viewed V → w.View
  view t = record { db = t.db; db_number = t.db_number; name = t.name; key = t.key; documents = documents t.view; indexes = indexes t.view; entries = entries t.view }

  abbrev pub slotted : Viewed V → ℕ × w.View
  slotted t = (t.slot, view t)

  abbrev pub seen : World V → w.World
  seen s = record { tables = map slotted s.tables.items; databases = map database s.databases.items; array_limit = s.array_limit }
