-- What a request goes on with once its tables are looked at: the names, the world that it is evaluated in, and the points of its snapshots.
use Rattle.std.specs.Prelude.{ℕ, List, [], ◌∷◌, ◌++◌, map, Option, Some, None}
use Rattle.std.specs.Option.{unwrap_or}
use Rattle.reql_datum.specs.Answer.{Reason, op_failed}
use Rattle.reql_datum.specs.declared.point.Point.{Point}
use Rattle.reql_term.specs.Views.{Document}
use Rattle.reql_rules.specs.Lists.{Bytes}
use Rattle.reql_catalog.specs.Catalog.{Named, key_at, names_at}
use Rattle.reql_catalog.specs.declared.database.Database.{Database}
use Rattle.reql_datum.specs.Members.{find}
use Rattle.reql_value_spec.specs.Index.{plain_view}
use Rattle.reql_value_spec.specs.World.{World, View}
use Rattle.reql_table_spec.specs.Indexes.{Indexes}
use Rattle.reql_table_spec.specs.Machine.{Seen}
use Rattle.reql_plan_spec.specs.declared.parts.Setting.{Setting}
use Rattle.reql_plan_spec.specs.Texts.{dropped_text}

pub record Held : Type 0 where
  pub names : Named
  pub db : Bytes
  pub world : World
  pub points : List Point
  pub setting : Setting
  pub batch : ℕ

-- the snapshots so far
pub record Read : Type 0 where
  pub tables : List (ℕ × View)
  pub points : List Point

abbrev pub nothing_read : Read
nothing_read = record { tables = []; points = [] }

-- what the names say of a slot
abbrev pub key_of : Named → ℕ → Bytes
key_of ns n = unwrap_or (key_at n ns) []

abbrev pub names_of : Named → ℕ → Bytes × Bytes
names_of ns n = unwrap_or (names_at n ns) ([], [])

abbrev pub dropped_of : Named → ℕ → Bytes
dropped_of ns n = dropped_text (names_of ns n).0 (names_of ns n).1

abbrev pub dropped : Named → ℕ → Reason
dropped ns n = op_failed (dropped_of ns n)

abbrev pub number_in : Option Database → ℕ
number_in None = 0
number_in (Some d) = d.number

abbrev pub view_of : Named → ℕ → List Document → Indexes → View
view_of ns n docs indexes = plain_view (names_of ns n).0 (number_in (find (names_of ns n).0 ns.dbs)) (names_of ns n).1 (key_of ns n) docs indexes

abbrev pub with_view : Named → Read → ℕ → Seen → List Document × Indexes → Read
with_view ns r n at found = record {
  tables = r.tables ++ (n, view_of ns n found.0 found.1) ∷ [];
  points = r.points ++ record { slot = n; place = at.place; stamp = at.stamp } ∷ [];
}

abbrev pub world_of : Named → ℕ → Read → World
world_of ns limit r = record { tables = r.tables; databases = map (λ d. (d.0, d.1.number)) ns.dbs; array_limit = limit }
