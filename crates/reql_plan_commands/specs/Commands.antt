-- Commands once their arguments have been evaluated.
use Rattle.std.specs.Prelude.{ℕ, [], Ok, codes}
use Rattle.reql_datum.specs.Answer.{Answer, ◌>>=◌}
use Rattle.reql_term.specs.Form.{Form, Forms, NamedForms}
use Rattle.reql_rules.specs.Lists.{Bytes}
use Rattle.reql_rules.specs.Types.{same_text}
use Rattle.reql_faults.specs.Places.{second, third}
use Rattle.reql_catalog.specs.declared.command.CatCmd.{CatCmd}
use Rattle.reql_naming.specs.Named.{pair_of}
use Rattle.reql_value_spec.specs.Meant.{Meant, Options}
use Rattle.reql_plan_spec.specs.declared.parts.Commanded.{Commanded}
use Rattle.reql_plan_spec.specs.declared.parts.TableCmd.TheVariants as tables
use Rattle.reql_plan_spec.specs.Commands.{creating, key_option, name_at, index_function, ruled, fresh, times}
use Rattle.reql_plan_spec.specs.Held.{Held, key_of}
use Rattle.reql_plan_spec.specs.Settled.{options_given, truth_option, slot_in}
use Rattle.reql_plan_spec.specs.Writes.{hard_option}

abbrev pub creating_table : Held → Forms → NamedForms → Answer CatCmd
creating_table e fs ms = options_given e.world ms >>= λ os. hard_option os >>= λ _. Ok (creating (pair_of e.db fs) (key_option ms))

-- the commands on indexes, of a name
abbrev pub created : Held → Meant → Bytes → Form → Options → Answer Commanded
created e t name func os = do
  n ← slot_in t
  _ ← ruled name
  _ ← fresh (key_of e.names n) name
  multi ← truth_option (codes "multi") os
  Ok (record { slot = n; cmd = tables.IndexCreate (record { name = name; func = func; multi = multi }); label = codes "created"; count = 1; present = name; missing = [] })

abbrev pub dropped : Meant → Bytes → Answer Commanded
dropped t name = do
  n ← slot_in t
  _ ← ruled name
  Ok (record { slot = n; cmd = tables.IndexDrop name; label = codes "dropped"; count = 1; present = []; missing = name })

abbrev pub renamed : Held → Meant → Bytes → Bytes → Options → Answer Commanded
renamed e t old new os = do
  n ← slot_in t
  _ ← ruled old
  _ ← ruled new
  _ ← fresh (key_of e.names n) new
  overwrite ← truth_option (codes "overwrite") os
  Ok (record { slot = n; cmd = tables.IndexRename old new overwrite; label = codes "renamed"; count = times (same_text old new); present = new; missing = old })

-- the commands on a table, once it is found
abbrev pub indexing : Held → Meant → Forms → NamedForms → Answer Commanded
indexing e t fs ms = do
  func ← index_function e.world (name_at (second fs)) (third fs)
  os ← options_given e.world ms
  created e t (name_at (second fs)) func os

abbrev pub renaming : Held → Meant → Forms → NamedForms → Answer Commanded
renaming e t fs ms = options_given e.world ms >>= λ os. renamed e t (name_at (second fs)) (name_at (third fs)) os

abbrev pub synced : Meant → Answer Commanded
synced t = do
  n ← slot_in t
  Ok (record { slot = n; cmd = tables.Sync; label = codes "synced"; count = 1; present = []; missing = [] })
