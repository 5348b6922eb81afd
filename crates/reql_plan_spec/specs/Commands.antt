-- Commands on names and on indexes, and SYNC, as a request gives them.
use Rattle.std.specs.Prelude.{ℕ, [], ◌∷◌, Option, Some, None, Bool, true, false, if◌then◌else◌, Ok, Err, codes}
use Rattle.std.specs.Option.{unwrap_or}
use Rattle.reql_datum.specs.Answer.{Answer, ◌>>=◌}
use Rattle.reql_datum.specs.Plain.{Plain, text}
use Rattle.reql_term.specs.Form.{Form, literal, variable, function, operation, Forms, NamedForms, forms_of, no_named}
use Rattle.reql_term.specs.declared.op.Op.{Op}
use Rattle.reql_term.specs.declared.op.Op.TheVariants as op
use Rattle.reql_rules.specs.Faults.{misplaced}
use Rattle.reql_rules.specs.Lists.{Bytes, object_of}
use Rattle.reql_rules.specs.Places.{counted_as}
use Rattle.reql_rules.specs.Types.{same_text}
use Rattle.reql_faults.specs.Places.{first, second, third, text_at, option}
use Rattle.reql_catalog.specs.Catalog.{is_name}
use Rattle.reql_catalog.specs.declared.command.CatCmd.{CatCmd}
use Rattle.reql_catalog.specs.declared.command.CatCmd.TheVariants as cats
use Rattle.reql_naming.specs.Named.{first_name, pair_of, text_or_empty}
use Rattle.reql_naming.specs.Texts.{bad_name}
use Rattle.reql_value_spec.specs.World.{World}
use Rattle.reql_table_spec.specs.declared.command.Cmd.{Cmd}
use Rattle.reql_table_spec.specs.declared.command.Cmd.TheVariants as cmds
use Rattle.reql_plan_spec.specs.declared.parts.Commanded.{Commanded}
use Rattle.reql_plan_spec.specs.declared.parts.TableCmd.{TableCmd}
use Rattle.reql_plan_spec.specs.declared.parts.TableCmd.TheVariants as tables
use Rattle.reql_plan_spec.specs.Held.{Held, key_of}
use Rattle.reql_plan_spec.specs.Settled.{there, argument, nothing_kept, options_given, truth_option, target, slot_in}
use Rattle.reql_plan_spec.specs.Texts.{key_name}
use Rattle.reql_plan_spec.specs.Writes.{hard_option}

-- ---- the catalogue
abbrev pub key_option : NamedForms → Bytes
key_option ms = unwrap_or (text_at (option (codes "primary_key") ms)) (codes "id")

abbrev pub creating : Bytes × Bytes → Bytes → CatCmd
creating p key = cats.TableCreate p.0 p.1 key

abbrev pub dropping : Bytes × Bytes → CatCmd
dropping p = cats.TableDrop p.0 p.1

abbrev pub cat_command : Held → Op → Forms → NamedForms → Answer CatCmd
cat_command e op.DbCreate fs ms = Ok (cats.DbCreate (first_name fs))
cat_command e op.DbDrop fs ms = Ok (cats.DbDrop (first_name fs))
cat_command e op.TableCreate fs ms = options_given e.world ms >>= λ os. hard_option os >>= λ _. Ok (creating (pair_of e.db fs) (key_option ms))
cat_command e op.TableDrop fs ms = Ok (dropping (pair_of e.db fs))
cat_command e o fs ms = Err misplaced

-- the names that its refusal tells
abbrev pub names_in : CatCmd → Bytes × Bytes
names_in (cats.DbCreate db) = (db, [])
names_in (cats.DbDrop db) = (db, [])
names_in (cats.TableCreate db table key) = (db, table)
names_in (cats.TableDrop db table) = (db, table)

abbrev pub counted : Bytes → ℕ → Plain
counted label n = object_of ((label, counted_as n) ∷ [])

-- what its success is told as
abbrev pub made_by : CatCmd → Plain
made_by (cats.DbCreate db) = counted (codes "dbs_created") 1
made_by c = counted (codes "tables_created") 1

abbrev pub dropped_by : CatCmd → ℕ → Plain
dropped_by (cats.DbDrop db) n = object_of ((codes "dbs_dropped", counted_as 1) ∷ (codes "tables_dropped", counted_as n) ∷ [])
dropped_by c n = counted (codes "tables_dropped") n

-- ---- indexes: a name keeps the rule of names, and a new one isn't that of the key field
abbrev pub name_at : Option Form → Bytes
name_at f = text_or_empty (text_at f)

abbrev pub ruled : Bytes → Answer (Unit {0})
ruled name = if is_name name then Ok tt else Err bad_name

abbrev pub fresh : Bytes → Bytes → Answer (Unit {0})
fresh key name = if same_text name key then Err (key_name name) else Ok tt

-- without a function, the field of that name
abbrev pub field_function : Bytes → Form
field_function name = function (0 ∷ []) (operation op.GetField (forms_of (variable 0 ∷ literal (text name) ∷ [])) no_named)

abbrev pub index_function : World → Bytes → Option Form → Answer Form
index_function w name None = Ok (field_function name)
index_function w name (Some f) = argument nothing_kept w f

abbrev pub times : Bool → ℕ
times true = 0
times false = 1

abbrev pub creating_index : Held → Forms → NamedForms → Answer Commanded
creating_index e fs ms = do
  f ← there (first fs)
  t ← target e.world f
  func ← index_function e.world (name_at (second fs)) (third fs)
  os ← options_given e.world ms
  n ← slot_in t
  _ ← ruled (name_at (second fs))
  _ ← fresh (key_of e.names n) (name_at (second fs))
  multi ← truth_option (codes "multi") os
  Ok (record { slot = n; cmd = tables.IndexCreate (record { name = name_at (second fs); func = func; multi = multi }); label = codes "created"; count = 1; present = name_at (second fs); missing = [] })

abbrev pub dropping_index : Held → Forms → Answer Commanded
dropping_index e fs = do
  f ← there (first fs)
  t ← target e.world f
  n ← slot_in t
  _ ← ruled (name_at (second fs))
  Ok (record { slot = n; cmd = tables.IndexDrop (name_at (second fs)); label = codes "dropped"; count = 1; present = []; missing = name_at (second fs) })

abbrev pub renaming_index : Held → Forms → NamedForms → Answer Commanded
renaming_index e fs ms = do
  f ← there (first fs)
  t ← target e.world f
  os ← options_given e.world ms
  n ← slot_in t
  _ ← ruled (name_at (second fs))
  _ ← ruled (name_at (third fs))
  _ ← fresh (key_of e.names n) (name_at (third fs))
  overwrite ← truth_option (codes "overwrite") os
  Ok (record { slot = n; cmd = tables.IndexRename (name_at (second fs)) (name_at (third fs)) overwrite; label = codes "renamed"; count = times (same_text (name_at (second fs)) (name_at (third fs))); present = name_at (third fs); missing = name_at (second fs) })

abbrev pub syncing : Held → Forms → Answer Commanded
syncing e fs = do
  f ← there (first fs)
  t ← target e.world f
  n ← slot_in t
  Ok (record { slot = n; cmd = tables.Sync; label = codes "synced"; count = 1; present = []; missing = [] })

abbrev pub table_command : Held → Op → Forms → NamedForms → Answer Commanded
table_command e op.IndexCreate fs ms = creating_index e fs ms
table_command e op.IndexDrop fs ms = dropping_index e fs
table_command e op.IndexRename fs ms = renaming_index e fs ms
table_command e op.Sync fs ms = syncing e fs
table_command e o fs ms = Err misplaced

abbrev pub cmd_of : TableCmd → Cmd
cmd_of (tables.IndexCreate d) = cmds.IndexCreate d
cmd_of (tables.IndexDrop name) = cmds.IndexDrop name
cmd_of (tables.IndexRename old new overwrite) = cmds.IndexRename old new overwrite
cmd_of tables.Sync = cmds.Sync
