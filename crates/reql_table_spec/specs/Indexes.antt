-- Commands on the indexes of a table (ReQL API reference: indexCreate, indexDrop, indexRename).
use Rattle.std.specs.Prelude.{List, Bool, true, false, ◌&&◌, not, if◌then◌else◌, Option, Some, None, is_some}
use Rattle.reql_datum.specs.Members.{find, put, without}
use Rattle.reql_rules.specs.Lists.{Bytes}
use Rattle.reql_rules.specs.Types.{same_text}
use Rattle.reql_term.specs.Views.{Index}
use Rattle.reql_table_machine_spec.specs.declared.command.Said.{Said}
use Rattle.reql_table_machine_spec.specs.declared.command.Said.TheVariants as said

-- the definitions by rising name
abbrev pub Indexes : Type 0
Indexes = List (Bytes × Index)

pub data IndexCmd : Type 0 where
  create : Bytes → Index → IndexCmd
  drop : Bytes → IndexCmd
  rename : Bytes → Bytes → Bool → IndexCmd

abbrev pub is_there : Bytes → Indexes → Bool
is_there name indexes = is_some (find name indexes)

-- another index of the new name gives way
abbrev pub renamed : Bytes → Bytes → Option Index → Indexes → Indexes
renamed old new None indexes = indexes
renamed old new (Some i) indexes = put new i (without old indexes)

-- a name that another index has, and that may not be taken
abbrev pub is_taken : Bytes → Bool → Indexes → Bool
is_taken new overwrite indexes = is_there new indexes && not overwrite

abbrev pub indexed : Indexes → IndexCmd → Indexes
indexed indexes (create name i) = if is_there name indexes then indexes else put name i indexes
indexed indexes (drop name) = without name indexes
indexed indexes (rename old new overwrite) = if same_text old new then indexes else (if is_taken new overwrite indexes then indexes else renamed old new (find old indexes) indexes)

module _ {M I : Type 0} where
  abbrev pub index_said : Indexes → IndexCmd → Said M I
  index_said indexes (create name i) = if is_there name indexes then said.IndexExists else said.Changed
  index_said indexes (drop name) = if is_there name indexes then said.Changed else said.IndexMissing
  index_said indexes (rename old new overwrite) = if not (is_there old indexes) then said.IndexMissing else (if same_text old new then said.Changed else (if is_taken new overwrite indexes then said.IndexExists else said.Changed))
