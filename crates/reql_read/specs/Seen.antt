-- The parts of a term as they are handed on: optional arguments are none where there is no object.
use Rattle.std.specs.Prelude.{ℕ, List, Option, Some, None, String}
use Rattle.std.specs.BTreeMap.{BTreeMap}
use Rattle.std.specs.Borrow.{Bor}
use Rattle.std.specs.declared.alloc.Global.{Global}
use Rattle.serde_json.specs.Data.{Items, Members, no_members}
use Rattle.serde_json.specs.View.{items_view, members_view}
use Rattle.serde_json.specs.declared.value.Value.{Value}
use Rattle.reql_read.specs.Apart.{names_in}
use Rattle.reql_read.specs.Written.{Names}

abbrev pub Given : Type 0
Given = Option (Bor (BTreeMap (String Global) Value))

abbrev pub seen : BTreeMap (String Global) Value → Members
seen m = members_view m.entries

abbrev pub optional : Given → Members
optional None = no_members
optional (Some m) = seen m.now

abbrev pub parts_seen : ℕ × (Bor (List Value) × Given) → ℕ × (Items × Members)
parts_seen p = (p.0, (items_view p.1.0.now, optional p.1.1))

-- the names of optional arguments
abbrev pub option_names : Given → Names
option_names m = names_in (optional m)

-- ids, and the names that stand with them
abbrev pub ids_seen : List ℕ × Given → List ℕ × Names
ids_seen p = (p.0, names_in (optional p.1))
