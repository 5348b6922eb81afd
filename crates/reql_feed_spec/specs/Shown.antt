-- How an item is printed, and how a client reads it (changefeed documentation).
use Rattle.std.specs.Prelude.{ℕ, ℤ, pos, negsuc, List, [], ◌∷◌, ◌++◌, Option, Some, None, option_and_then, Bool, true, false, cond, codes}
use Rattle.std.specs.Fmt.{decimal}
use Rattle.std.specs.Option.{unwrap_or}
use Rattle.reql_datum.specs.Plain.{Plain, null, number, object, text, members}
use Rattle.reql_datum.specs.Members.{find}
use Rattle.reql_rules.specs.Lists.{Bytes, object_of}
use Rattle.reql_rules.specs.Places.{counted_as}
use Rattle.reql_feed_spec.specs.Items.{Difference, present}

-- what an item shows beside what left and what came: the places in a limit feed's list, and the type of the change
pub record Shows : Type 0 where
  pub offsets : Bool
  pub types : Bool

abbrev pub or_null : Option Plain → Plain
or_null o = unwrap_or o null

abbrev pub place : Option ℕ → Plain
place None = null
place (Some k) = number (pos k)

-- what came alone is an addition, what left alone a removal
abbrev pub type_of : Option Plain → Option Plain → Bytes
type_of None new = codes "add"
type_of (Some o) None = codes "remove"
type_of (Some o) (Some n) = codes "change"

abbrev pub type_member : Bool → Bytes → List (Bytes × Plain)
type_member types name = cond types ((codes "type", text name) ∷ []) []

-- the members of a printed item, by rising name
abbrev pub item_members : Shows → Difference → List (Bytes × Plain)
item_members s d =
    cond s.offsets
    ((codes "new_offset", place d.new_at) ∷ (codes "new_val", or_null d.new) ∷ (codes "old_offset", place d.old_at) ∷ (codes "old_val", or_null d.old) ∷ type_member s.types (type_of d.old d.new))
    ((codes "new_val", or_null d.new) ∷ (codes "old_val", or_null d.old) ∷ type_member s.types (type_of d.old d.new))

-- the printed item
abbrev pub shown : Shows → Difference → Plain
shown s d = object_of (item_members s d)

-- the opening item of an element of the value, in a limit feed with its place, above the range of numbers the greatest
abbrev pub opening : Shows → ℕ → Plain → Plain
opening s k v = object_of (cond s.offsets ((codes "new_offset", counted_as k) ∷ (codes "new_val", v) ∷ []) ((codes "new_val", v) ∷ []) ++ type_member s.types (codes "initial"))

-- what a feed tells of its own state, and of items that were dropped
abbrev pub state_item : Shows → Bytes → Plain
state_item s state = object_of ((codes "state", text state) ∷ type_member s.types (codes "state"))

abbrev pub skip_item : ℕ → Plain
skip_item count = object_of ((codes "error", text (codes "Changefeed cache over array size limit, skipped " ++ (decimal count ++ codes " elements."))) ∷ [])

-- what stands at a name
abbrev pub member_at : Bytes → Plain → Option Plain
member_at n (object ms) = find n (members ms)
member_at n v = None

abbrev pub natural : ℤ → Option ℕ
natural (pos k) = Some k
natural (negsuc k) = None

abbrev pub place_of : Plain → Option ℕ
place_of (number n) = natural n
place_of v = None

-- an item as a client reads it: null is absence
abbrev pub read : Plain → Difference
read d = record {
  old = option_and_then present (member_at (codes "old_val") d);
  new = option_and_then present (member_at (codes "new_val") d);
  old_at = option_and_then place_of (member_at (codes "old_offset") d);
  new_at = option_and_then place_of (member_at (codes "new_offset") d);
}

-- absent where it is null
abbrev pub seen_value : Option Plain → Option Plain
seen_value = option_and_then present

abbrev pub seen_place : Bool → Option ℕ → Option ℕ
seen_place true k = k
seen_place false k = None

-- what a client sees of an item
abbrev pub seen : Bool → Difference → Difference
seen offsets d = record { old = seen_value d.old; new = seen_value d.new; old_at = seen_place offsets d.old_at; new_at = seen_place offsets d.new_at }
