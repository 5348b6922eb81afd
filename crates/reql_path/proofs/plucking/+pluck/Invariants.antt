use Rattle.std.proofs.Common.{◌≡◌, ◌+◌, ◌*◌, ◌-◌, ◌++◌, [], ◌∷◌, length, drop}
use Rattle.reql_datum.specs.Members.{AreRising}
use Rattle.reql_datum.specs.Plain.{items_of, listed, weight, list_weight, members_weight}
use Rattle.reql_datum.specs.View.{plain}
use Rattle.reql_rules.specs.Lists.{object_of}
use Rattle.reql_rules.specs.Patterns.{pluck_items}
use Rattle.reql_path.proofs.Parts.{Parted, by_parts, keeps}
use Rattle.reql_path.proofs.plucking.+pluck.Given as goal

abbrev pub decreases-plucked : goal.decreases-plucked
decreases-plucked l = 4 * members_weight l.o.now

abbrev pub decreases-plucked_object : goal.decreases-plucked_object
decreases-plucked_object l = 4 * members_weight l.o.now + 1

abbrev pub decreases-plucked_items : goal.decreases-plucked_items
decreases-plucked_items l = 4 * list_weight l.items.now

abbrev pub decreases-plucked_item : goal.decreases-plucked_item
decreases-plucked_item l = 4 * weight (plain l.item.now) + 1

abbrev pub decreases-plucked_in : goal.decreases-plucked_in
decreases-plucked_in l = 4 * weight (plain l.value.now) + 1

abbrev pub decreases-plucked_field : goal.decreases-plucked_field
decreases-plucked_field l = 4 * weight (plain l.value.now) + 2

abbrev pub invariant-plucked-loop-name : goal.invariant-plucked-loop-name
invariant-plucked-loop-name l = AreRising l.o → AreRising l.parts → Parted keeps l.fields (drop l.from l.o) (drop l.to l.parts) (by_parts keeps l.o l.parts)

abbrev pub decreases-plucked-loop-name : goal.decreases-plucked-loop-name
decreases-plucked-loop-name l = (length l.o - l.from) + (length l.parts - l.to)

abbrev pub invariant-plucked_items-loop-item : goal.invariant-plucked_items-loop-item
invariant-plucked_items-loop-item l =
    l.kept ++ listed (pluck_items (items_of (drop l.place l.items)) (object_of l.parts ∷ [])) ≡ listed (pluck_items (items_of l.items) (object_of l.parts ∷ []))

abbrev pub decreases-plucked_items-loop-item : goal.decreases-plucked_items-loop-item
decreases-plucked_items-loop-item l = length l.items - l.place
