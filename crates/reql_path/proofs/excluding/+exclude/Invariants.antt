use Rattle.std.proofs.Common.{◌≡◌, ◌+◌, ◌*◌, ◌-◌, ◌++◌, [], ◌∷◌, length, drop}
use Rattle.reql_datum.specs.Members.{AreRising}
use Rattle.reql_datum.specs.Plain.{items_of, listed, weight, list_weight, members_weight}
use Rattle.reql_datum.specs.View.{plain}
use Rattle.reql_rules.specs.Lists.{object_of}
use Rattle.reql_rules.specs.Patterns.{without_items}
use Rattle.reql_path.proofs.Parts.{Parted, by_parts, leaves}
use Rattle.reql_path.proofs.excluding.+exclude.Given as goal

abbrev pub decreases-left : goal.decreases-left
decreases-left l = 4 * members_weight l.o.now

abbrev pub decreases-left_of_object : goal.decreases-left_of_object
decreases-left_of_object l = 4 * members_weight l.o.now + 1

abbrev pub decreases-left_of_items : goal.decreases-left_of_items
decreases-left_of_items l = 4 * list_weight l.items.now

abbrev pub decreases-left_of_item : goal.decreases-left_of_item
decreases-left_of_item l = 4 * weight (plain l.item.now) + 1

abbrev pub decreases-left_inside : goal.decreases-left_inside
decreases-left_inside l = 4 * weight (plain l.value.now) + 1

abbrev pub decreases-left_of_field : goal.decreases-left_of_field
decreases-left_of_field l = 4 * weight (plain l.value.now) + 2

abbrev pub invariant-left-loop-name : goal.invariant-left-loop-name
invariant-left-loop-name l = AreRising l.o → AreRising l.parts → Parted leaves l.fields (drop l.from l.o) (drop l.to l.parts) (by_parts leaves l.o l.parts)

abbrev pub decreases-left-loop-name : goal.decreases-left-loop-name
decreases-left-loop-name l = (length l.o - l.from) + (length l.parts - l.to)

abbrev pub invariant-left_of_items-loop-item : goal.invariant-left_of_items-loop-item
invariant-left_of_items-loop-item l =
    l.rest ++ listed (without_items (items_of (drop l.place l.items)) (object_of l.parts ∷ [])) ≡ listed (without_items (items_of l.items) (object_of l.parts ∷ []))

abbrev pub decreases-left_of_items-loop-item : goal.decreases-left_of_items-loop-item
decreases-left_of_items-loop-item l = length l.items - l.place
