use Rattle.std.proofs.Common.{◌≡◌, ◌++◌, ◌-◌, length, drop, nat_lt, false}
use Rattle.serde_json.specs.Written.{items_text, members_text}
use Rattle.reql_datum.specs.Plain.{items_of, pairs_of, weight, list_weight, members_weight}
use Rattle.reql_datum.specs.View.{plain}
use Rattle.reql_json.specs.Showing.{items_shown, members_shown}
use Rattle.reql_spell.proofs.spell.+write.Given as goal

abbrev pub decreases-write_document : goal.decreases-write_document
decreases-write_document l = weight (plain l.d.now)

abbrev pub decreases-write_items : goal.decreases-write_items
decreases-write_items l = list_weight l.items.now

abbrev pub decreases-write_members : goal.decreases-write_members
decreases-write_members l = members_weight l.fields.now

abbrev pub invariant-write_items-loop-item : goal.invariant-write_items-loop-item
invariant-write_items-loop-item l =
    l.out.items ++ items_text (nat_lt 0 l.place) (items_shown (items_of (drop l.place l.items))) ≡ l.initial.out.items ++ items_text false (items_shown (items_of l.items))

abbrev pub decreases-write_items-loop-item : goal.decreases-write_items-loop-item
decreases-write_items-loop-item l = length l.items - l.place

abbrev pub invariant-write_members-loop-name : goal.invariant-write_members-loop-name
invariant-write_members-loop-name l =
    l.out.items ++ members_text (nat_lt 0 l.place) (members_shown (pairs_of (drop l.place l.fields))) ≡ l.initial.out.items ++ members_text false (members_shown (pairs_of l.fields))

abbrev pub decreases-write_members-loop-name : goal.decreases-write_members-loop-name
decreases-write_members-loop-name l = length l.fields - l.place
