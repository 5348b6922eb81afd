use Rattle.std.proofs.Common.{◌+◌, ◌<◌, drop, option_map, sym, ap, ◌∙◌, arith}
use Rattle.reql_datum.specs.Plain.{pairs_of, weight, members_weight}
use Rattle.reql_datum.specs.Members.{text_order}
use Rattle.reql_datum.specs.View.{plain}
use Rattle.reql_datum.proofs.Walks.{member_below}
use Rattle.reql_rules.specs.Merging.{merged_pairs}
use Rattle.reql_path.proofs.Merged.{merges_start, merges_less, merges_equal, merges_greater, merges_left, merges_added}
use Rattle.reql_path.proofs.merging.+merge.Goals as goal

pub merged_fields-loop-name-init : goal.merged_fields-loop-name-init
merged_fields-loop-name-init t c = λ up on. rw (c.in_ok-fields.ensures) (merges_start c.args.old.now c.args.new.now up on)

pub merged_fields-loop-name-preserved-in-Less : goal.merged_fields-loop-name-preserved-in-Less
merged_fields-loop-name-preserved-in-Less t c = λ up on.
    rw (c.in_ok-put_copy-in-Less.ensures)
    (merges_less c.loop-name.fields (drop c.loop-name.from c.args.old.now) (drop c.loop-name.to c.args.new.now) (merged_pairs (pairs_of c.args.new.now) c.args.old.now)
    (drop (c.loop-name.from + 1) c.args.old.now) (drop (c.loop-name.to + 1) c.args.new.now) c.in-Some-Some.name.now c.in-Some-Some.added.now (plain c.in-Some-Some.kept.now) (plain c.in-Some-Some.value.now)
    c.in-Some-Some.ensures.rest c.in-Some-Some.ensures'.rest (ap (λ t. text_order c.in-Some-Some.name.now t) (sym c.as_str.ensures) ∙ sym c.order.ensures.answer ∙ c.in-Less.is) (c.loop-name.invariant up on))

pub merged_fields-loop-name-preserved-in-Equal : goal.merged_fields-loop-name-preserved-in-Equal
merged_fields-loop-name-preserved-in-Equal t c = λ up on.
    rw (c.in_ok-put_also-in-Equal.ensures)
    (merges_equal c.loop-name.fields (drop c.loop-name.from c.args.old.now) (drop c.loop-name.to c.args.new.now) (merged_pairs (pairs_of c.args.new.now) c.args.old.now)
    (drop (c.loop-name.from + 1) c.args.old.now) (drop (c.loop-name.to + 1) c.args.new.now) c.in-Some-Some.name.now c.in-Some-Some.added.now (plain c.in-Some-Some.kept.now) (plain c.in-Some-Some.value.now)
    (option_map plain c.in_ok-both-in-Equal.both)
    c.in-Some-Some.ensures.rest c.in-Some-Some.ensures'.rest (ap (λ t. text_order c.in-Some-Some.name.now t) (sym c.as_str.ensures) ∙ sym c.order.ensures.answer ∙ c.in-Equal.is) c.in_ok-both-in-Equal.ensures (c.loop-name.invariant up on))

pub merged_fields-loop-name-preserved-in-Greater : goal.merged_fields-loop-name-preserved-in-Greater
merged_fields-loop-name-preserved-in-Greater t c = λ up on.
    rw (c.in_ok-put_also-in-Greater.ensures)
    (merges_greater c.loop-name.fields (drop c.loop-name.from c.args.old.now) (drop c.loop-name.to c.args.new.now) (merged_pairs (pairs_of c.args.new.now) c.args.old.now)
    (drop (c.loop-name.from + 1) c.args.old.now) (drop (c.loop-name.to + 1) c.args.new.now) c.in-Some-Some.name.now c.in-Some-Some.added.now (plain c.in-Some-Some.kept.now) (plain c.in-Some-Some.value.now)
    (option_map plain c.in_ok-alone-in-Greater.alone)
    c.in-Some-Some.ensures.rest c.in-Some-Some.ensures'.rest (ap (λ t. text_order c.in-Some-Some.name.now t) (sym c.as_str.ensures) ∙ sym c.order.ensures.answer ∙ c.in-Greater.is) c.in_ok-alone-in-Greater.ensures (c.loop-name.invariant up on))

pub merged_fields-loop-name-preserved-in-Some-None : goal.merged_fields-loop-name-preserved-in-Some-None
merged_fields-loop-name-preserved-in-Some-None t c = λ up on.
    rw (c.in_ok-put_copy-in-Some-None.ensures)
    (merges_left c.loop-name.fields (drop c.loop-name.from c.args.old.now) (drop c.loop-name.to c.args.new.now) (merged_pairs (pairs_of c.args.new.now) c.args.old.now)
    (drop (c.loop-name.from + 1) c.args.old.now) c.in-Some-None.name.now (plain c.in-Some-None.kept.now)
    c.in-Some-None.ensures.rest c.in-Some-None.ensures'.rest (c.loop-name.invariant up on))

pub merged_fields-merged-requires-in-None-Some : goal.merged_fields-merged-requires-in-None-Some
merged_fields-merged-requires-in-None-Some t c =
    let lt : weight (plain c.in-None-Some.value.now) < members_weight c.args.new.now =
    member_below c.args.new.now c.loop-name.to c.in-None-Some.added.now (plain c.in-None-Some.value.now) (sym c.in-None-Some.ensures'.found) in
    (omega (arith, lt), tt)

pub merged_fields-loop-name-preserved : goal.merged_fields-loop-name-preserved
merged_fields-loop-name-preserved t c = λ up on.
    rw (c.in_ok-put_also-in-None-Some.ensures)
    (merges_added c.loop-name.fields (drop c.loop-name.from c.args.old.now) (drop c.loop-name.to c.args.new.now) (merged_pairs (pairs_of c.args.new.now) c.args.old.now)
    (drop (c.loop-name.to + 1) c.args.new.now) c.in-None-Some.added.now (plain c.in-None-Some.value.now) (option_map plain c.in_ok-alone-in-None-Some.alone)
    c.in-None-Some.ensures.rest c.in-None-Some.ensures'.rest c.in_ok-alone-in-None-Some.ensures (c.loop-name.invariant up on))
