use Rattle.std.proofs.Common.{◌+◌, ◌<◌, ◌∷◌, [], Some, drop, option_map, refl, sym, ap, ◌∙◌, arith}
use Rattle.reql_datum.specs.Members.{text_order}
use Rattle.reql_datum.specs.Plain.{weight, members_weight, items_of, pairs_of, listed}
use Rattle.reql_datum.specs.View.{plain}
use Rattle.reql_datum.proofs.Walks.{member_below}
use Rattle.reql_rules.specs.Lists.{object_of}
use Rattle.reql_rules.specs.Patterns.{without_items}
use Rattle.reql_path.proofs.Parts.{by_parts, leaves, parted_start, parted_less, parted_equal, parted_greater, parted_member, parted_rest, parted_end, left_is, rest_next, rest_end}
use Rattle.reql_path.proofs.excluding.+exclude.Goals as goal

pub left-loop-name-init : goal.left-loop-name-init
left-loop-name-init t c = λ up on. rw (c.in_ok-fields.ensures) (parted_start leaves c.args.o.now c.args.parts.now up on c.requires)

pub left-returns-in_default : goal.left-returns-in_default
left-returns-in_default t c =
    ap pairs_of (parted_end leaves c.loop-name.fields (drop c.loop-name.from c.args.o.now) (drop c.loop-name.to c.args.parts.now) (by_parts leaves c.args.o.now c.args.parts.now) c.in_default.ensures.rest
    (c.loop-name.invariant c.in_default.ensures.rising c.at-named.ensures.rising))
    ∙ left_is c.args.o.now c.args.parts.now

pub left-loop-name-preserved-in_default-named : goal.left-loop-name-preserved-in_default-named
left-loop-name-preserved-in_default-named t c = λ up on.
    rw (c.in_ok-put_copy.ensures)
    (parted_rest leaves c.loop-name.fields (drop c.loop-name.from c.args.o.now) (drop c.loop-name.to c.args.parts.now) (by_parts leaves c.args.o.now c.args.parts.now)
    (drop (c.loop-name.from + 1) c.args.o.now) c.in-Some.name.now (plain c.in-Some.value.now) (Some (plain c.in-Some.value.now)) c.in-Some.ensures.rest c.in_default-named.ensures.rest refl (c.loop-name.invariant up on))

pub left-loop-name-preserved-in-Less : goal.left-loop-name-preserved-in-Less
left-loop-name-preserved-in-Less t c = λ up on.
    rw (c.in_ok-put_copy-in-Less.ensures)
    (parted_less leaves c.loop-name.fields (drop c.loop-name.from c.args.o.now) (drop c.loop-name.to c.args.parts.now) (by_parts leaves c.args.o.now c.args.parts.now)
    (drop (c.loop-name.from + 1) c.args.o.now) (drop (c.loop-name.to + 1) c.args.parts.now) c.in-Some.name.now c.in-Some-named.wanted.now (plain c.in-Some.value.now) (plain c.in-Some-named.part.now) (Some (plain c.in-Some.value.now))
    c.in-Some.ensures.rest c.in-Some-named.ensures.rest (ap (λ t. text_order c.in-Some.name.now t) (sym c.as_str.ensures) ∙ sym c.order.ensures.answer ∙ c.in-Less.is) refl (c.loop-name.invariant up on))

pub left-left_of_field-requires : goal.left-left_of_field-requires
left-left_of_field-requires t c =
    let lt : weight (plain c.in-Some.value.now) < members_weight c.args.o.now =
    member_below c.args.o.now c.loop-name.from c.in-Some.name.now (plain c.in-Some.value.now) (sym c.in-Some.ensures.found) in (
      omega (arith, lt),
      parted_member leaves c.loop-name.fields (drop c.loop-name.from c.args.o.now) (drop c.loop-name.to c.args.parts.now) (by_parts leaves c.args.o.now c.args.parts.now)
          (drop (c.loop-name.to + 1) c.args.parts.now) c.in-Some-named.wanted.now (plain c.in-Some-named.part.now) c.in-Some-named.ensures.rest (c.loop-name.invariant c.in-Some.ensures.rising c.in-Some-named.ensures.rising),
    )

pub left-loop-name-preserved-in-Equal : goal.left-loop-name-preserved-in-Equal
left-loop-name-preserved-in-Equal t c = λ up on.
    rw (c.in_ok-put_also-in-Equal.ensures)
    (parted_equal leaves c.loop-name.fields (drop c.loop-name.from c.args.o.now) (drop c.loop-name.to c.args.parts.now) (by_parts leaves c.args.o.now c.args.parts.now)
    (drop (c.loop-name.from + 1) c.args.o.now) (drop (c.loop-name.to + 1) c.args.parts.now) c.in-Some.name.now c.in-Some-named.wanted.now (plain c.in-Some.value.now) (plain c.in-Some-named.part.now) (option_map plain c.in_ok-rest-in-Equal.rest)
    c.in-Some.ensures.rest c.in-Some-named.ensures.rest (ap (λ t. text_order c.in-Some.name.now t) (sym c.as_str.ensures) ∙ sym c.order.ensures.answer ∙ c.in-Equal.is) c.in_ok-rest-in-Equal.ensures (c.loop-name.invariant up on))

pub left-loop-name-preserved : goal.left-loop-name-preserved
left-loop-name-preserved t c = λ up on.
    parted_greater leaves c.loop-name.fields (drop c.loop-name.from c.args.o.now) (drop c.loop-name.to c.args.parts.now) (by_parts leaves c.args.o.now c.args.parts.now)
    (drop (c.loop-name.from + 1) c.args.o.now) (drop (c.loop-name.to + 1) c.args.parts.now) c.in-Some.name.now c.in-Some-named.wanted.now (plain c.in-Some.value.now) (plain c.in-Some-named.part.now)
    c.in-Some.ensures.rest c.in-Some-named.ensures.rest (ap (λ t. text_order c.in-Some.name.now t) (sym c.as_str.ensures) ∙ sym c.order.ensures.answer ∙ c.in-Greater.is) (c.loop-name.invariant up on)

pub left_of_items-loop-item-preserved : goal.left_of_items-loop-item-preserved
left_of_items-loop-item-preserved t c =
    rw (c.in_ok-push.ensures.items)
    (rest_next c.loop-item.rest (drop c.loop-item.place c.args.items.now) (drop (c.loop-item.place + 1) c.args.items.now) (object_of c.args.parts.now ∷ []) (listed (without_items (items_of c.args.items.now) (object_of c.args.parts.now ∷ [])))
    (plain c.in-Some.item.now) (plain c.in_ok-left.left) c.in-Some.ensures.rest c.in_ok-left.ensures c.loop-item.invariant)

pub left_of_items-returns : goal.left_of_items-returns
left_of_items-returns t c =
    rest_end c.loop-item.rest (drop c.loop-item.place c.args.items.now) (object_of c.args.parts.now ∷ []) (without_items (items_of c.args.items.now) (object_of c.args.parts.now ∷ [])) c.in_default.ensures.rest c.loop-item.invariant
