use Rattle.std.proofs.Common.{◌+◌, ◌<◌, ◌∷◌, [], None, drop, option_map, refl, sym, ap, ◌∙◌, arith}
use Rattle.reql_datum.specs.Members.{text_order}
use Rattle.reql_datum.specs.Plain.{weight, members_weight, items_of, pairs_of, listed}
use Rattle.reql_datum.specs.View.{plain}
use Rattle.reql_datum.proofs.Walks.{member_below}
use Rattle.reql_rules.specs.Lists.{object_of}
use Rattle.reql_rules.specs.Patterns.{pluck_items}
use Rattle.reql_path.proofs.Parts.{by_parts, keeps, parted_start, parted_less, parted_equal, parted_greater, parted_member, parted_end, plucked_end, plucked_is, items_next, items_end}
use Rattle.reql_path.proofs.plucking.+pluck.Goals as goal

pub plucked-loop-name-init : goal.plucked-loop-name-init
plucked-loop-name-init t c = λ up on. rw (c.new-fields.ensures) (parted_start keeps c.args.o.now c.args.parts.now up on c.requires)

pub plucked-returns-in_default : goal.plucked-returns-in_default
plucked-returns-in_default t c =
    ap pairs_of (parted_end keeps c.loop-name.fields (drop c.loop-name.from c.args.o.now) (drop c.loop-name.to c.args.parts.now) (by_parts keeps c.args.o.now c.args.parts.now) c.in_default.ensures.rest
    (c.loop-name.invariant c.in_default.ensures.rising c.at-named.ensures.rising))
    ∙ plucked_is c.args.o.now c.args.parts.now

pub plucked-returns-in_default-named : goal.plucked-returns-in_default-named
plucked-returns-in_default-named t c =
    ap pairs_of (plucked_end c.loop-name.fields (drop c.loop-name.from c.args.o.now) (by_parts keeps c.args.o.now c.args.parts.now) (drop c.loop-name.to c.args.parts.now) c.in_default-named.ensures.rest
    (c.loop-name.invariant c.in-Some.ensures.rising c.in_default-named.ensures.rising))
    ∙ plucked_is c.args.o.now c.args.parts.now

pub plucked-loop-name-preserved-in-Less : goal.plucked-loop-name-preserved-in-Less
plucked-loop-name-preserved-in-Less t c = λ up on.
    parted_less keeps c.loop-name.fields (drop c.loop-name.from c.args.o.now) (drop c.loop-name.to c.args.parts.now) (by_parts keeps c.args.o.now c.args.parts.now)
    (drop (c.loop-name.from + 1) c.args.o.now) (drop (c.loop-name.to + 1) c.args.parts.now) c.in-Some.name.now c.in-Some-named.wanted.now (plain c.in-Some.value.now) (plain c.in-Some-named.part.now) None
    c.in-Some.ensures.rest c.in-Some-named.ensures.rest (ap (λ t. text_order c.in-Some.name.now t) (sym c.as_str.ensures) ∙ sym c.order.ensures.answer ∙ c.in-Less.is) refl (c.loop-name.invariant up on)

pub plucked-plucked_field-requires : goal.plucked-plucked_field-requires
plucked-plucked_field-requires t c =
    let lt : weight (plain c.in-Some.value.now) < members_weight c.args.o.now =
    member_below c.args.o.now c.loop-name.from c.in-Some.name.now (plain c.in-Some.value.now) (sym c.in-Some.ensures.found) in (
      omega (arith, lt),
      parted_member keeps c.loop-name.fields (drop c.loop-name.from c.args.o.now) (drop c.loop-name.to c.args.parts.now) (by_parts keeps c.args.o.now c.args.parts.now)
          (drop (c.loop-name.to + 1) c.args.parts.now) c.in-Some-named.wanted.now (plain c.in-Some-named.part.now) c.in-Some-named.ensures.rest (c.loop-name.invariant c.in-Some.ensures.rising c.in-Some-named.ensures.rising),
    )

pub plucked-loop-name-preserved-in-Equal : goal.plucked-loop-name-preserved-in-Equal
plucked-loop-name-preserved-in-Equal t c = λ up on.
    rw (c.in_ok-put_also-in-Equal.ensures)
    (parted_equal keeps c.loop-name.fields (drop c.loop-name.from c.args.o.now) (drop c.loop-name.to c.args.parts.now) (by_parts keeps c.args.o.now c.args.parts.now)
    (drop (c.loop-name.from + 1) c.args.o.now) (drop (c.loop-name.to + 1) c.args.parts.now) c.in-Some.name.now c.in-Some-named.wanted.now (plain c.in-Some.value.now) (plain c.in-Some-named.part.now) (option_map plain c.in_ok-kept-in-Equal.kept)
    c.in-Some.ensures.rest c.in-Some-named.ensures.rest (ap (λ t. text_order c.in-Some.name.now t) (sym c.as_str.ensures) ∙ sym c.order.ensures.answer ∙ c.in-Equal.is) c.in_ok-kept-in-Equal.ensures (c.loop-name.invariant up on))

pub plucked-loop-name-preserved : goal.plucked-loop-name-preserved
plucked-loop-name-preserved t c = λ up on.
    parted_greater keeps c.loop-name.fields (drop c.loop-name.from c.args.o.now) (drop c.loop-name.to c.args.parts.now) (by_parts keeps c.args.o.now c.args.parts.now)
    (drop (c.loop-name.from + 1) c.args.o.now) (drop (c.loop-name.to + 1) c.args.parts.now) c.in-Some.name.now c.in-Some-named.wanted.now (plain c.in-Some.value.now) (plain c.in-Some-named.part.now)
    c.in-Some.ensures.rest c.in-Some-named.ensures.rest (ap (λ t. text_order c.in-Some.name.now t) (sym c.as_str.ensures) ∙ sym c.order.ensures.answer ∙ c.in-Greater.is) (c.loop-name.invariant up on)

pub plucked_items-loop-item-preserved : goal.plucked_items-loop-item-preserved
plucked_items-loop-item-preserved t c =
    rw (c.in_ok-push_also.ensures)
    (items_next c.loop-item.kept (drop c.loop-item.place c.args.items.now) (drop (c.loop-item.place + 1) c.args.items.now) (object_of c.args.parts.now ∷ []) (listed (pluck_items (items_of c.args.items.now) (object_of c.args.parts.now ∷ [])))
    (plain c.in-Some.item.now) (option_map plain c.in_ok-found.found) c.in-Some.ensures.rest c.in_ok-found.ensures c.loop-item.invariant)

pub plucked_items-returns : goal.plucked_items-returns
plucked_items-returns t c =
    items_end c.loop-item.kept (drop c.loop-item.place c.args.items.now) (object_of c.args.parts.now ∷ []) (pluck_items (items_of c.args.items.now) (object_of c.args.parts.now ∷ [])) c.in_default.ensures.rest c.loop-item.invariant
