use Rattle.std.proofs.Common.{◌+◌, Some, drop, option_map, sym, ap, ◌∙◌}
use Rattle.reql_datum.specs.Plain.{object, pairs_of}
use Rattle.reql_datum.specs.View.{plain}
use Rattle.reql_path.proofs.Resolved.{resolved_storable, resolved_list, resolved_is, resolves_start, resolves_next, resolves_end}
use Rattle.reql_path.proofs.merging.+resolve.Goals as goal

pub resolved_fields-loop-name-init : goal.resolved_fields-loop-name-init
resolved_fields-loop-name-init t c = λ up. rw (c.in_ok-fields.ensures) (resolves_start c.args.members.now up)

pub resolved_fields-loop-name-preserved : goal.resolved_fields-loop-name-preserved
resolved_fields-loop-name-preserved t c = λ up.
    rw (c.in_ok-put_also.ensures)
    (resolves_next c.loop-name.fields (drop c.loop-name.place c.args.members.now) (resolved_list c.args.members.now) (drop (c.loop-name.place + 1) c.args.members.now)
    c.in-Some.name.now (plain c.in-Some.value.now) (option_map plain c.in_ok-stands.stands) c.in-Some.ensures.rest c.in_ok-stands.ensures (c.loop-name.invariant up))

pub resolved_fields-returns : goal.resolved_fields-returns
resolved_fields-returns t c =
    ap pairs_of (resolves_end c.loop-name.fields (drop c.loop-name.place c.args.members.now) (resolved_list c.args.members.now) c.in_default.ensures.rest (c.loop-name.invariant c.in_default.ensures.rising))
    ∙ resolved_is c.args.members.now

pub resolved_object-returns-then-is_storable : goal.resolved_object-returns-then-is_storable
resolved_object-returns-then-is_storable t c =
    ap (λ ms. Some (object (pairs_of ms))) c.in_ok-copy.ensures
    ∙ sym (resolved_storable (object (pairs_of c.args.object.now)) (sym c.is_storable.ensures ∙ c.if-is_storable.true))
