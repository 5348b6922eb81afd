use Rattle.std.proofs.Common.{◌≡◌, drop}
use Rattle.serde_json.specs.View.{items_view}
use Rattle.reql_outside.specs.Written.{Written}
use Rattle.reql_query.specs.Printing.{Printed}
use Rattle.reql_query.proofs.printing.print_values.Given as goal

abbrev pub invariant-loop-value : goal.invariant-loop-value
invariant-loop-value g l =
    ((g.K.Sink.told l.out).faults ≡ (g.K.Sink.told l.initial.out).faults)
    × ((last : Written) → Printed (g.K.Sink.told l.out) last (items_view (drop l.value-index l.values)) → Printed (g.K.Sink.told l.initial.out) last (items_view l.values))
