use Rattle.std.proofs.Common.{◌≡◌, ◌++◌, drop, Ok}
use Rattle.reql_datum.specs.Answer.{◌>>=◌}
use Rattle.reql_rules.specs.Lists.{each}
use Rattle.reql_value_spec.specs.Wanted.{as_sequence}
use Rattle.reql_operand.specs.Seen.{all_shown}
use Rattle.reql_operand.specs.Tables.{seen}
use Rattle.reql_apply_seq.proofs.joining.sequences_of.Given as goal

abbrev pub invariant-loop-arg : goal.invariant-loop-arg
invariant-loop-arg g l =
    let w = seen g.V.TableView.documents g.V.TableView.indexes g.V.TableView.entries l.world in
    each (as_sequence w) (all_shown w l.args) ≡ (each (as_sequence w) (all_shown w (drop l.arg-index l.args)) >>= λ vss. Ok (l.sequences.items ++ vss))
