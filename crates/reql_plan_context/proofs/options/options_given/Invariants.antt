use Rattle.std.proofs.Common.{◌≡◌, ◌++◌, ◌-◌, drop, length, map, Ok}
use Rattle.reql_datum.specs.Answer.{◌>>=◌}
use Rattle.reql_term.specs.Form.{named_of}
use Rattle.reql_operand.specs.Seen.{choice}
use Rattle.reql_operand.specs.Tables.{seen}
use Rattle.reql_plan_spec.specs.Settled.{options_given}
use Rattle.reql_plan_context.proofs.options.options_given.Given as goal

abbrev pub decreases-loop-name : goal.decreases-loop-name
decreases-loop-name g l = length l.opts - l.place

abbrev pub invariant-loop-name : goal.invariant-loop-name
invariant-loop-name g l =
    let w = seen g.V.TableView.documents g.V.TableView.indexes g.V.TableView.entries l.world in
    options_given w (named_of l.opts) ≡ (options_given w (named_of (drop l.place l.opts)) >>= λ os. Ok (map (choice w) l.given.items ++ os))
