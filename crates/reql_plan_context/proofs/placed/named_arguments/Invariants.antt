use Rattle.std.proofs.Common.{◌≡◌, ◌++◌, ◌-◌, drop, take, length, Ok}
use Rattle.std.specs.Map.{keys_of}
use Rattle.reql_datum.specs.Answer.{◌>>=◌}
use Rattle.reql_term.specs.Form.{named_of}
use Rattle.reql_operand.specs.Tables.{seen}
use Rattle.reql_plan_spec.specs.Settled.{named_arguments}
use Rattle.reql_plan_context.specs.Keeping.{kept_by}
use Rattle.reql_plan_context.proofs.placed.named_arguments.Given as goal

abbrev pub decreases-loop-name : goal.decreases-loop-name
decreases-loop-name g l = length l.fields - l.place

abbrev pub invariant-loop-name : goal.invariant-loop-name
invariant-loop-name g l =
    let w = seen g.V.TableView.documents g.V.TableView.indexes g.V.TableView.entries l.world in
    record {
      whole : named_arguments (kept_by l.keeps) w (named_of l.fields) ≡ (named_arguments (kept_by l.keeps) w (named_of (drop l.place l.fields)) >>= λ ns. Ok (take l.place l.settled ++ ns));
      left : drop l.place l.settled ≡ drop l.place l.fields;
      names : keys_of l.settled ≡ keys_of l.fields;
    }
