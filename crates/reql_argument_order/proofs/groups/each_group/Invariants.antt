use Rattle.std.proofs.Common.{◌≡◌, ◌<◌, ◌++◌, length, drop, map, Ok}
use Rattle.reql_datum.specs.Answer.{◌>>=◌}
use Rattle.reql_rules.specs.Lists.{each}
use Rattle.reql_value_spec.specs.Meant.{Calls}
use Rattle.reql_value_spec.specs.Sequenced.{on_group}
use Rattle.reql_value_spec.specs.World.{World as Seen}
use Rattle.reql_operand.specs.Called.{Answers}
use Rattle.reql_operand.specs.Seen.{group, all_shown, all_chosen}
use Rattle.reql_operand.specs.Tables.{seen}
use Rattle.reql_argument_order.specs.Ruled.{ruled_on}
use Rattle.reql_argument_order.proofs.groups.each_group.Given as goal

abbrev pub invariant-loop-g : goal.invariant-loop-g
invariant-loop-g g l = record {
  some : 0 < length l.args;
  rest : (w : Seen) → drop 1 (all_shown w l.args) ≡ drop 1 (all_shown w l.initial.args);
  walked : let w = seen g.V.TableView.documents g.V.TableView.indexes g.V.TableView.entries l.world in
      (calls : Calls) → Answers w g.F.Fn l.call calls →
      let f = on_group (ruled_on l.op w calls (all_chosen w l.opts) (drop 1 (all_shown w l.initial.args))) in
      each f (map group l.groups) ≡ (each f (map group (drop l.g-index l.groups)) >>= λ hs. Ok (map group l.found.items ++ hs));
}
