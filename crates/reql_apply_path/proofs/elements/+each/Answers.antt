use Rattle.std.proofs.Common.{rules}
use Rattle.reql_datum.specs.View.{plain}
use Rattle.reql_apply_path.proofs.Eached.{on_each_step}
use Rattle.reql_apply_path.proofs.elements.+each.Goals as goal

pub on_each-loop-item-preserved : goal.on_each-loop-item-preserved
on_each-loop-item-preserved g t c m means =
    on_each_step m c.args.items.now c.loop-item.place (plain c.in-Some.item.now) (plain c.in_ok-answer.answer) c.loop-item.answers c.push.new.self _
    (search rules) (c.in_ok-answer.ensures m means) (search rules) (c.loop-item.invariant m means)
