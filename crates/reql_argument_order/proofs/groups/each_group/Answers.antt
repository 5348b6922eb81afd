use Rattle.std.proofs.Common.{rules, ap, ◌∙◌, drop, map}
use Rattle.std.proofs.lemmas.List.{map-append}
use Rattle.reql_value_spec.specs.Sequenced.{on_group}
use Rattle.reql_operand.proofs.Steps.{each_step, each_fails, each_done}
use Rattle.reql_operand.specs.Seen.{group, all_shown, all_chosen}
use Rattle.reql_operand.specs.Tables.{seen}
use Rattle.reql_argument_order.specs.Ruled.{ruled_on}
use Rattle.reql_argument_order.proofs.groups.each_group.Goals as goal

pub returns-in_err-reduced : goal.returns-in_err-reduced
returns-in_err-reduced g c calls h =
    let w = seen g.V.TableView.documents g.V.TableView.indexes g.V.TableView.entries c.args.world.now in
    let rest = drop 1 (all_shown w c.args.args.now) in
    let f = on_group (ruled_on c.args.op w calls (all_chosen w c.args.opts.now) rest) in
    let fails = each_fails f group c.args.groups.now c.loop-g.g-index c.g-item.result c.in_err-reduced.field-0.0 (map group c.loop-g.found.items) _
    c.loop-g-test.true c.g-item.is (c.in_err-reduced.ensures.gives rest calls (c.loop-g.invariant.rest w) h) (c.loop-g.invariant.walked calls h) in
    search (rules, fails)

pub loop-g-preserved : goal.loop-g-preserved
loop-g-preserved g c = record {
  some = c.in_ok-reduced.ensures.some;
  rest = λ w. c.in_ok-reduced.ensures.rest w ∙ c.loop-g.invariant.rest w;
  walked = λ calls h.
      (let w = seen g.V.TableView.documents g.V.TableView.indexes g.V.TableView.entries c.args.world.now in
      let rest = drop 1 (all_shown w c.args.args.now) in
      let f = on_group (ruled_on c.args.op w calls (all_chosen w c.args.opts.now) rest) in
      each_step f group c.args.groups.now c.loop-g.g-index c.g-item.result (group c.in_ok-reduced.reduced) (map group c.loop-g.found.items) _ _
      c.loop-g-test.true c.g-item.is (c.in_ok-reduced.ensures.gives rest calls (c.loop-g.invariant.rest w) h)
      (ap (map group) c.in_ok-push.ensures.items ∙ map-append group _ _) (c.loop-g.invariant.walked calls h));
}

pub returns : goal.returns
returns g c calls h =
    let w = seen g.V.TableView.documents g.V.TableView.indexes g.V.TableView.entries c.args.world.now in
    let f = on_group (ruled_on c.args.op w calls (all_chosen w c.args.opts.now) (drop 1 (all_shown w c.args.args.now))) in
    each_done f group c.args.groups.now c.loop-g.g-index (map group c.loop-g.found.items) _ c.loop-g-test.false (c.loop-g.invariant.walked calls h)
