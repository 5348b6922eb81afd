use Rattle.std.proofs.Common.{sym}
use Rattle.reql_datum.specs.View.{plain}
use Rattle.reql_load.proofs.Places.{taken_out, none_there}
use Rattle.reql_load.proofs.steps.take_out.Goals as goal

pub returns-in-Some-clause-there : goal.returns-in-Some-clause-there
returns-in-Some-clause-there c =
    (taken_out (plain c.args.value.now) c.args.bag.now.items c.deref.result.now c.remove.new.self.items c.in-Some.place c.deref.ensures.value (sym c.in-Some.ensures.first) c.remove.ensures.items).0

pub returns-in-Some-clause-left : goal.returns-in-Some-clause-left
returns-in-Some-clause-left c =
    (taken_out (plain c.args.value.now) c.args.bag.now.items c.deref.result.now c.remove.new.self.items c.in-Some.place c.deref.ensures.value (sym c.in-Some.ensures.first) c.remove.ensures.items).1

pub returns-in-None-clause-there : goal.returns-in-None-clause-there
returns-in-None-clause-there c = none_there (plain c.args.value.now) c.args.bag.now.items c.deref.result.now c.deref.ensures.value (sym c.in-None.ensures.first)
