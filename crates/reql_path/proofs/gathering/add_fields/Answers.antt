use Rattle.std.proofs.Common.{◌+◌, drop}
use Rattle.reql_datum.specs.View.{plain}
use Rattle.reql_path.proofs.Gathered.{more_field, field_end}
use Rattle.reql_path.proofs.gathering.add_fields.Goals as goal

pub loop-name-preserved : goal.loop-name-preserved
loop-name-preserved c =
    more_field c.args.named.now.entries c.loop-name.named.entries c.add_field.new.named.entries (drop c.loop-name.place c.args.fields.now) (drop (c.loop-name.place + 1) c.args.fields.now) c.args.fields.now
    c.in-Some.name.now (plain c.in-Some.pattern.now) c.in-Some.ensures.rest c.in_ok-add_field.ensures c.loop-name.invariant

pub returns : goal.returns
returns c = field_end c.args.named.now.entries c.loop-name.named.entries (drop c.loop-name.place c.args.fields.now) c.args.fields.now c.in_default.ensures.rest c.loop-name.invariant
