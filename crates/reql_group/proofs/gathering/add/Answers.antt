use Rattle.std.proofs.Common.{sym, ◌∙◌}
use Rattle.reql_datum.specs.View.{plain}
use Rattle.reql_group.specs.Seen.{pair_seen}
use Rattle.reql_group.proofs.Runs.{gathers_same, gathers_next}
use Rattle.reql_group.proofs.gathering.add.Goals as goal

pub returns-then-is_of : goal.returns-then-is_of
returns-then-is_of c = λ rest all h.
    rw (c.in_ok-push.ensures.items, c.in_ok-copy.ensures)
    (gathers_same c.args.groups.now (plain c.args.run.now.group) c.args.run.now.members (pair_seen c.args.pair.now) rest all (sym c.is_of.ensures ∙ c.if-is_of.true) h)

pub returns : goal.returns
returns c = λ rest all h.
    rw (c.in_ok-push-2.ensures.groups, c.replace-done.ensures.value, c.replace-done.ensures.after, c.in_ok-begun.ensures.group, c.in_ok-begun.ensures.members)
    (gathers_next c.args.groups.now (plain c.args.run.now.group) c.args.run.now.members (pair_seen c.args.pair.now) rest all (sym c.is_of.ensures ∙ c.if-is_of.false) h)
