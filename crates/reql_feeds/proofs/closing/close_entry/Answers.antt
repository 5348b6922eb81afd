use Rattle.std.proofs.Common.{sym}
use Rattle.reql_feeds.proofs.Rising.{closed_none}
use Rattle.reql_feeds.specs.Keeps.{feeds_of}
use Rattle.reql_feeds.specs.Seen.{all_sized}
use Rattle.reql_feeds.proofs.Served.{some_there, some_closed, some_keeps}
use Rattle.reql_feeds.proofs.closing.close_entry.Goals as goal

pub returns-in-None-clause-closed : goal.returns-in-None-clause-closed
returns-in-None-clause-closed g c = sym (closed_none c.args.owner c.args.number (feeds_of (all_sized c.args.entries.now.items)) (rw c.deref.ensures.value at c.in-None.ensures.none))

pub returns-in-Some-clause-there : goal.returns-in-Some-clause-there
returns-in-Some-clause-there g c = some_there g.F.Following.held c.args.owner c.args.number c.args.entries.now.items c.in-Some.place c.requires (rw c.deref.ensures.value at c.in-Some.ensures.none) (rw c.deref.ensures.value at c.in-Some.ensures.some)

pub returns-in-Some-clause-closed : goal.returns-in-Some-clause-closed
returns-in-Some-clause-closed g c =
    some_closed g.F.Following.held c.args.owner c.args.number c.args.entries.now.items c.in-Some.place c.requires (rw c.deref.ensures.value at c.in-Some.ensures.none) (rw c.deref.ensures.value at c.in-Some.ensures.some) c.remove_at.new.entries.items c.remove_at.ensures

pub returns-in-Some-clause-keeps : goal.returns-in-Some-clause-keeps
returns-in-Some-clause-keeps g c =
    some_keeps g.F.Following.held c.args.owner c.args.number c.args.entries.now.items c.in-Some.place c.requires (rw c.deref.ensures.value at c.in-Some.ensures.none) (rw c.deref.ensures.value at c.in-Some.ensures.some) c.remove_at.new.entries.items c.remove_at.ensures
