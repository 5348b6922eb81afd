use Rattle.std.proofs.Common.{◌+◌, length, map}
use Rattle.reql_feeds.specs.Turn.{told}
use Rattle.reql_core.proofs.Written.{leaves_it}
use Rattle.reql_core.proofs.live.LiveTable.land_many.Goals as goal

pub returns-clause-leaves : goal.returns-clause-leaves
returns-clause-leaves g c =
    let all = leaves_it g.F.Following.held c.args.self.now c.in_ok-table.table (c.args.self.now.moment.stamp + length c.args.changes.now) c.in_ok-table.draft (map told c.args.changes.now) c.in_ok-table.ensures.leads c.requires.alive in
    rw (c.in_ok-become_so.ensures.now, c.stamp.ensures) all
