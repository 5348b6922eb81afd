use Rattle.std.proofs.Common.{◌≡◌, ◌+◌, drop, rules}
use Rattle.reql_datum.specs.Members.{put}
use Rattle.reql_datum.specs.View.{plain}
use Rattle.reql_scalar.specs.Two.{gathered}
use Rattle.reql_scalar.proofs.Gathered.{moved_on}
use Rattle.reql_scalar.proofs.building.by_name.Goals as goal

pub loop-name-preserved : goal.loop-name-preserved
loop-name-preserved c =
    let at = c.loop-name in
    let put_is : gathered c.insert.new.named.entries ≡ put c.in-Some.name.now (plain c.in-Some.value.now) (gathered at.named.entries) = search rules in
    moved_on (gathered at.named.entries) _ (drop at.place c.args.fields.now) (drop (at.place + 1) c.args.fields.now) _ c.in-Some.name.now (plain c.in-Some.value.now)
    c.in-Some.ensures.rising c.in-Some.ensures.rest put_is at.invariant
