use Rattle.std.proofs.Common.{rules, ◌≡◌, ◌<◌, ◌^◌, length, subst, sym}
use Rattle.reql_query.specs.Requests.{dump_body}
use Rattle.reql_query.proofs.Short.{short_dump}
use Rattle.reql_query.proofs.requests.dump_body.Goals as goal

pub returns-clause-few : goal.returns-clause-few
unfolding dump_body
returns-clause-few c =
    let told : c.extend_from_slice-2.new.self.items ≡ dump_body c.args.table.database.now c.args.table.name.now = search rules in
    subst (λ b. length b < 2 ^ 32) (sym told) (short_dump c.args.table.database.now c.args.table.name.now c.requires.0.few c.requires.1.few)
