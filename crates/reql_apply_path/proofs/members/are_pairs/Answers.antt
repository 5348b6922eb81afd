use Rattle.std.proofs.Common.{rules}
use Rattle.reql_operand.specs.Seen.{shown}
use Rattle.reql_apply_path.proofs.Paired.{even_is}
use Rattle.reql_apply_path.proofs.members.are_pairs.Goals as goal

pub returns : goal.returns
returns c w =
    let even = even_is (shown w) c.args.args.now in
    search (rules, even)
