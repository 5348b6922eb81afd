use Rattle.std.proofs.Common.{◌<◌, sym, arith}
use Rattle.reql_datum.specs.Plain.{weight, members_weight}
use Rattle.reql_datum.specs.View.{plain}
use Rattle.reql_datum.proofs.Walks.{member_below}
use Rattle.reql_path.proofs.pattern.+is_pattern.Goals as goal

pub are_field_patterns-is_pattern-requires : goal.are_field_patterns-is_pattern-requires
are_field_patterns-is_pattern-requires t c =
    let lt : weight (plain c.in-Some.pattern.now) < members_weight c.args.named.now = member_below c.args.named.now c.loop-name.place _ (plain c.in-Some.pattern.now) (sym c.in-Some.ensures.found) in
    (omega (arith, lt), tt)
