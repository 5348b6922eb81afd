use Rattle.std.proofs.Common.{◌<◌, length, arith}
use Rattle.std.proofs.lemmas.List.{drop_all}
use Rattle.reql_read.proofs.Numerals.{all_read}
use Rattle.reql_read.proofs.quick_numbers.digits.Goals as goal

pub returns : goal.returns
returns c =
    let some : 0 < length c.args.bytes.now = grind arith in
    all_read c.digits.n _ c.args.bytes.now (drop_all c.digits.byte-index c.args.bytes.now (omega arith)) c.digits.invariant some (omega arith)
