use Rattle.std.proofs.Common.{◌<◌, arith}
use Rattle.std.proofs.Math.Facts.{Fits-of_lt}
use Rattle.reql_plan_results.proofs.Bytes.{number_room, number_times}
use Rattle.reql_plan_results.proofs.keys.with_byte.Goals as goal

pub overflow_mul-result : goal.overflow_mul-result
overflow_mul-result c = Fits-of_lt (number_times c.args.number c.args.place c.requires.fits c.requires.below)

pub overflow_add-result : goal.overflow_add-result
overflow_add-result c =
    let byte : c.args.byte < 256 = omega (arith, c.ranges.byte.fits) in
    Fits-of_lt (number_room c.args.number c.args.place c.args.byte c.requires.fits c.requires.below byte)
