use Rattle.std.proofs.Common.{◌≡◌, drop}
use Rattle.std.specs.List.{list_all}
use Rattle.reql_apply_seq.specs.Sources.{is_plain}
use Rattle.reql_apply_seq.proofs.joining.are_plain.Given as goal

abbrev pub invariant-loop-arg : goal.invariant-loop-arg
invariant-loop-arg l = list_all is_plain l.args ≡ list_all is_plain (drop l.arg-index l.args)
