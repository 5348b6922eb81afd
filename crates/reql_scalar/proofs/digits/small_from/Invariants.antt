use Rattle.std.proofs.Common.{◌≡◌, ◌≤◌, drop}
use Rattle.reql_scalar.specs.Digits.{small_on}
use Rattle.reql_scalar.proofs.digits.small_from.Given as goal

abbrev pub invariant-loop-byte : goal.invariant-loop-byte
invariant-loop-byte l = record { within : l.n ≤ 9007199254740992; rest : small_on l.n (drop l.byte-index l.bytes) ≡ small_on 0 l.bytes }
