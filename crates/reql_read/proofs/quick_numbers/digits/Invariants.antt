use Rattle.std.proofs.Common.{drop}
use Rattle.reql_read.proofs.Numerals.{Leads}
use Rattle.reql_read.proofs.quick_numbers.digits.Given as goal

abbrev pub invariant-digits : goal.invariant-digits
invariant-digits l = Leads l.n (drop l.byte-index l.bytes) l.bytes
