use Rattle.std.proofs.Common.{◌≡◌, drop}
use Rattle.reql_json.specs.Literal.{without_line_ends}
use Rattle.reql_json.proofs.literal.has_line_end.Given as goal

abbrev pub invariant-loop-byte : goal.invariant-loop-byte
invariant-loop-byte l = without_line_ends (drop l.byte-index l.text) ≡ drop l.byte-index l.text → without_line_ends l.text ≡ l.text
