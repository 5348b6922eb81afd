use Rattle.std.proofs.Common.{◌≡◌, ◌++◌, drop}
use Rattle.reql_chain.specs.Spelling.{option_name}
use Rattle.reql_chain.proofs.spelling.put_option_name.Given as goal

abbrev pub invariant-loop-byte : goal.invariant-loop-byte
invariant-loop-byte l = l.out.items ++ option_name (drop l.byte-index l.name) ≡ l.initial.out.items ++ option_name l.name
