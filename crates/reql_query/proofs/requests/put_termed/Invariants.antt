use Rattle.std.proofs.Common.{◌≡◌, ◌++◌, drop}
use Rattle.reql_query.specs.Requests.{termed}
use Rattle.reql_query.specs.declared.requests.Place.TheVariants.{Outside}
use Rattle.reql_query.proofs.requests.put_termed.Given as goal

abbrev pub invariant-loop-byte : goal.invariant-loop-byte
invariant-loop-byte l = l.out.items ++ termed l.place (drop l.byte-index l.text) ≡ l.initial.out.items ++ termed Outside l.text
