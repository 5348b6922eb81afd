use Rattle.std.proofs.Common.{◌≡◌, drop, map}
use Rattle.reql_term.specs.Table.{is_among}
use Rattle.reql_read.proofs.globals.is_among.Given as goal

abbrev pub invariant-loop-known : goal.invariant-loop-known
invariant-loop-known l = is_among (map (λ s. s.now) l.names) l.name ≡ is_among (map (λ s. s.now) (drop l.known-index l.names)) l.name
