use Rattle.std.proofs.Common.{◌≡◌, ◌++◌, drop, map}
use Rattle.reql_apply_seq.specs.Orders.{is_falling}
use Rattle.reql_apply_seq.proofs.sort_keys.add_directions.Given as goal

abbrev pub invariant-loop-key : goal.invariant-loop-key
invariant-loop-key l = l.initial.down.items ++ map is_falling l.keys ≡ l.down.items ++ map is_falling (drop l.key-index l.keys)
