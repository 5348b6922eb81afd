use Rattle.std.proofs.Common.{◌≡◌, ◌-◌, ◌++◌, drop, length}
use Rattle.std.specs.List.{filter}
use Rattle.reql_datum.specs.Keys.{is_key}
use Rattle.reql_print.proofs.index.keys_in.Given as goal

abbrev pub invariant-loop-item : goal.invariant-loop-item
invariant-loop-item l = l.keys ++ filter is_key (drop l.place l.items) ≡ filter is_key l.items

abbrev pub decreases-loop-item : goal.decreases-loop-item
decreases-loop-item l = length l.items - l.place
