use Rattle.std.proofs.Common.{◌≡◌, ◌-◌, length, drop, string_bytes}
use Rattle.reql_scalar.specs.Adding.{added_texts}
use Rattle.reql_scalar.proofs.adding.texts.Given as goal

abbrev pub invariant-loop-item : goal.invariant-loop-item
invariant-loop-item l = added_texts l.fn.first (drop 1 l.args) ≡ added_texts (string_bytes l.joined) (drop l.place l.args)

abbrev pub decreases-loop-item : goal.decreases-loop-item
decreases-loop-item l = length l.args - l.place
