use Rattle.std.proofs.Common.{◌≡◌, ◌≤◌, ◌+◌, ◌*◌, ◌++◌, length, drop, flat_map, string_bytes}
use Rattle.reql_load.specs.Script.{after_another}
use Rattle.reql_load.proofs.bodies.put_others.Given as goal

abbrev pub invariant-loop-i : goal.invariant-loop-i
invariant-loop-i l =
    (string_bytes l.text ++ flat_map (after_another l.seed) (drop l.i-index l.docs) ≡ string_bytes l.fn.text ++ flat_map (after_another l.seed) l.docs)
    × (length (string_bytes l.text) ≤ length (string_bytes l.fn.text) + 41 * l.i-index)
