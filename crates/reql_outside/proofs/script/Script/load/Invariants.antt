use Rattle.std.proofs.Common.{◌≡◌, ◌≤◌, ◌++◌, length, drop, map, reverse, vec_len}
use Rattle.reql_outside.specs.Plays.{Byte, plays_of, left_of}
use Rattle.reql_outside.proofs.script.Script.load.Given as goal

abbrev pub invariant-loop-self : goal.invariant-loop-self
invariant-loop-self l = record {
  within : l.self-inside.start ≤ length l.self-inside.loaded.items;
  same : map Byte (drop l.self-inside.start l.self-inside.loaded.items) ++ plays_of (reverse l.self-inside.steps.items) ≡ left_of l.fn.self;
}

abbrev pub decreases-loop-self : goal.decreases-loop-self
decreases-loop-self l = vec_len l.self-inside.steps
