use Rattle.std.proofs.Common.{◌≡◌, ◌≤◌, take, vec_capacity}
use Rattle.reql_feed_limit.proofs.held.copies.Given as goal

abbrev pub invariant-loop-element : goal.invariant-loop-element
invariant-loop-element l = (l.copies.items ≡ take l.element-index l.held) × (l.room ≤ vec_capacity l.copies)
