use Rattle.std.proofs.Common.{◌≡◌, ◌≤◌, length, drop, vec_capacity}
use Rattle.reql_outside.specs.Source.{first}
use Rattle.reql_net.specs.Posts.{blank_post}
use Rattle.reql_net.proofs.memory.next_posts.Given as goal

abbrev pub invariant-loop : goal.invariant-loop
invariant-loop l =
    (length l.given.items ≡ l.counter)
    × (l.n ≤ vec_capacity l.given)
    × (l.given.items ≡ first l.initial.posts.items blank_post l.counter)
    × (l.posts.items ≡ drop l.counter l.initial.posts.items)
