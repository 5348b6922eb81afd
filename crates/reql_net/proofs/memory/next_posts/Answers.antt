use Rattle.std.proofs.Common.{[], ◌∷◌, length, length-append, ap, arith}
use Rattle.reql_net.specs.Posts.{blank_post}
use Rattle.reql_net.proofs.Giving.{one_more, one_less}
use Rattle.reql_net.proofs.memory.next_posts.Goals as goal

pub loop-preserved : goal.loop-preserved
loop-preserved c =
    let is = c.push_reserved.ensures.items in
    let given = c.loop.given.items in
    let post = c.next_post-post.result in
    let posts = c.args.posts.now.items in (
      omega (arith, ap length is, length-append given (post ∷ []), c.loop.invariant.0),
      omega (arith, c.push_reserved.ensures.capacity, c.loop.invariant.1),
      one_more posts blank_post c.loop.counter c.loop.posts.items given c.push_reserved.new.self.items post c.loop.invariant.2 c.loop.invariant.3 c.next_post-post.ensures.given is,
      one_less posts c.loop.counter c.loop.posts.items c.next_post-post.new.posts.items c.loop.invariant.3 c.next_post-post.ensures.left,
    )
