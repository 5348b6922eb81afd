use Rattle.std.proofs.Common.{ap, ◌∙◌}
use Rattle.reql_net.specs.Posts.{PostsListed}
use Rattle.reql_net.proofs.Giving.{kept, given_count, given_untouched, given_sound}
use Rattle.reql_net.proofs.memory.MemNetNet.doors.Goals as goal

pub invariant_of-self-2 : goal.invariant_of-self-2
invariant_of-self-2 c = kept c.self.inside.made_of.value.items c.self.inside.posts.items c.next_posts.new.posts.items c.args.n c.next_posts.result c.next_posts.ensures.left c.next_posts.ensures.same c.self.invariant

pub returns-clause-count : goal.returns-clause-count
returns-clause-count c = given_count c.self.inside.posts.items c.in-Ok.given.items c.args.n c.in-Ok.ensures.given

pub returns-clause-untouched : goal.returns-clause-untouched
returns-clause-untouched c = given_untouched c.self.inside.posts.items c.in-Ok.given.items c.args.n c.in-Ok.ensures.given c.self.invariant.0

pub returns-clause-sound : goal.returns-clause-sound
returns-clause-sound c = λ e.
    given_sound c.self.inside.posts.items c.in-Ok.given.items c.args.n c.in-Ok.ensures.given
    (c.self.invariant.1 (ap (λ (net : PostsListed). net.told.sound) c.self.view_is ∙ e))
