use Rattle.std.proofs.Common.{◌∙◌, map}
use Rattle.std.proofs.lemmas.List.Elements.{All-map}
use Rattle.reql_serve.proofs.Crew.{post_of}
use Rattle.reql_run.specs.Listening.{IsFreshPost, IsSoundPost}
use Rattle.reql_run.proofs.Posts.{counted}
use Rattle.reql_run.proofs.listening.serve_port.Goals as goal

pub returns-in-Ok-serve_posts-clause-came : goal.returns-in-Ok-serve_posts-clause-came
returns-in-Ok-serve_posts-clause-came g c =
    let posts = c.in-Ok.posts.items in
    record {
      net = c.in-Ok.ensures.asked;
      posts = map (post_of g.N.Clock.Clock.told g.N.Dice.Dice.told g.N.Door.Door.told) posts;
      one_each = counted (post_of g.N.Clock.Clock.told g.N.Dice.Dice.told g.N.Door.Door.told) posts ∙ c.in-Ok.ensures.count;
      fresh = All-map IsFreshPost (post_of g.N.Clock.Clock.told g.N.Dice.Dice.told g.N.Door.Door.told) posts c.in-Ok.ensures.untouched;
      sound = λ e. All-map IsSoundPost (post_of g.N.Clock.Clock.told g.N.Dice.Dice.told g.N.Door.Door.told) posts (c.in-Ok.ensures.sound e);
      served = c.in-Ok-serve_posts.ensures.served;
    }
