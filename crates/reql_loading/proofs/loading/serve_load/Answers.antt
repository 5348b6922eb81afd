use Rattle.std.proofs.Common.{◌∙◌, map}
use Rattle.std.proofs.lemmas.List.Elements.{All-map}
use Rattle.reql_outside.specs.Source.{source}
use Rattle.reql_serve.proofs.Crew.{post_of}
use Rattle.reql_run.specs.Listening.{IsFreshPost, IsSoundPost}
use Rattle.reql_run.proofs.Posts.{counted}
use Rattle.reql_loading.proofs.loading.serve_load.Goals as goal

pub returns : goal.returns
returns g c =
    let posts = c.in_ok-posts.posts.items in
    record {
      posts = map (post_of source source (λ d. d.told)) posts;
      five = counted (post_of source source (λ d. d.told)) posts ∙ c.in_ok-posts.ensures.count;
      fresh = All-map IsFreshPost (post_of source source (λ d. d.told)) posts c.in_ok-posts.ensures.untouched;
      sound = All-map IsSoundPost (post_of source source (λ d. d.told)) posts c.in_ok-posts.ensures.sound;
      served = c.in_ok-many.ensures.served;
    }
