use Rattle.std.proofs.Common.{[], ◌∷◌, ◌++◌, length, length-append, ap, arith}
use Rattle.std.proofs.lemmas.List.Elements.{All-push, All-same}
use Rattle.reql_outside.specs.Source.{source}
use Rattle.reql_net.specs.Nets.{IsUntouched, IsSound}
use Rattle.reql_loading.proofs.posts.posts.Goals as goal

pub loop-session-preserved : goal.loop-session-preserved
loop-session-preserved c =
    let is = c.in_ok-push.ensures.items in
    let posts = c.loop-session.posts.items in
    let post = c.in_ok-post.field-0 in (
      omega (arith, ap length is, length-append posts (post ∷ []), c.loop-session.invariant.0),
      All-same (IsUntouched (λ d. d.told)) c.push.new.self.items (posts ++ post ∷ []) is (All-push (IsUntouched (λ d. d.told)) posts post c.loop-session.invariant.1 c.in_ok-post.ensures.untouched),
      All-same (IsSound source source) c.push.new.self.items (posts ++ post ∷ []) is (All-push (IsSound source source) posts post c.loop-session.invariant.2 c.in_ok-post.ensures.sound),
    )
