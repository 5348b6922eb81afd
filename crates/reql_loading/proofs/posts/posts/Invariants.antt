use Rattle.std.proofs.Common.{◌≡◌, All, length}
use Rattle.reql_outside.specs.Source.{source}
use Rattle.reql_net.specs.Nets.{IsUntouched, IsSound}
use Rattle.reql_loading.proofs.posts.posts.Given as goal

abbrev pub invariant-loop-session : goal.invariant-loop-session
invariant-loop-session l = (length l.posts.items ≡ l.session) × All (IsUntouched (λ d. d.told)) l.posts.items × All (IsSound source source) l.posts.items
