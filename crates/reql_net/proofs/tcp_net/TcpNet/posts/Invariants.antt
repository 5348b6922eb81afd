use Rattle.std.proofs.Common.{◌≡◌, length}
use Rattle.std.specs.List.{All}
use Rattle.reql_net.specs.Nets.{IsUntouched}
use Rattle.reql_net.proofs.tcp_net.TcpNet.posts.Given as goal

abbrev pub invariant-loop : goal.invariant-loop
invariant-loop l = (length l.posts.items ≡ l.counter) × All (IsUntouched (λ d. d)) l.posts.items
