use Rattle.std.proofs.Common.{◌≡◌, ◌++◌, map, drop, option_map}
use Rattle.reql_datum.specs.View.{plain}
use Rattle.reql_feed_spec.specs.Items.{paired}
use Rattle.reql_feed_range.specs.Printed.{shows, behind}
use Rattle.reql_feed_range.proofs.printed.Printer.pairs.Given as goal

abbrev pub invariant-loop-place : goal.invariant-loop-place
invariant-loop-place l =
    l.items ++ map (behind (shows l.self.offsets l.self.types) (option_map (λ d. plain d.now) l.key)) (paired (drop l.place l.left) (drop l.place l.came))
    ≡ map (behind (shows l.self.offsets l.self.types) (option_map (λ d. plain d.now) l.key)) (paired l.left l.came)
