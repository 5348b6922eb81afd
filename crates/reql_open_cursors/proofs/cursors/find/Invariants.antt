use Rattle.std.proofs.Common.{◌≡◌, ◌-◌, drop, length, map}
use Rattle.reql_session_spec.specs.Books.{cursor_of}
use Rattle.reql_open_cursors.specs.Kept.{cursor_kept}
use Rattle.reql_open_cursors.proofs.cursors.find.Given as goal

abbrev pub invariant-loop-cursor : goal.invariant-loop-cursor
invariant-loop-cursor l = cursor_of l.token (map cursor_kept (drop l.place l.cursors)) ≡ cursor_of l.token (map cursor_kept l.cursors)

abbrev pub decreases-loop-cursor : goal.decreases-loop-cursor
decreases-loop-cursor l = length l.cursors - l.place
