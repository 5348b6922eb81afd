use Rattle.std.proofs.Common.{◌≡◌, drop, map}
use Rattle.reql_session_spec.specs.Books.{cursor_of}
use Rattle.reql_open_cursors.specs.Kept.{cursor_kept}
use Rattle.reql_open_cursors.proofs.cursors.place_of.Given as goal

abbrev pub invariant-loop-place : goal.invariant-loop-place
invariant-loop-place l = cursor_of l.token (map cursor_kept (drop l.place l.cursors)) ≡ cursor_of l.token (map cursor_kept l.cursors)
