use Rattle.std.proofs.Common.{◌≡◌}
use Rattle.serde_json.specs.View.{members_view}
use Rattle.reql_read.specs.Globals.{settings_from}
use Rattle.reql_read.proofs.globals.settings_from.Given as goal

abbrev pub invariant-loop-key : goal.invariant-loop-key
invariant-loop-key l = settings_from l.fn.settings (members_view l.members.entries) ≡ settings_from l.settings (members_view l.key-iterator)
