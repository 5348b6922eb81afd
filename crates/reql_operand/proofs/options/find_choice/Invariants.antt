use Rattle.std.proofs.Common.{◌≡◌, drop, map}
use Rattle.reql_datum.specs.Members.{find}
use Rattle.reql_value_spec.specs.World.{World}
use Rattle.reql_operand.specs.Seen.{choice}
use Rattle.reql_operand.proofs.options.find_choice.Given as goal

abbrev pub invariant-loop-option : goal.invariant-loop-option
invariant-loop-option l = (w : World) → find l.name (map (choice w) l.opts) ≡ find l.name (map (choice w) (drop l.option-index l.opts))
