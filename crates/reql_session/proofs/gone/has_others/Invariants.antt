use Rattle.std.proofs.Common.{◌≡◌, drop}
use Rattle.reql_session_spec.specs.Requests.{Arm}
use Rattle.reql_session_spec.specs.Tasks.{others}
use Rattle.reql_session_api.specs.Meant.{arms_of}
use Rattle.reql_session.specs.Batches.{is_none_of}
use Rattle.reql_session.proofs.gone.has_others.Given as goal

abbrev pub invariant-loop-arm : goal.invariant-loop-arm
invariant-loop-arm l = (arm : Arm) → arm.slot ≡ l.slot → arm.feed ≡ l.number → is_none_of (others arm (arms_of (drop l.arm-index l.arms))) ≡ is_none_of (others arm (arms_of l.arms))
