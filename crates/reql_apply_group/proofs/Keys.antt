-- Groups by one key, and by several.
use Rattle.std.proofs.Common.{◌≡◌, ◌<◌, ◌≤◌, Result, List, [], ◌∷◌, length, get_or, Option, arith, subst}
use Rattle.reql_datum.specs.Outcome.{Gives}
use Rattle.reql_datum.specs.Plain.{Plain}
use Rattle.reql_datum.specs.declared.fault.Fault.{Fault}
use Rattle.reql_rules.specs.Grouping.{group_all}
use Rattle.reql_rules.specs.Lists.{Bytes}
use Rattle.reql_value_spec.specs.Called.{answer_key}
use Rattle.reql_value_spec.specs.Groups.{group_in}
use Rattle.reql_value_spec.specs.Meant.{Meant, Calls}
use Rattle.reql_value_spec.specs.World.{World}
use Rattle.reql_operand.specs.Seen.{shown, all_shown}
use Rattle.reql_operand.specs.declared.value.Arg.{Arg}
use Rattle.reql_apply_group.specs.Grouped.{keys_value}

pub by_one_key : {X : Type 0} (view : X → List (Plain × Plain)) (r : Result X Fault) (w : World) (calls : Calls) (m : Meant) (ks : List Arg) (k : Arg) (ds : List Plain) (i : Option Bytes)
    → 1 ≤ length ks → length ks < 2 → k ≡ get_or ks 0 k
    → Gives view r (group_all (answer_key calls (shown w k)) ds) → Gives view r (group_in w calls m (all_shown w ks) ds i)
by_one_key view r w calls m [] k ds i least below here gives = absurd (omega arith)
by_one_key view r w calls m (x ∷ []) k ds i least below here gives = subst (λ (u : Arg). Gives view r (group_all (answer_key calls (shown w u)) ds)) here gives
by_one_key view r w calls m (x ∷ y ∷ ks) k ds i least below here gives = absurd (omega arith)

pub by_several_keys : {X : Type 0} (view : X → List (Plain × Plain)) (r : Result X Fault) (w : World) (calls : Calls) (m : Meant) (ks : List Arg) (ds : List Plain) (i : Option Bytes)
    → 2 ≤ length ks
    → Gives view r (group_all (keys_value calls (all_shown w ks)) ds) → Gives view r (group_in w calls m (all_shown w ks) ds i)
by_several_keys view r w calls m [] ds i least gives = absurd (omega arith)
by_several_keys view r w calls m (x ∷ []) ds i least gives = absurd (omega arith)
by_several_keys view r w calls m (x ∷ y ∷ ks) ds i least gives = gives
