-- What stands at a place among arguments.
use Rattle.std.proofs.Common.{◌≡◌, ℕ, List, slice_get, option_map}
use Rattle.std.proofs.lemmas.Option.{slice_get-map}
use Rattle.reql_value_spec.specs.World.{World}
use Rattle.reql_operand.specs.Seen.{shown, all_shown}
use Rattle.reql_operand.specs.declared.value.Arg.{Arg}

pub shown_at : (w : World) (gs : List Arg) (i : ℕ) → slice_get (all_shown w gs) i ≡ option_map (shown w) (slice_get gs i)
shown_at w gs i = slice_get-map (shown w) gs i
