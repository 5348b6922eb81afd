-- A request on its way, as its session has it.
use Rattle.std.specs.Prelude.{List}
use Rattle.reql_term.specs.Views.{Document}
use Rattle.reql_table_spec.specs.Indexes.{Indexes}
use Rattle.reql_plan_spec.specs.declared.parts.Plan.{Plan}
use Rattle.reql_plan_spec.specs.declared.parts.Setting.{Setting}
use Rattle.reql_session_api.specs.Meant.{Course}
use Rattle.reql_session_api.specs.declared.moves.Found.{Found}
use Rattle.reql_planner.specs.Follows.{found_in}

module _ {V : Type 0} (documents : V → List Document) (indexes : V → Indexes) where
  abbrev pub state_of : Plan → Setting → List (Found V × Unit {0}) → Course Plan
  state_of p s xs = record { plan = p; noreply = s.noreply; count = s.opened; found = found_in documents indexes xs }
