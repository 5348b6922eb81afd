-- Items of a feed without their arms.
use Rattle.std.specs.Prelude.{ℕ, cond}
use Rattle.reql_datum.specs.Plain.{Plain}
use Rattle.reql_datum.specs.View.{plain}
use Rattle.reql_plan_spec.specs.Move as plans
use Rattle.reql_session_spec.specs.Requests.{Sort, State, Opening}
use Rattle.reql_session_api.specs.Meant.{sort_of}
use Rattle.reql_session_api.specs.declared.answered.Shown.{Shown}

pub record Bare : Type 0 where
  pub at : ℕ
  pub sort : Sort
  pub stamp : ℕ
  pub item : Plain

-- as a session has it
abbrev pub bare_of : Shown → Bare
bare_of x = record { at = x.at; sort = sort_of x.sort; stamp = x.stamp; item = plain x.item }

-- as a plan gives it
abbrev pub bare_in : plans.Item → Bare
bare_in x = record { at = x.arm; sort = cond x.is_state State Opening; stamp = x.stamp; item = x.shown }
