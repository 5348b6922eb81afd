-- What a request goes on with, as it was made.
use Rattle.std.proofs.Common.{◌≡◌, ℕ, List, Result, subst}
use Rattle.reql_term.specs.Form.{Form}
use Rattle.reql_term.specs.Views.{Document, Entry}
use Rattle.reql_rules.specs.Lists.{Bytes}
use Rattle.reql_catalog.specs.Catalog.{Named}
use Rattle.reql_table_spec.specs.Indexes.{Indexes}
use Rattle.reql_plan_spec.specs.declared.parts.Plan.{Plan}
use Rattle.reql_plan_spec.specs.declared.parts.Setting.{Setting}
use Rattle.reql_plan_spec.specs.Course.{carried, reading}
use Rattle.reql_plan_spec.specs.Held.{Held, Read}
use Rattle.reql_plan_spec.specs.Request.{ends}
use Rattle.reql_plan_state.specs.Turn.{Turns}
use Rattle.reql_plan_state.specs.declared.stage.Turn.{Turn}

module _ {V E : Type 0} (documents : V → List Document) (indexes : V → Indexes) (entries : V → Bytes → List Entry) where
  pub carried_as : (r : Result (Turn V) E) (k h : Held) (f : Form) → k ≡ h → Turns documents indexes entries r (carried k f ends) → Turns documents indexes entries r (carried h f ends)
  carried_as r k h f is goes = subst (λ (x : Held). Turns documents indexes entries r (carried x f ends)) is goes

  pub reading_as : (r : Result (Turn V) E) (p : Plan) (s : Setting) (ns : Named) (f : Form) (t u : Read) (slots : List ℕ) → t ≡ u → Turns documents indexes entries r (reading p s ns f t slots ends) → Turns documents indexes entries r (reading p s ns f u slots ends)
  reading_as r p s ns f t u slots is goes = subst (λ (x : Read). Turns documents indexes entries r (reading p s ns f x slots ends)) is goes
