-- The writes of a FOR_EACH.
use Rattle.std.proofs.Common.{◌≡◌, ℕ, [], ◌∷◌, refl, List, Result}
use Rattle.reql_datum.specs.Plain.{Plain}
use Rattle.reql_term.specs.Form.{Form}
use Rattle.reql_term.specs.Views.{Document, Entry}
use Rattle.reql_rules.specs.Lists.{Bytes}
use Rattle.reql_table_spec.specs.Indexes.{Indexes}
use Rattle.reql_write_spec.specs.declared.command.Summary.{Summary}
use Rattle.reql_plan_spec.specs.Course.{round, rounds, write}
use Rattle.reql_plan_spec.specs.Held.{Held}
use Rattle.reql_plan_spec.specs.Reads.{with_element}
use Rattle.reql_plan_spec.specs.Request.{Request, from}
use Rattle.reql_plan_spec.specs.Summed.{added}
use Rattle.reql_plan_state.specs.Turn.{Turns}
use Rattle.reql_plan_state.specs.declared.stage.Turn.{Turn}

-- the first write of an element
pub first_round : {V E : Type 0} (documents : V → List Document) (indexes : V → Indexes) (entries : V → Bytes → List Entry) (r : Result (Turn V) E) (e : Held) (id : ℕ) (d : Plain) (total : Summary) (w : Form) (ws all : List Form) (on : Summary → Request)
    → all ≡ w ∷ ws → Turns documents indexes entries r (from (with_element id d w) (λ f. write e f (λ s. round e id d (added total s) ws on))) → Turns documents indexes entries r (round e id d total all on)
first_round documents indexes entries r e id d total w ws all on is h = rw is h

-- where there is no write, the elements leave the sum as it is
pub no_writes : (e : Held) (id : ℕ) (total : Summary) (ds : List Plain) (on : Summary → Request) → rounds e id [] total ds on ≡ on total
no_writes e id total [] on = refl
no_writes e id total (d ∷ ds) on = no_writes e id total ds on
