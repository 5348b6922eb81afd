-- A write of rows whose rows, and what they are changed by, are settled.
use Rattle.std.proofs.Common.{◌≡◌, ℕ, Result, Ok}
use Rattle.reql_datum.specs.Outcome.{Gives}
use Rattle.reql_datum.specs.declared.fault.Fault.{Fault}
use Rattle.reql_term.specs.Form.{Form, Forms, NamedForms}
use Rattle.reql_faults.specs.Places.{first, second}
use Rattle.reql_write_spec.specs.Selecting.{slots}
use Rattle.reql_write_spec.specs.declared.command.Act.{Act}
use Rattle.reql_write_spec.specs.declared.command.Act.TheVariants as act
use Rattle.reql_table_spec.specs.Followed.{first_slot}
use Rattle.reql_plan_spec.specs.declared.parts.Prepared.{Prepared}
use Rattle.reql_plan_spec.specs.Held.{Held}
use Rattle.reql_plan_spec.specs.Settled.{there, settled, no_test, argument, nothing_kept}
use Rattle.reql_plan_spec.specs.Writes.{rows_in, changing, deleting}
use Rattle.reql_plan_commands.specs.Ready.{changed}

module _ (e : Held) (fs : Forms) (ms : NamedForms) (f rows : Form) (n : ℕ) (a : Act) (r : Result Prepared Fault) where
  pub deletes : rows_in e (first fs) ≡ Ok f → settled no_test e.world f ≡ Ok rows → n ≡ first_slot (slots f) → a ≡ act.Delete rows
      → Gives (λ p. p) r (changed e n a ms) → Gives (λ p. p) r (deleting e fs ms)
  deletes found ready slot acts gives = rw (found, ready) (rw (slot, acts) at gives)

  pub changes : (kind : Form → Form → Act) (given change : Form) → rows_in e (first fs) ≡ Ok f → settled no_test e.world f ≡ Ok rows → there (second fs) ≡ Ok given
      → argument nothing_kept e.world given ≡ Ok change → n ≡ first_slot (slots f) → a ≡ kind rows change
      → Gives (λ p. p) r (changed e n a ms) → Gives (λ p. p) r (changing e kind fs ms)
  changes kind given change found ready there_is argued slot acts gives = rw (found, ready, there_is, argued) (rw (slot, acts) at gives)
