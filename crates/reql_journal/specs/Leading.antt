-- The records of a history lead from the table that it began with to the table that it leads to.
use Rattle.std.specs.Prelude.{◌≡◌, ℕ, List, [], ◌∷◌, ◌++◌, Bool, true, option_to_list, Some}
use Rattle.std.specs.List.{AllByRecursion}
use Rattle.reql_datum.specs.Plain.{Plain}
use Rattle.reql_term.specs.Views.{Index}
use Rattle.reql_rules.specs.Lists.{Bytes}
use Rattle.reql_value_spec.specs.Index.{entries}
use Rattle.reql_shared.specs.Machine.{replay}
use Rattle.reql_shared.specs.declared.recorded.Recorded.{Recorded as Entry}
use Rattle.reql_table_spec.specs.Indexes.{Indexes}
use Rattle.reql_table_spec.specs.Machine.{State, after, reply, is_recorded, machine}
use Rattle.reql_table_spec.specs.Table.{DocumentTable}
use Rattle.reql_table_spec.specs.declared.command.Order.{Order}
use Rattle.reql_table_records.specs.Laws.{CanBeWritten}
use Rattle.reql_table_records.specs.Records.{Recorded}
use Rattle.reql_table_records.specs.Standing.{Standing, after_records}
use Rattle.reql_journal.specs.Commands.{IsWritten}
use Rattle.reql_journal.specs.Engines.{record_of_order}

abbrev pub standing : DocumentTable → Standing
standing t = record { docs = t.docs; indexes = t.indexes; shut = t.shut }

-- two indexes with the same entries: a constant is read back as a term that gives it
pub record IsLikeIndex (i j : Index) : Type 0 where
  pub multi : i.1 ≡ j.1
  pub same : (d : Plain) → entries i d ≡ entries j d

abbrev pub AreLike : Indexes → Indexes → Type 0
AreLike [] [] = Unit {0}
AreLike (m ∷ ms) (n ∷ ns) = ((m.0 ≡ n.0) × IsLikeIndex m.1 n.1) × AreLike ms ns
AreLike [] (n ∷ ns) = ⊥
AreLike (m ∷ ms) [] = ⊥

-- the same table, but for how the functions of its indexes are written
pub record IsLike (t u : Standing) : Type 0 where
  pub docs : t.docs ≡ u.docs
  pub indexes : AreLike t.indexes u.indexes
  pub shut : t.shut ≡ u.shut

-- the records lead from one table to such as another
pub record Leads (t : Standing) (rs : List Recorded) (u : Standing) : Type 0 where
  pub reached : Standing
  pub leads : after_records t rs ≡ Some reached
  pub like : IsLike reached u

-- of one command that is recorded
abbrev pub records_of_order : State → ℕ → Order → List Recorded
records_of_order s by o = option_to_list (record_of_order s by o)

pub record IsKept (s : State) (by : ℕ) (o : Order) : Type 0 where
  pub is_recorded : is_recorded (reply s by o) ≡ true
  pub written : IsWritten o.cmd
  pub can_be : AllByRecursion CanBeWritten (records_of_order s by o)

abbrev pub CommandsLead : Type 0
CommandsLead = (s : State) (by : ℕ) (o : Order) (t : Standing) → IsLike t (standing s.table) → IsKept s by o → Leads t (records_of_order s by o) (standing (after s by o).table)

-- of a history, from a state on: the records of those of its entries that have one
abbrev pub History : Type 0
History = List (Entry Order)

abbrev pub records_of : State → History → List Recorded
records_of s [] = []
records_of s (e ∷ es) = records_of_order s e.by e.cmd ++ records_of (after s e.by e.cmd) es

abbrev pub AreKept : State → History → Type 0
AreKept s [] = Unit {0}
AreKept s (e ∷ es) = IsKept s e.by e.cmd × AreKept (after s e.by e.cmd) es

abbrev pub HistoriesLead : Type 0
HistoriesLead = (s : State) (history : History) (t : Standing) → IsLike t (standing s.table) → AreKept s history → Leads t (records_of s history) (standing (replay machine s history).table)
