-- A write: the new documents, the changes, and the summary (ReQL API reference: insert, update, replace, delete; Write Result).
use Rattle.std.specs.Prelude.{ℕ, List, [], ◌∷◌, length, map, Bool, true, false, Option, Some, None, Ok, Err}
use Rattle.std.specs.List.{filter}
use Rattle.reql_datum.specs.Answer.{Answer, ◌>>=◌}
use Rattle.reql_datum.specs.Plain.{Plain}
use Rattle.reql_term.specs.Form.{Form}
use Rattle.reql_term.specs.Views.{Document, Index}
use Rattle.reql_rules.specs.Lists.{Bytes, also, joined}
use Rattle.reql_write_spec.specs.Selecting.{selected}
use Rattle.reql_write_spec.specs.Treated.{Treated, inserted, replaced, deleted, unchanged, skipped, failed, Changed, changes_of, changed_by, text_of, shown}
use Rattle.reql_write_spec.specs.Treating.{inserting, keyed, updating, replacing, without_doc, treat_all, at_key}
use Rattle.reql_write_spec.specs.declared.command.Act.{Act}
use Rattle.reql_write_spec.specs.declared.command.Act.TheVariants as act
use Rattle.reql_write_spec.specs.declared.command.Returns.{Returns}
use Rattle.reql_write_spec.specs.declared.command.Returns.TheVariants as returns
use Rattle.reql_write_spec.specs.declared.command.Summary.{Summary}
use Rattle.reql_write_spec.specs.declared.command.WriteCmd.{WriteCmd}

-- the rows' keys first, then each in order
abbrev pub over_rows : (Plain → Option Plain → Treated) → Bytes → List Document → List (Bytes × Index) → Form → Answer (List Treated)
over_rows f field docs indexes rows = selected field docs indexes rows >>= λ keys. Ok (treat_all (at_key f) docs keys)

-- what becomes of each document that a write treats; a fault of its rows leaves none
abbrev pub treated : Bytes → List Document → List (Bytes × Index) → Act → Answer (List Treated)
treated field docs indexes (act.Insert new conflict made) = Ok (treat_all (inserting field conflict) docs (keyed field made new))
treated field docs indexes (act.Update rows change) = over_rows (updating field change) field docs indexes rows
treated field docs indexes (act.Replace rows change) = over_rows (replacing field change) field docs indexes rows
treated field docs indexes (act.Delete rows) = over_rows without_doc field docs indexes rows

abbrev pub made_by : Act → List Plain
made_by (act.Insert new conflict made) = made
made_by a = []

-- ---- the summary
abbrev pub is_inserted : Treated → Bool
is_inserted (inserted key new) = true
is_inserted t = false

abbrev pub is_replaced : Treated → Bool
is_replaced (replaced key old new) = true
is_replaced t = false

abbrev pub is_deleted : Treated → Bool
is_deleted (deleted key old) = true
is_deleted t = false

abbrev pub is_unchanged : Treated → Bool
is_unchanged (unchanged d) = true
is_unchanged t = false

abbrev pub is_skipped : Treated → Bool
is_skipped skipped = true
is_skipped t = false

abbrev pub error_in : Treated → Option Bytes
error_in (failed why old) = Some why
error_in t = None

abbrev pub errors_in : List Treated → List Bytes
errors_in [] = []
errors_in (t ∷ ts) = also (error_in t) (errors_in ts)

abbrev pub first : List Bytes → Option Bytes
first [] = None
first (s ∷ ss) = Some s

abbrev pub count : (Treated → Bool) → List Treated → ℕ
count test ts = length (filter test ts)

abbrev pub is_change : Treated → Bool
is_change (inserted key new) = true
is_change (replaced key old new) = true
is_change (deleted key old) = true
is_change t = false

abbrev pub listed : Returns → List Treated → Option (List Plain)
listed returns.No ts = None
listed returns.Changed ts = Some (map shown (filter is_change ts))
listed returns.Always ts = Some (map shown ts)

abbrev pub summed : Returns → List Plain → List Bytes → List Treated → Summary
summed r made errors ts = record {
  deleted = count is_deleted ts;
  errors = length errors;
  inserted = count is_inserted ts;
  replaced = count is_replaced ts;
  skipped = count is_skipped ts;
  unchanged = count is_unchanged ts;
  first_error = first errors;
  generated = made;
  changes = listed r ts;
}

abbrev pub summary_of : Returns → List Plain → Answer (List Treated) → Summary
summary_of r made (Ok ts) = summed r made (errors_in ts) ts
summary_of r made (Err e) = summed r made (text_of e ∷ []) []

-- ---- the write
abbrev pub all_changes : Answer (List Treated) → List Changed
all_changes (Ok ts) = joined (map changes_of ts)
all_changes (Err e) = []

pub record Written : Type 0 where
  pub docs : List Document
  pub changes : List Changed
  pub summary : Summary

abbrev pub written : List Document → Returns → List Plain → Answer (List Treated) → Written
written docs r made a = record { docs = changed_by docs (all_changes a); changes = all_changes a; summary = summary_of r made a }

abbrev pub write : List Document → List (Bytes × Index) → WriteCmd → Written
write docs indexes cmd = written docs cmd.returns (made_by cmd.act) (treated cmd.key docs indexes cmd.act)
