-- Summaries of writes: added over the writes of a FOR_EACH, and shown as an object.
use Rattle.std.specs.Prelude.{ℕ, ◌+◌, ◌^◌, min, List, [], ◌∷◌, ◌++◌, Option, Some, None, codes}
use Rattle.reql_datum.specs.Plain.{Plain, text}
use Rattle.reql_rules.specs.Lists.{Bytes, array_of, object_of}
use Rattle.reql_rules.specs.Places.{counted_as}
use Rattle.reql_write_spec.specs.declared.command.Summary.{Summary}

abbrev pub first_of : Option Bytes → Option Bytes → Option Bytes
first_of None b = b
first_of (Some a) b = Some a

abbrev pub both_of : Option (List Plain) → Option (List Plain) → Option (List Plain)
both_of None b = b
both_of (Some a) None = Some a
both_of (Some a) (Some b) = Some (a ++ b)

-- counts end at the last number that a document can hold
abbrev pub sum : ℕ → ℕ → ℕ
sum a b = min (a + b) (2 ^ 53)

abbrev pub added : Summary → Summary → Summary
added a b = record {
  deleted = sum a.deleted b.deleted;
  errors = sum a.errors b.errors;
  inserted = sum a.inserted b.inserted;
  replaced = sum a.replaced b.replaced;
  skipped = sum a.skipped b.skipped;
  unchanged = sum a.unchanged b.unchanged;
  first_error = first_of a.first_error b.first_error;
  generated = a.generated ++ b.generated;
  changes = both_of a.changes b.changes;
}

abbrev pub nothing_done : Summary
nothing_done = record { deleted = 0; errors = 0; inserted = 0; replaced = 0; skipped = 0; unchanged = 0; first_error = None; generated = []; changes = None }

abbrev pub some_list : Bytes → Option (List Plain) → List (Bytes × Plain)
some_list name None = []
some_list name (Some ds) = (name, array_of ds) ∷ []

abbrev pub some_text : Bytes → Option Bytes → List (Bytes × Plain)
some_text name None = []
some_text name (Some s) = (name, text s) ∷ []

abbrev pub if_any : Bytes → List Plain → List (Bytes × Plain)
if_any name [] = []
if_any name (d ∷ ds) = (name, array_of (d ∷ ds)) ∷ []

-- its members by rising name
abbrev pub summary_shown : Summary → Plain
summary_shown s = object_of (
    some_list (codes "changes") s.changes ++ ((codes "deleted", counted_as s.deleted) ∷ (codes "errors", counted_as s.errors) ∷
    (some_text (codes "first_error") s.first_error ++ (if_any (codes "generated_keys") s.generated ++
    ((codes "inserted", counted_as s.inserted) ∷ (codes "replaced", counted_as s.replaced) ∷ (codes "skipped", counted_as s.skipped) ∷ (codes "unchanged", counted_as s.unchanged) ∷ [])))))
