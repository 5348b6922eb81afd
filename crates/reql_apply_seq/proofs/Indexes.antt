-- The entries of a whole index, and DISTINCT of its values.
use Rattle.std.proofs.Common.{◌≡◌, refl, List, Some, Ok, Err}
use Rattle.reql_datum.specs.Answer.{Answer, ◌>>=◌}
use Rattle.reql_term.specs.Views.{Entry, values_in}
use Rattle.reql_rules.specs.Lists.{Bytes}
use Rattle.reql_rules.specs.Sorting.{distinct}
use Rattle.reql_value_spec.specs.Meant.{Meant, one, stream, selection, row, table, grouped, database, callable}
use Rattle.reql_value_spec.specs.World.{World, View, view_at, entries_named}
use Rattle.reql_apply_seq.specs.Indexes.{named_values, values_any, distinct_values, distinct_named}

source_on : (a : Answer (List Entry))
    → (a >>= λ es. Ok (stream (distinct (values_in es)))) ≡ (((a >>= λ es. Ok (Some es)) >>= λ x. Ok (values_any x)) >>= λ vs. Ok (stream (distinct vs)))
source_on (Ok es) = refl
source_on (Err e) = refl

view_on : (name : Bytes) (a : Answer View)
    → ((a >>= λ v. entries_named v name) >>= λ es. Ok (stream (distinct (values_in es)))) ≡ ((a >>= λ v. named_values v name) >>= λ vs. Ok (stream (distinct vs)))
view_on name (Ok v) = source_on (entries_named v name)
view_on name (Err e) = refl

pub distinct_seen : (w : World) (name : Bytes) (m : Meant) → distinct_named w name m ≡ distinct_values w name m
distinct_seen w name (one d) = refl
distinct_seen w name (stream ds) = refl
distinct_seen w name (selection n k ds) = refl
distinct_seen w name (row n d e) = refl
distinct_seen w name (table n) = view_on name (view_at w n)
distinct_seen w name (grouped gs) = refl
distinct_seen w name (database s) = refl
distinct_seen w name callable = refl
