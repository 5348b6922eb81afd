-- Documents that may be shown.
use Rattle.std.proofs.Common.{◌≡◌, List, [], ◌∷◌, Bool, true, false, ◌&&◌, Ok, Err, refl}
use Rattle.reql_datum.specs.Kinds.{is_storable, are_storable}
use Rattle.reql_datum.specs.Plain.{Plain, items_of}
use Rattle.reql_rules.specs.Faults.{unshowable}
use Rattle.reql_rules.specs.Lists.{each}
use Rattle.reql_value_spec.specs.Shown.{may_show, rows_shown, as_sequence}
use Rattle.reql_operand.specs.Seen.{slice}
use Rattle.reql_operand.specs.declared.value.Slice.{Slice}
use Rattle.reql_operand.specs.declared.value.Slice.TheVariants as s

pub and_true : (b : Bool) → (b && true) ≡ b
and_true true = refl
and_true false = refl

pub one_shown : (d : Plain) → is_storable d ≡ true → may_show d ≡ Ok d
one_shown d h = rw h refl

pub one_kept : (d : Plain) → is_storable d ≡ false → may_show d ≡ Err unshowable
one_kept d h = rw h refl

all_first : (d : Plain) (ds : List Plain) (b : Bool) → is_storable d ≡ b → (b && are_storable (items_of ds)) ≡ true → (are_storable (items_of ds) ≡ true → each may_show ds ≡ Ok ds) → each may_show (d ∷ ds) ≡ Ok (d ∷ ds)
all_first d ds true e h on = rw (one_shown d e, on h) refl
all_first d ds false e h on = cc

pub all_shown : (ds : List Plain) → are_storable (items_of ds) ≡ true → each may_show ds ≡ Ok ds
all_shown [] h = refl
all_shown (d ∷ ds) h = all_first d ds (is_storable d) refl h (all_shown ds)

none_first : (d : Plain) (ds : List Plain) (b : Bool) → is_storable d ≡ b → (b && are_storable (items_of ds)) ≡ false → (are_storable (items_of ds) ≡ false → each may_show ds ≡ Err unshowable) → each may_show (d ∷ ds) ≡ Err unshowable
none_first d ds true e h on = rw (one_shown d e, on h) refl
none_first d ds false e h on = rw (one_kept d e) refl

pub none_shown : (ds : List Plain) → are_storable (items_of ds) ≡ false → each may_show ds ≡ Err unshowable
none_shown [] h = cc
none_shown (d ∷ ds) h = none_first d ds (is_storable d) refl h (none_shown ds)

-- a slice of a table is shown as a sequence
pub slice_shown : (k : Slice) (ds : List Plain) → rows_shown (slice k) ds ≡ as_sequence ds
slice_shown (s.Between b) ds = refl
slice_shown s.InOrder ds = refl
slice_shown (s.Rest passed) ds = refl

pub ruleset storable = (all_shown, none_shown)

pub ruleset groups = (and_true)
