-- APPEND, PREPEND, INSERT_AT, DELETE_AT, CHANGE_AT, SPLICE_AT, and arrays as sets (ReQL API reference: append, insertAt, deleteAt, changeAt,
-- spliceAt, setInsert, setUnion, difference).
use Rattle.std.specs.Prelude.{pos, List, [], ◌∷◌, Ok, Err}
use Rattle.reql_datum.specs.Answer.{◌>>=◌}
use Rattle.reql_datum.specs.Plain.{Plain, null, number}
use Rattle.reql_rules.specs.Edits.{edit}
use Rattle.reql_rules.specs.Faults.{misplaced}
use Rattle.reql_rules.specs.Lists.{array_of}
use Rattle.reql_rules.specs.Sets.{set_of}
use Rattle.reql_rules.specs.declared.words.Edit.{Edit}
use Rattle.reql_rules.specs.declared.words.Edit.TheVariants.{DeleteAt, SpliceAt}
use Rattle.reql_rules.specs.declared.words.SetOp.{SetOp}
use Rattle.reql_rules.specs.declared.words.SetOp.TheVariants.{SetInsert}
use Rattle.reql_value_spec.specs.Meant.{Gives}
use Rattle.reql_value_spec.specs.Wanted.{as_datum, as_number, as_array}

-- at an end
abbrev pub end_edit : Edit → Gives (List Plain)
end_edit op w calls (a ∷ v ∷ []) opts = do
  ds ← as_array a
  d ← as_datum v
  edit op ds (pos 0) d
end_edit op w calls gs opts = Err misplaced

-- INSERT_AT and CHANGE_AT
abbrev pub place_edit : Edit → Gives (List Plain)
place_edit op w calls (a ∷ n ∷ v ∷ []) opts = do
  ds ← as_array a
  at ← as_number n
  d ← as_datum v
  edit op ds at d
place_edit op w calls gs opts = Err misplaced

abbrev pub delete_at : Gives (List Plain)
delete_at w calls (a ∷ n ∷ []) opts = do
  ds ← as_array a
  at ← as_number n
  edit DeleteAt ds at null
delete_at w calls (a ∷ n ∷ m ∷ []) opts = do
  ds ← as_array a
  at ← as_number n
  to ← as_number m
  edit DeleteAt ds at (number to)
delete_at w calls gs opts = Err misplaced

abbrev pub splice_at : Gives (List Plain)
splice_at w calls (a ∷ n ∷ b ∷ []) opts = do
  ds ← as_array a
  at ← as_number n
  others ← as_array b
  edit SpliceAt ds at (array_of others)
splice_at w calls gs opts = Err misplaced

abbrev pub set_insert : Gives (List Plain)
set_insert w calls (a ∷ v ∷ []) opts = do
  ds ← as_array a
  d ← as_datum v
  Ok (set_of SetInsert ds (d ∷ []))
set_insert w calls gs opts = Err misplaced

abbrev pub set_operation : SetOp → Gives (List Plain)
set_operation op w calls (a ∷ b ∷ []) opts = do
  ds ← as_array a
  es ← as_array b
  Ok (set_of op ds es)
set_operation op w calls gs opts = Err misplaced
