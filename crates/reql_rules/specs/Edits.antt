-- APPEND, PREPEND, INSERT_AT, DELETE_AT, CHANGE_AT and SPLICE_AT (ReQL API reference: append, prepend, insertAt, deleteAt, changeAt, spliceAt).
use Rattle.std.specs.Prelude.{ℕ, suc, max, ℤ, List, [], ◌∷◌, ◌++◌, take, drop, Ok}
use Rattle.reql_datum.specs.Answer.{Answer, ◌>>=◌}
use Rattle.reql_datum.specs.Plain.{Plain, null}
use Rattle.reql_rules.specs.Types.{as_number, as_items}
use Rattle.reql_rules.specs.Places.{item_place, gap_place, boundary}
use Rattle.reql_rules.specs.declared.words.Edit.{Edit}
use Rattle.reql_rules.specs.declared.words.Edit.TheVariants.{Append, Prepend, InsertAt, DeleteAt, ChangeAt, SpliceAt}

-- the list with others in place of the items from one place up to another
abbrev pub exchanged : List Plain → ℕ → ℕ → List Plain → List Plain
exchanged vs from to others = take from vs ++ (others ++ drop to vs)

abbrev pub put_between : List Plain → ℤ → List Plain → Answer (List Plain)
put_between vs at others = do
  p ← gap_place vs at
  Ok (exchanged vs p p others)

abbrev pub delete_one : List Plain → ℤ → Answer (List Plain)
delete_one vs at = do
  p ← item_place vs at
  Ok (exchanged vs p (suc p) [])

abbrev pub delete_range : List Plain → ℤ → ℤ → Answer (List Plain)
delete_range vs from to = do
  p ← boundary vs from
  q ← boundary vs to
  Ok (exchanged vs p (max p q) [])

-- up to the second place, where there is one
abbrev pub delete : List Plain → ℤ → Plain → Answer (List Plain)
delete vs at null = delete_one vs at
delete vs at to = do
  n ← as_number to
  delete_range vs at n

abbrev pub change : List Plain → ℤ → Plain → Answer (List Plain)
change vs at v = do
  p ← item_place vs at
  Ok (exchanged vs p (suc p) (v ∷ []))

abbrev pub splice : List Plain → ℤ → Plain → Answer (List Plain)
splice vs at v = do
  others ← as_items v
  put_between vs at others

abbrev pub edit : Edit → List Plain → ℤ → Plain → Answer (List Plain)
edit Append vs at v = Ok (vs ++ v ∷ [])
edit Prepend vs at v = Ok (v ∷ vs)
edit InsertAt vs at v = put_between vs at (v ∷ [])
edit DeleteAt vs at v = delete vs at v
edit ChangeAt vs at v = change vs at v
edit SpliceAt vs at v = splice vs at v
