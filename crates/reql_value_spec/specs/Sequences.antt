-- REDUCE, MAP, FILTER, CONCAT_MAP, COUNT, UNION, SLICE, SKIP, LIMIT, IS_EMPTY, OFFSETS_OF, CONTAINS and RANGE (ReQL API reference:
-- reduce, map, filter, concatMap, count, union, slice, skip, limit, isEmpty, offsetsOf, contains, range).
use Rattle.std.specs.Prelude.{ℕ, ℤ, pos, List, [], ◌∷◌, length, nat_eq, Bool, true, false, not, ◌&&◌, if◌then◌else◌, Option, Some, None, Ok, Err, codes, chars}
use Rattle.reql_datum.specs.Answer.{Answer, ◌>>=◌, Reason, non_existence}
use Rattle.reql_datum.specs.Members.{find}
use Rattle.reql_datum.specs.Kinds.{is_literal}
use Rattle.reql_datum.specs.Plain.{Plain, boolean, object, binary, text, members}
use Rattle.reql_rules.specs.Faults.{misplaced, bad_option}
use Rattle.reql_rules.specs.Lists.{each, joined, array_of}
use Rattle.reql_rules.specs.Mapping.{filter_all, concat_all, reduce_all, places_from, passing, some_pass}
use Rattle.reql_rules.specs.Places.{sliced, as_count, counted_as}
use Rattle.reql_rules.specs.Sizes.{range}
use Rattle.reql_rules.specs.declared.words.Missing.{Missing}
use Rattle.reql_rules.specs.declared.words.Missing.TheVariants.{Drop, Keep, Raise}
use Rattle.reql_value_spec.specs.Called.{answer_one, answer_two, answer_items, answer_test, passes}
use Rattle.reql_value_spec.specs.Meant.{Meant, one, stream, Given, given, late, Calls, Gives, Rule, meant_of}
use Rattle.reql_value_spec.specs.Wanted.{as_sequence, as_number, datum_in, to_sequence, left_is_open, right_is_open}
use Rattle.reql_value_spec.specs.World.{World}

abbrev pub reduce_rule : Gives Plain
reduce_rule w calls (s ∷ f ∷ []) opts = do
  ds ← as_sequence w s
  reduce_all (answer_two calls f) ds
reduce_rule w calls gs opts = Err misplaced

abbrev pub map_rule : Gives (List Plain)
map_rule w calls (s ∷ f ∷ []) opts = do
  ds ← as_sequence w s
  each (answer_one calls f) ds
map_rule w calls gs opts = Err misplaced

abbrev pub concat_map : Gives (List Plain)
concat_map w calls (s ∷ f ∷ []) opts = do
  ds ← as_sequence w s
  concat_all (answer_items w calls f) ds
concat_map w calls gs opts = Err misplaced

-- what FILTER does on NON_EXISTENCE, and the fault that is raised in its place
abbrev pub by_default : Option Plain → Answer (Missing × Option Reason)
by_default (Some (boolean true)) = Ok (Keep, None)
by_default (Some (boolean false)) = Ok (Drop, None)
by_default d = Err (bad_option (codes "default"))

-- of an ERROR, with a text or without one: without one the fault stays what it was
abbrev pub by_error : Bool → Answer Meant → Answer (Missing × Option Reason)
by_error texted (Ok m) = Err (bad_option (codes "default"))
by_error true (Err e) = Ok (Raise, Some e)
by_error false (Err e) = Ok (Raise, None)

abbrev pub default_given : Option Given → Answer (Missing × Option Reason)
default_given None = Ok (Drop, None)
default_given (Some (late texted a)) = by_error texted a
default_given (Some g) = by_default (datum_in (meant_of g))

module _ {A : Type 0} where
  abbrev pub in_its_place : Option Reason → Answer A → Answer A
  in_its_place (Some e) (Err (non_existence s)) = Err e
  in_its_place e a = a

abbrev pub filter_rule : Gives (List Plain)
filter_rule w calls (s ∷ f ∷ []) opts = do
  ds ← as_sequence w s
  d ← default_given (find (codes "default") opts)
  in_its_place d.1 (filter_all d.0 (answer_test calls f) ds)
filter_rule w calls gs opts = Err misplaced

abbrev pub count_elements : World → Meant → Answer ℕ
count_elements w m = to_sequence w m >>= λ ds. Ok (length ds)

-- names of an object, characters of a text, bytes of a binary, elements of a sequence
abbrev pub count_datum : World → Meant → Option Plain → Answer ℕ
count_datum w m (Some (text s)) = Ok (length (chars s))
count_datum w m (Some (binary s)) = Ok (length s)
count_datum w m (Some (object ms)) = if is_literal ms then count_elements w m else Ok (length (members ms))
count_datum w m d = count_elements w m

abbrev pub count_rule : Gives Plain
count_rule w calls (s ∷ []) opts = do
  n ← count_datum w (meant_of s) (datum_in (meant_of s))
  Ok (counted_as n)
count_rule w calls (s ∷ f ∷ []) opts = do
  ds ← as_sequence w s
  es ← passing (passes calls f) ds
  Ok (counted_as (length es))
count_rule w calls gs opts = Err misplaced

-- an array where all are arrays
abbrev pub is_array : Given → Bool
is_array (given (one d)) = true
is_array g = false

abbrev pub are_arrays : List Given → Bool
are_arrays [] = true
are_arrays (g ∷ gs) = is_array g && are_arrays gs

abbrev pub union_rule : Rule
union_rule w calls gs opts = do
  dss ← each (as_sequence w) gs
  Ok (if are_arrays gs then one (array_of (joined dss)) else stream (joined dss))

abbrev pub slice_end : List Plain → List Given → Answer ℤ
slice_end ds [] = Ok (pos (length ds))
slice_end ds (m ∷ []) = as_number m
slice_end ds gs = Err misplaced

abbrev pub slice_rule : Gives (List Plain)
slice_rule w calls (s ∷ n ∷ gs) opts = do
  ds ← as_sequence w s
  from ← as_number n
  to ← slice_end ds gs
  left_open ← left_is_open opts
  right_open ← right_is_open opts
  Ok (sliced ds left_open from (not right_open) to)
slice_rule w calls gs opts = Err misplaced

-- SKIP and LIMIT
abbrev pub counted_part : (ℕ → List Plain → List Plain) → Gives (List Plain)
counted_part f w calls (s ∷ n ∷ []) opts = do
  ds ← as_sequence w s
  n ← as_number n
  k ← as_count n
  Ok (f k ds)
counted_part f w calls gs opts = Err misplaced

abbrev pub is_empty : Gives Plain
is_empty w calls (s ∷ []) opts = do
  ds ← as_sequence w s
  Ok (boolean (nat_eq (length ds) 0))
is_empty w calls gs opts = Err misplaced

abbrev pub offsets_of : Gives (List Plain)
offsets_of w calls (s ∷ f ∷ []) opts = do
  ds ← as_sequence w s
  places_from 0 (passes calls f) ds
offsets_of w calls gs opts = Err misplaced

-- each argument is tried on each element
abbrev pub all_contained : Calls → List Plain → List Given → Answer Bool
all_contained calls ds [] = Ok true
all_contained calls ds (f ∷ fs) = do
  b ← some_pass (passes calls f) ds
  c ← all_contained calls ds fs
  Ok (b && c)

abbrev pub contains : Gives Plain
contains w calls (s ∷ fs) opts = do
  ds ← as_sequence w s
  b ← all_contained calls ds fs
  Ok (boolean b)
contains w calls [] opts = Err misplaced

abbrev pub range_rule : Gives (List Plain)
range_rule w calls (n ∷ []) opts = do
  to ← as_number n
  range (pos 0) to
range_rule w calls (m ∷ n ∷ []) opts = do
  from ← as_number m
  to ← as_number n
  range from to
range_rule w calls gs opts = Err misplaced
