-- Worked rows of the rules on plain values.
use Rattle.std.specs.Prelude.{◌≡◌, ℕ, pos, negsuc, List, [], ◌∷◌, true, false, Ok, Err, codes}
use Rattle.reql_datum.specs.Kinds.{reserved}
use Rattle.reql_datum.specs.Plain.{Plain, boolean, null, number, time, binary, text}
use Rattle.reql_rules.specs.Lists.{Bytes, array_of, object_of}
use Rattle.reql_rules.specs.Faults.{number_fault, out_of_bounds, nothing_to_aggregate, bad_pattern, bad_name_in_object, cannot_coerce, type_fault}
use Rattle.reql_rules.specs.Numbers.{arith}
use Rattle.reql_rules.specs.Relations.{relate}
use Rattle.reql_rules.specs.Edits.{edit}
use Rattle.reql_rules.specs.Sets.{set_of}
use Rattle.reql_rules.specs.Coercing.{coerce}
use Rattle.reql_rules.specs.Patterns.{as_pattern, has_fields, pluck, without}
use Rattle.reql_rules.specs.Merging.{merge}
use Rattle.reql_rules.specs.Fields.{get_field}
use Rattle.reql_rules.specs.Mapping.{reduce_all}
use Rattle.reql_rules.specs.Sorting.{order_all, distinct}
use Rattle.reql_rules.specs.Totals.{total}
use Rattle.reql_rules.specs.Grouping.{group_all}
use Rattle.reql_rules.specs.Joining.{join_all, zip_all}
use Rattle.reql_rules.specs.Places.{sliced, nth}
use Rattle.reql_rules.specs.Admin.{uuid, database_id}
use Rattle.reql_datum.specs.declared.whole.NumFault.TheVariants.{OverRange, NotWhole}
use Rattle.reql_rules.specs.declared.words.Arith.TheVariants.{Add, Sub, Div, Mod}
use Rattle.reql_rules.specs.declared.words.Relate.TheVariants.{Le, Ne}
use Rattle.reql_rules.specs.declared.words.Edit.TheVariants.{InsertAt, DeleteAt, SpliceAt}
use Rattle.reql_rules.specs.declared.words.SetOp.TheVariants.{SetUnion, SetDifference, Difference}
use Rattle.reql_rules.specs.declared.words.Total.TheVariants.{Sum, Avg, Min, Max}

-- numbers, texts, arrays and objects in short
abbrev n : ℕ → Plain
n k = number (pos k)

abbrev a : List Plain → Plain
a vs = array_of vs

abbrev o : Bytes → Plain → Plain
o k v = object_of ((k, v) ∷ [])

abbrev oo : Bytes → Plain → Bytes → Plain → Plain
oo j u k v = object_of ((j, u) ∷ (k, v) ∷ [])

abbrev literal_of : Plain → Plain
literal_of v = oo reserved (text (codes "LITERAL")) (codes "value") v

abbrev no_literal : Plain
no_literal = o reserved (text (codes "LITERAL"))

abbrev pub Arithmetic : Type 0
Arithmetic =
    (arith Add (n 9007199254740992 ∷ n 1 ∷ []) ≡ Err (number_fault OverRange))
    × (arith Add (text (codes "a") ∷ text (codes "b") ∷ []) ≡ Ok (text (codes "ab")))
    × (arith Add (a (n 1 ∷ []) ∷ a (n 2 ∷ []) ∷ []) ≡ Ok (a (n 1 ∷ n 2 ∷ [])))
    × (arith Add (n 9007199254740992 ∷ n 1 ∷ text (codes "a") ∷ []) ≡ Err (type_fault (codes "NUMBER") (codes "STRING")))
    × (arith Add (time (pos 100, pos 0) ∷ n 20 ∷ []) ≡ Ok (time (pos 120, pos 0)))
    × (arith Sub (time (pos 100, pos 60) ∷ n 20 ∷ []) ≡ Ok (time (pos 80, pos 60)))
    × (arith Sub (time (pos 100, pos 0) ∷ time (pos 70, pos 0) ∷ n 5 ∷ []) ≡ Ok (n 25))
    × (arith Div (n 7 ∷ n 2 ∷ []) ≡ Err (number_fault NotWhole))
    × (arith Mod (number (negsuc 6) ∷ n 3 ∷ []) ≡ Ok (number (negsuc 0)))
    × (relate Le (n 1 ∷ n 1 ∷ n 2 ∷ []) ≡ true)
    × (relate Ne (n 1 ∷ n 1 ∷ n 2 ∷ []) ≡ true)

abbrev pub Lists : Type 0
Lists =
    (edit InsertAt (n 1 ∷ []) (pos 2) (n 5) ≡ Err (out_of_bounds (pos 2)))
    × (edit InsertAt (n 1 ∷ []) (negsuc 0) (n 5) ≡ Ok (n 1 ∷ n 5 ∷ []))
    × (edit DeleteAt (n 1 ∷ n 2 ∷ n 3 ∷ []) (negsuc 0) null ≡ Ok (n 1 ∷ n 2 ∷ []))
    × (edit DeleteAt (n 1 ∷ n 2 ∷ n 3 ∷ []) (pos 1) (n 3) ≡ Ok (n 1 ∷ []))
    × (edit DeleteAt (n 1 ∷ n 2 ∷ n 3 ∷ []) (pos 2) (n 1) ≡ Ok (n 1 ∷ n 2 ∷ n 3 ∷ []))
    × (edit SpliceAt (n 1 ∷ n 2 ∷ []) (pos 1) (a (n 7 ∷ n 8 ∷ [])) ≡ Ok (n 1 ∷ n 7 ∷ n 8 ∷ n 2 ∷ []))
    × (set_of SetUnion (n 1 ∷ n 2 ∷ []) (n 2 ∷ n 3 ∷ []) ≡ n 1 ∷ n 2 ∷ n 3 ∷ [])
    × (set_of SetDifference (n 1 ∷ n 1 ∷ n 2 ∷ []) (n 2 ∷ []) ≡ n 1 ∷ [])
    × (set_of Difference (n 1 ∷ n 1 ∷ n 2 ∷ []) (n 2 ∷ []) ≡ n 1 ∷ n 1 ∷ [])
    × (nth (n 1 ∷ n 2 ∷ []) (negsuc 1) ≡ Ok (n 1))
    × (nth [] (negsuc 0) ≡ Err (out_of_bounds (negsuc 0)))
    × (sliced (n 1 ∷ n 2 ∷ n 3 ∷ []) false (negsuc 1) false (pos 3) ≡ n 2 ∷ n 3 ∷ [])
    × (sliced (n 1 ∷ n 2 ∷ n 3 ∷ []) true (pos 0) true (pos 1) ≡ n 2 ∷ [])
    × (sliced (n 1 ∷ n 2 ∷ n 3 ∷ []) false (negsuc 8) false (negsuc 7) ≡ [])
    × (distinct (n 3 ∷ n 1 ∷ n 3 ∷ []) ≡ n 1 ∷ n 3 ∷ [])

abbrev pub Coerced : Type 0
Coerced =
    (coerce (text (codes "12")) (codes "number") ≡ Ok (n 12))
    × (coerce (text (codes "-7")) (codes "number") ≡ Ok (number (negsuc 6)))
    × (coerce (text (codes "1.5")) (codes "number") ≡ Err (cannot_coerce (codes "STRING") (codes "number")))
    × (coerce (o (codes "a") (n 1)) (codes "array") ≡ Ok (a (a (text (codes "a") ∷ n 1 ∷ []) ∷ [])))
    × (coerce (a (a (text (codes "a") ∷ n 1 ∷ []) ∷ a (text (codes "a") ∷ n 2 ∷ []) ∷ [])) (codes "object") ≡ Err bad_name_in_object)
    × (coerce (binary (97 ∷ [])) (codes "string") ≡ Ok (text (codes "a")))
    × (coerce null (codes "bool") ≡ Ok (boolean false))

abbrev pub Parts : Type 0
Parts =
    (as_pattern (n 5) ≡ Err bad_pattern)
    × (pluck (text (codes "a") ∷ []) (oo (codes "a") (n 1) (codes "b") (n 2)) ≡ o (codes "a") (n 1))
    × (without (text (codes "a") ∷ []) (oo (codes "a") (n 1) (codes "b") (n 2)) ≡ o (codes "b") (n 2))
    × (pluck (o (codes "a") (o (codes "b") (boolean true)) ∷ []) (o (codes "a") (n 5)) ≡ object_of [])
    × (pluck (o (codes "a") (o (codes "c") (n 1)) ∷ []) (o (codes "a") (o (codes "b") (n 5))) ≡ o (codes "a") (object_of []))
    × (pluck (o (codes "a") (o (codes "b") (boolean true)) ∷ o (codes "a") (text (codes "c")) ∷ []) (o (codes "a") (oo (codes "b") (n 1) (codes "c") (n 2))) ≡ o (codes "a") (oo (codes "b") (n 1) (codes "c") (n 2)))
    × (without (o (codes "a") (text (codes "b")) ∷ []) (o (codes "a") (a (n 1 ∷ o (codes "b") (n 5) ∷ []))) ≡ o (codes "a") (a (n 1 ∷ object_of [] ∷ [])))
    × (has_fields (o (codes "a") (o (codes "b") (boolean true)) ∷ []) ((codes "a", o (codes "b") null) ∷ []) ≡ false)
    × (merge (o (codes "a") (o (codes "b") (n 1))) (o (codes "a") (o (codes "c") (n 2))) ≡ o (codes "a") (oo (codes "b") (n 1) (codes "c") (n 2)))
    × (merge (o (codes "a") (o (codes "b") (n 1))) (o (codes "a") (literal_of (o (codes "c") (n 2)))) ≡ o (codes "a") (o (codes "c") (n 2)))
    × (merge (oo (codes "a") (n 1) (codes "b") (n 2)) (oo (codes "a") no_literal (codes "c") (o (codes "d") no_literal)) ≡ oo (codes "b") (n 2) (codes "c") (object_of []))
    × (get_field (codes "a") (a (o (codes "a") (n 1) ∷ null ∷ object_of [] ∷ a (o (codes "a") (n 2) ∷ []) ∷ [])) ≡ Ok (a (n 1 ∷ a (n 2 ∷ []) ∷ [])))

abbrev pub Calls : Type 0
Calls =
    (reduce_all (λ u v. Ok u) [] ≡ Err nothing_to_aggregate)
    × (total Max (λ v. Ok v) [] ≡ Err nothing_to_aggregate)
    × (total Sum (get_field (codes "n")) (o (codes "n") (n 1) ∷ object_of [] ∷ o (codes "n") null ∷ o (codes "n") (n 3) ∷ []) ≡ Ok (n 4))
    × (total Avg (λ v. Ok v) (n 1 ∷ n 3 ∷ []) ≡ Ok (n 2))
    × (total Min (get_field (codes "n")) (o (codes "n") (n 2) ∷ oo (codes "m") (n 0) (codes "n") (n 1) ∷ o (codes "n") (n 1) ∷ []) ≡ Ok (oo (codes "m") (n 0) (codes "n") (n 1)))
    × (order_all (λ i v. get_field (codes "n") v) (true ∷ []) (o (codes "n") (n 1) ∷ object_of [] ∷ o (codes "n") (n 2) ∷ []) ≡ Ok (o (codes "n") (n 2) ∷ o (codes "n") (n 1) ∷ object_of [] ∷ []))
    × (group_all (get_field (codes "n")) (o (codes "n") (n 1) ∷ object_of [] ∷ o (codes "n") (n 1) ∷ []) ≡ Ok ((null, a (object_of [] ∷ [])) ∷ (n 1, a (o (codes "n") (n 1) ∷ o (codes "n") (n 1) ∷ [])) ∷ []))
    × (join_all true (λ l r. Ok (boolean false)) (n 1 ∷ []) (n 2 ∷ []) ≡ Ok (o (codes "left") (n 1) ∷ []))
    × (zip_all (o (codes "left") (n 1) ∷ []) ≡ Ok (n 1 ∷ []))
    × (uuid 5 ≡ text (codes "00000000-0000-0000-0000-000000000005"))
    × (database_id 0 ≡ text (codes "00000000-0000-0001-0000-000000000000"))
