-- COERCE_TO on plain values (ReQL API reference: coerceTo), but for JSON texts.
use Rattle.std.specs.Prelude.{ℕ, ◌+◌, ◌-◌, ◌*◌, ℤ, pos, neg_ℤ, nat_le, nat_eq, [], ◌∷◌, Bool, ◌&&◌, if◌then◌else◌, Option, Some, None, option_map, option_and_then, Ok, Err, codes}
use Rattle.std.specs.Str.{is_utf8}
use Rattle.reql_datum.specs.Answer.{Answer}
use Rattle.reql_datum.specs.Kinds.{type_name}
use Rattle.reql_datum.specs.Plain.{Plain, array, boolean, number, binary, text, no_items, item, listed}
use Rattle.reql_datum.specs.Whole.{is_in}
use Rattle.reql_rules.specs.Lists.{Bytes}
use Rattle.reql_rules.specs.Faults.{cannot_coerce}
use Rattle.reql_rules.specs.Types.{same_text, truth, object_in}
use Rattle.reql_rules.specs.Objects.{pairs, object_by}

module _ {A : Type 0} where
  abbrev pub refused : Bytes → Bytes → Answer A
  refused kind to = Err (cannot_coerce kind to)

  -- the value, or the fault that there is none of that type
  abbrev pub coerced : Bytes → Bytes → Option A → Answer A
  coerced kind to None = refused kind to
  coerced kind to (Some x) = Ok x

-- an array is itself, an object its pairs
abbrev pub array_in : Plain → Option Plain
array_in (array vs) = Some (array vs)
array_in v = option_map pairs (object_in v)

-- a pair of a text and a value
abbrev pub pair_in : Plain → Option (Bytes × Plain)
pair_in (array (item (text k) (item v no_items))) = Some (k, v)
pair_in v = None

-- pair by pair; a name twice, or the reserved one, is refused as in OBJECT
abbrev pub to_object : Bytes → Plain → Answer Plain
to_object kind (array vs) = object_by (λ v. coerced kind (codes "object") (pair_in v)) (listed vs)
to_object kind v = refused kind (codes "object")

abbrev pub string_in : Plain → Option Plain
string_in (text s) = Some (text s)
string_in (binary s) = if is_utf8 s then Some (text s) else None
string_in v = None

-- the number of some digits, after those before them
abbrev pub is_digit : ℕ → Bool
is_digit c = nat_le 48 c && nat_le c 57

abbrev pub digits_on : ℕ → Bytes → Option ℕ
digits_on n [] = Some n
digits_on n (c ∷ cs) = if is_digit c then digits_on (n * 10 + (c - 48)) cs else None

abbrev pub digits : Bytes → Option ℕ
digits [] = None
digits (c ∷ cs) = digits_on 0 (c ∷ cs)

-- an optional minus, and digits
abbrev pub signed : Bytes → Option ℤ
signed [] = None
signed (c ∷ cs) = if nat_eq c 45 then option_map (λ n. neg_ℤ (pos n)) (digits cs) else option_map pos (digits (c ∷ cs))

abbrev pub in_range : ℤ → Option Plain
in_range n = if is_in n then Some (number n) else None

abbrev pub whole_in : Plain → Option Plain
whole_in (number n) = Some (number n)
whole_in (text s) = option_and_then in_range (signed s)
whole_in v = None

abbrev pub binary_in : Plain → Option Plain
binary_in (binary s) = Some (binary s)
binary_in (text s) = Some (binary s)
binary_in v = None

-- a value of a type of this name to a target; that its kind is named apart serves the row of a GET
abbrev pub coerce_named : Bytes → Plain → Bytes → Answer Plain
coerce_named kind v to =
    if same_text to (codes "array") then coerced kind to (array_in v) else (
    if same_text to (codes "object") then to_object kind v else (
    if same_text to (codes "string") then coerced kind to (string_in v) else (
    if same_text to (codes "number") then coerced kind to (whole_in v) else (
    if same_text to (codes "bool") then Ok (boolean (truth v)) else (
    if same_text to (codes "binary") then coerced kind to (binary_in v) else
    refused kind to)))))

abbrev pub coerce : Plain → Bytes → Answer Plain
coerce v to = coerce_named (type_name v) v to
