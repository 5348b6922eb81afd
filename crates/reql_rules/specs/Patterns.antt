-- HAS_FIELDS, PLUCK and WITHOUT (ReQL API reference: hasFields, pluck, without) by field patterns: texts, objects of patterns or true, and
-- arrays of patterns.
use Rattle.std.specs.Prelude.{List, [], ◌∷◌, ◌++◌, Bool, true, false, not, ◌&&◌, ◌||◌, if◌then◌else◌, Option, Some, None, Ok, Err}
use Rattle.reql_datum.specs.Answer.{Answer}
use Rattle.reql_datum.specs.Members.{find}
use Rattle.reql_datum.specs.Kinds.{is_literal}
use Rattle.reql_datum.specs.Plain.{Plain, array, boolean, object, text, Plains, no_items, item, Pairs, no_pairs, pair}
use Rattle.reql_rules.specs.Lists.{Bytes, array_of}
use Rattle.reql_rules.specs.Faults.{bad_pattern}
use Rattle.reql_rules.specs.Types.{is_null, object_in, same_text}

abbrev pub is_true : Plain → Bool
is_true (boolean b) = b
is_true v = false

abbrev mutual
  pub is_pattern : Plain → Bool
  is_pattern (text s) = true
  is_pattern (array vs) = are_patterns vs
  is_pattern (object ms) = not (is_literal ms) && are_field_patterns ms
  is_pattern v = false

  pub are_patterns : Plains → Bool
  are_patterns no_items = true
  are_patterns (item v vs) = is_pattern v && are_patterns vs

  pub are_field_patterns : Pairs → Bool
  are_field_patterns no_pairs = true
  are_field_patterns (pair k v ms) = (is_true v || is_pattern v) && are_field_patterns ms

abbrev pub as_pattern : Plain → Answer Plain
as_pattern p = if is_pattern p then Ok p else Err bad_pattern

module _ {A : Type 0} where
  -- whether something is there, and passes a test
  abbrev pub holds : (A → Bool) → Option A → Bool
  holds test None = false
  holds test (Some x) = test x

-- whether a value is there that isn't null, or an object whose members pass a test
abbrev pub is_there : Option Plain → Bool
is_there v = holds (λ u. not (is_null u)) v

abbrev pub holds_inside : (List (Bytes × Plain) → Bool) → Option Plain → Bool
holds_inside test v = holds (λ u. holds test (object_in u)) v

-- whether all that a pattern names is there and isn't null
abbrev mutual
  pub has : Plain → List (Bytes × Plain) → Bool
  has (text k) = λ ms. is_there (find k ms)
  has (array ps) = has_all ps
  has (object qs) = has_each qs
  has p = λ ms. false

  pub has_all : Plains → List (Bytes × Plain) → Bool
  has_all no_items = λ ms. true
  has_all (item p ps) = λ ms. has p ms && has_all ps ms

  pub has_each : Pairs → List (Bytes × Plain) → Bool
  has_each no_pairs = λ ms. true
  has_each (pair k p qs) = λ ms. (if is_true p then is_there (find k ms) else holds_inside (has p) (find k ms)) && has_each qs ms

-- several patterns are as the array of them
abbrev pub has_fields : List Plain → List (Bytes × Plain) → Bool
has_fields ps ms = has (array_of ps) ms

-- what patterns name of a field: nothing, the whole of it, or what these patterns name inside it
pub data Part : Type 0 where
  nothing : Part
  whole : Part
  inside : List Plain → Part

abbrev pub inside_more : List Plain → Part → Part
inside_more ps nothing = inside ps
inside_more ps whole = whole
inside_more ps (inside qs) = inside (ps ++ qs)

abbrev pub both : Part → Part → Part
both nothing q = q
both whole q = whole
both (inside ps) q = inside_more ps q

abbrev pub field_part : Bytes → Bytes → Plain → Part
field_part k j p = if same_text k j then (if is_true p then whole else inside (p ∷ [])) else nothing

abbrev mutual
  pub part : Bytes → Plain → Part
  part k (text j) = if same_text k j then whole else nothing
  part k (array ps) = part_of_items k ps
  part k (object qs) = part_of_pairs k qs
  part k p = nothing

  pub part_of_items : Bytes → Plains → Part
  part_of_items k no_items = nothing
  part_of_items k (item p ps) = both (part k p) (part_of_items k ps)

  pub part_of_pairs : Bytes → Pairs → Part
  part_of_pairs k no_pairs = nothing
  part_of_pairs k (pair j p qs) = both (field_part k j p) (part_of_pairs k qs)

abbrev pub part_of_all : Bytes → List Plain → Part
part_of_all k ps = part k (array_of ps)

-- what is kept of a field, given what is kept inside it
abbrev pub kept : Plain → (List Plain → Option Plain) → Part → Option Plain
kept v within nothing = None
kept v within whole = Some v
kept v within (inside ps) = within ps

abbrev pub pair_also : Bytes → Option Plain → Pairs → Pairs
pair_also k None ms = ms
pair_also k (Some v) ms = pair k v ms

abbrev pub item_also : Option Plain → Plains → Plains
item_also None vs = vs
item_also (Some v) vs = item v vs

abbrev pub unless_literal : Pairs → Pairs → Option Plain
unless_literal ms kept = if is_literal ms then None else Some (object kept)

-- the parts of an object that patterns name; of an array inside it, those of its objects
abbrev mutual
  pub pluck_in : Plain → List Plain → Option Plain
  pluck_in (object ms) ps = unless_literal ms (pluck_pairs ms ps)
  pluck_in (array vs) ps = Some (array (pluck_items vs ps))
  pluck_in v ps = None

  pub pluck_items : Plains → List Plain → Plains
  pluck_items no_items ps = no_items
  pluck_items (item (object ms) vs) ps = item_also (unless_literal ms (pluck_pairs ms ps)) (pluck_items vs ps)
  pluck_items (item v vs) ps = pluck_items vs ps

  pub pluck_pairs : Pairs → List Plain → Pairs
  pluck_pairs no_pairs ps = no_pairs
  pluck_pairs (pair k v ms) ps = pair_also k (kept v (pluck_in v) (part_of_all k ps)) (pluck_pairs ms ps)

-- what is left of a field, given what is left inside it
abbrev pub left : Plain → (List Plain → Plain) → Part → Option Plain
left v within nothing = Some v
left v within whole = None
left v within (inside ps) = Some (within ps)

abbrev pub literal_or : Pairs → Pairs → Plain
literal_or ms left = if is_literal ms then object ms else object left

-- an object without the parts that patterns name; of an array inside it, its objects without them
abbrev mutual
  pub without_in : Plain → List Plain → Plain
  without_in (object ms) ps = literal_or ms (without_pairs ms ps)
  without_in (array vs) ps = array (without_items vs ps)
  without_in v ps = v

  pub without_items : Plains → List Plain → Plains
  without_items no_items ps = no_items
  without_items (item (object ms) vs) ps = item (literal_or ms (without_pairs ms ps)) (without_items vs ps)
  without_items (item v vs) ps = item v (without_items vs ps)

  pub without_pairs : Pairs → List Plain → Pairs
  without_pairs no_pairs ps = no_pairs
  without_pairs (pair k v ms) ps = pair_also k (left v (without_in v) (part_of_all k ps)) (without_pairs ms ps)

abbrev pub pluck : List Plain → Plain → Plain
pluck ps (object ms) = object (pluck_pairs ms ps)
pluck ps v = v

abbrev pub without : List Plain → Plain → Plain
without ps (object ms) = object (without_pairs ms ps)
without ps v = v
