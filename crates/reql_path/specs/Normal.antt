-- Patterns in one form: objects whose values are objects of that form, or true for a whole field.
use Rattle.std.specs.Prelude.{◌≡◌, List, [], ◌∷◌, Bool, true, false, ◌&&◌, ◌||◌, if◌then◌else◌, Option, None, option_map}
use Rattle.std.specs.Borrow.{Bor}
use Rattle.reql_datum.specs.declared.datum.Datum.{Datum}
use Rattle.reql_datum.specs.View.{plain}
use Rattle.reql_datum.specs.Plain.{Plain, object, Pairs, no_pairs, pair}
use Rattle.reql_rules.specs.Lists.{Bytes, array_of, object_of}
use Rattle.reql_rules.specs.Patterns.{is_true, is_pattern, Part, whole, inside, pluck_pairs, without_pairs, unless_literal, literal_or, pluck, without}

-- a document that may be there, behind a reference
abbrev pub seen : Option (Bor Datum) → Option Plain
seen d = option_map (λ r. plain r.now) d

-- what is so of the items where a value is their array
abbrev pub IfArray : Plain → (List Plain → Type 0) → Type 0
IfArray v P = (vs : List Plain) → v ≡ array_of vs → P vs

abbrev mutual
  pub is_normal : Plain → Bool
  is_normal (object ms) = are_normal ms
  is_normal v = false

  pub are_normal : Pairs → Bool
  are_normal no_pairs = true
  are_normal (pair k v ms) = (is_true v || is_normal v) && are_normal ms

-- what the value of an object's member names of its field
abbrev pub member_part : Plain → Part
member_part v = if is_true v then whole else inside (v ∷ [])

-- two lists of patterns that name the same parts of each object
pub record Alike (ps qs : List Plain) : Type 0 where
  pub plucked : (ms : Pairs) → pluck_pairs ms ps ≡ pluck_pairs ms qs
  pub left : (ms : Pairs) → without_pairs ms ps ≡ without_pairs ms qs

-- a pattern in the one form that names the same parts as a list of patterns
pub record Compiles (ps : List Plain) (v : Plain) : Type 0 where
  pub normal : is_normal v ≡ true
  pub alike : Alike ps (v ∷ [])

-- a pattern, and the object that names the same parts
pub record IsCompiled (p : Plain) (parts : List (Bytes × Plain)) : Type 0 where
  pub pattern : is_pattern p ≡ true
  pub compiles : Compiles (p ∷ []) (object_of parts)

-- what is kept, and what is left, of an item of an array that patterns go into
abbrev pub item_kept : Plain → List Plain → Option Plain
item_kept (object ms) ps = unless_literal ms (pluck_pairs ms ps)
item_kept v ps = None

abbrev pub item_left : Plain → List Plain → Plain
item_left (object ms) ps = literal_or ms (without_pairs ms ps)
item_left v ps = v

-- the object of these members as the one pattern of a list
abbrev pub one_of : List (Bytes × Plain) → List Plain
one_of ms = object_of ms ∷ []

-- r is what patterns name of an object, and the object without it
abbrev pub IsPlucked : List Plain → List (Bytes × Plain) → List (Bytes × Plain) → Type 0
IsPlucked ps ms r = object_of r ≡ pluck ps (object_of ms)

abbrev pub IsWithout : List Plain → List (Bytes × Plain) → List (Bytes × Plain) → Type 0
IsWithout ps ms r = object_of r ≡ without ps (object_of ms)
