-- Lists of patterns that name the same parts of a field, and of all fields.
use Rattle.std.proofs.Common.{◌≡◌, List, [], ◌∷◌, Bool, true, false, cond, Option, Some, None, refl, sym, ap, ◌∙◌}
use Rattle.reql_memory.proofs.Finds.{is_equal}
use Rattle.reql_datum.specs.Members.{AreRising, text_order, find}
use Rattle.reql_datum.specs.Plain.{Plain, low, array, boolean, null, number, object, binary, time, text, high, Plains, no_items, item, Pairs, no_pairs, pair, pairs_of}
use Rattle.reql_datum.proofs.Members.{not_later, rising_rest}
use Rattle.reql_datum.proofs.Finds.{equal_texts}
use Rattle.reql_rules.specs.Lists.{Bytes, object_of}
use Rattle.reql_rules.specs.Patterns.{Part, nothing, whole, inside, both, part_of_pairs, part_of_all, field_part, kept, left, pair_also, item_also, unless_literal, literal_or, pluck_in, pluck_items, pluck_pairs, without_in, without_items, without_pairs}
use Rattle.reql_rules.specs.Types.{same_text}
use Rattle.reql_path.specs.Normal.{Alike, member_part, item_kept, item_left}
use Rattle.reql_path.proofs.Gathered.{both_nothing}

pub items_kept : (v : Plain) (vs : Plains) (ps : List Plain) → pluck_items (item v vs) ps ≡ item_also (item_kept v ps) (pluck_items vs ps)
items_kept low vs ps = refl
items_kept (array us) vs ps = refl
items_kept (boolean b) vs ps = refl
items_kept null vs ps = refl
items_kept (number n) vs ps = refl
items_kept (object ms) vs ps = refl
items_kept (binary s) vs ps = refl
items_kept (time t) vs ps = refl
items_kept (text s) vs ps = refl
items_kept high vs ps = refl

pub items_left : (v : Plain) (vs : Plains) (ps : List Plain) → without_items (item v vs) ps ≡ item (item_left v ps) (without_items vs ps)
items_left low vs ps = refl
items_left (array us) vs ps = refl
items_left (boolean b) vs ps = refl
items_left null vs ps = refl
items_left (number n) vs ps = refl
items_left (object ms) vs ps = refl
items_left (binary s) vs ps = refl
items_left (time t) vs ps = refl
items_left (text s) vs ps = refl
items_left high vs ps = refl

module _ (ps qs : List Plain) (alike : Alike ps qs) where
  item_same : (v : Plain) → item_kept v ps ≡ item_kept v qs
  item_same low = refl
  item_same (array us) = refl
  item_same (boolean b) = refl
  item_same null = refl
  item_same (number n) = refl
  item_same (object ms) = ap (unless_literal ms) (alike.plucked ms)
  item_same (binary s) = refl
  item_same (time t) = refl
  item_same (text s) = refl
  item_same high = refl

  left_same : (v : Plain) → item_left v ps ≡ item_left v qs
  left_same low = refl
  left_same (array us) = refl
  left_same (boolean b) = refl
  left_same null = refl
  left_same (number n) = refl
  left_same (object ms) = ap (literal_or ms) (alike.left ms)
  left_same (binary s) = refl
  left_same (time t) = refl
  left_same (text s) = refl
  left_same high = refl

  plucked_items : (vs : Plains) → pluck_items vs ps ≡ pluck_items vs qs
  plucked_items no_items = refl
  plucked_items (item v vs) = items_kept v vs ps ∙ (λ i. item_also (item_same v i) (plucked_items vs i)) ∙ sym (items_kept v vs qs)

  left_items : (vs : Plains) → without_items vs ps ≡ without_items vs qs
  left_items no_items = refl
  left_items (item v vs) = items_left v vs ps ∙ (λ i. item (left_same v i) (left_items vs i)) ∙ sym (items_left v vs qs)

  pub plucked_in : (v : Plain) → pluck_in v ps ≡ pluck_in v qs
  plucked_in low = refl
  plucked_in (array us) = ap (λ t. Some (array t)) (plucked_items us)
  plucked_in (boolean b) = refl
  plucked_in null = refl
  plucked_in (number n) = refl
  plucked_in (object ms) = ap (unless_literal ms) (alike.plucked ms)
  plucked_in (binary s) = refl
  plucked_in (time t) = refl
  plucked_in (text s) = refl
  plucked_in high = refl

  pub left_in : (v : Plain) → without_in v ps ≡ without_in v qs
  left_in low = refl
  left_in (array us) = ap array (left_items us)
  left_in (boolean b) = refl
  left_in null = refl
  left_in (number n) = refl
  left_in (object ms) = ap (literal_or ms) (alike.left ms)
  left_in (binary s) = refl
  left_in (time t) = refl
  left_in (text s) = refl
  left_in high = refl

-- ---- parts that name the same of a field
abbrev pub PartsAlike : Part → Part → Type 0
PartsAlike nothing nothing = Unit {0}
PartsAlike nothing whole = ⊥
PartsAlike nothing (inside qs) = ⊥
PartsAlike whole nothing = ⊥
PartsAlike whole whole = Unit {0}
PartsAlike whole (inside qs) = ⊥
PartsAlike (inside ps) nothing = ⊥
PartsAlike (inside ps) whole = ⊥
PartsAlike (inside ps) (inside qs) = Alike ps qs

kept_same : (v : Plain) (p q : Part) → PartsAlike p q → kept v (pluck_in v) p ≡ kept v (pluck_in v) q
kept_same v nothing nothing h = refl
kept_same v nothing whole h = absurd h
kept_same v nothing (inside qs) h = absurd h
kept_same v whole nothing h = absurd h
kept_same v whole whole h = refl
kept_same v whole (inside qs) h = absurd h
kept_same v (inside ps) nothing h = absurd h
kept_same v (inside ps) whole h = absurd h
kept_same v (inside ps) (inside qs) h = plucked_in ps qs h v

left_as : (v : Plain) (p q : Part) → PartsAlike p q → left v (without_in v) p ≡ left v (without_in v) q
left_as v nothing nothing h = refl
left_as v nothing whole h = absurd h
left_as v nothing (inside qs) h = absurd h
left_as v whole nothing h = absurd h
left_as v whole whole h = refl
left_as v whole (inside qs) h = absurd h
left_as v (inside ps) nothing h = absurd h
left_as v (inside ps) whole h = absurd h
left_as v (inside ps) (inside qs) h = ap Some (left_in ps qs h v)

module _ (ps qs : List Plain) (parts : (k : Bytes) → PartsAlike (part_of_all k ps) (part_of_all k qs)) where
  plucked_pairs : (ms : Pairs) → pluck_pairs ms ps ≡ pluck_pairs ms qs
  plucked_pairs no_pairs = refl
  plucked_pairs (pair k v ms) = λ i. pair_also k (kept_same v (part_of_all k ps) (part_of_all k qs) (parts k) i) (plucked_pairs ms i)

  left_pairs : (ms : Pairs) → without_pairs ms ps ≡ without_pairs ms qs
  left_pairs no_pairs = refl
  left_pairs (pair k v ms) = λ i. pair_also k (left_as v (part_of_all k ps) (part_of_all k qs) (parts k) i) (left_pairs ms i)

  pub alike_parts : Alike ps qs
  alike_parts = record { plucked = plucked_pairs; left = left_pairs }

-- ---- what an object names that rises by its names
abbrev pub member_there : Option Plain → Part
member_there None = nothing
member_there (Some v) = member_part v

field_at : (b : Bool) (k j : Bytes) (v : Plain) (rest : Part) (found : Option Plain) → same_text k j ≡ b → rest ≡ member_there found → (b ≡ true → found ≡ None) → both (field_part k j v) rest ≡ member_there (cond b (Some v) found)
field_at true k j v rest found here e none = rw here (ap (both (member_part v)) (e ∙ ap member_there (none refl)) ∙ both_nothing (member_part v))
field_at false k j v rest found here e none = rw here e

none_later : (k j : Bytes) (v : Plain) (ms : List (Bytes × Plain)) → AreRising ((j, v) ∷ ms) → same_text k j ≡ true → find k ms ≡ None
none_later k j v ms up here = let e : k ≡ j = equal_texts k j (is_equal (text_order k j) here) in rw e (not_later j v ms up)

pub part_found : (k : Bytes) (ms : List (Bytes × Plain)) → AreRising ms → part_of_pairs k (pairs_of ms) ≡ member_there (find k ms)
part_found k [] up = refl
part_found k (m ∷ ms) up =
    field_at (same_text k m.0) k m.0 m.1 (part_of_pairs k (pairs_of ms)) (find k ms) refl (part_found k ms (rising_rest m ms up)) (none_later k m.0 m.1 ms up)

pub object_part : (k : Bytes) (ms : List (Bytes × Plain)) → part_of_all k (object_of ms ∷ []) ≡ part_of_pairs k (pairs_of ms)
object_part k ms = both_nothing (part_of_pairs k (pairs_of ms))
