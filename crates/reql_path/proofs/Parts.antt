-- An object and what a pattern names, walked side by side.
use Rattle.std.proofs.Common.{◌≡◌, List, [], ◌∷◌, ◌++◌, Bool, true, false, ◌||◌, Option, Some, None, Less, Equal, Greater, refl, sym, ap, ◌∙◌, append-nil, append_assoc}
use Rattle.std.specs.List.{AllByRecursion}
use Rattle.std.specs.List.Sorted.{IsStrictlySortedBy}
use Rattle.std.specs.Map.{keys_of}
use Rattle.std.specs.Ordering.{ordering_reverse}
use Rattle.std.proofs.lemmas.Cmp.{nat_list_cmp_total, tied_itself}
use Rattle.reql_datum.specs.Members.{AreRising, text_order}
use Rattle.reql_datum.specs.Plain.{Plain, object, Plains, item, items_of, pairs_of, listed}
use Rattle.reql_datum.proofs.Back.{items_back}
use Rattle.reql_datum.proofs.Members.{rising_rest}
use Rattle.reql_datum.proofs.Finds.{equal_texts}
use Rattle.reql_rules.specs.Lists.{Bytes, object_of, array_of}
use Rattle.reql_rules.specs.Patterns.{is_true, Part, nothing, whole, inside, both, part_of_pairs, part_of_items, part_of_all, kept, left, pair_also, item_also, pluck_in, pluck_items, pluck_pairs, without_in, without_items, without_pairs, pluck, without}
use Rattle.reql_path.specs.Building.{put_also, member_also, push_also}
use Rattle.reql_path.specs.Normal.{is_normal, are_normal, member_part, Alike, IsCompiled, item_kept, item_left}
use Rattle.reql_path.proofs.Resolved.{put_also_step, both_left, both_right, all_also, rising_also, also_is}
use Rattle.reql_path.proofs.Merged.{AllAbove, above_rest, above_next, flipped}
use Rattle.reql_path.proofs.Gathered.{both_nothing}
use Rattle.reql_path.proofs.Alike.{object_part, alike_parts, PartsAlike, items_kept, items_left}

-- ---- a value of the one form
-- what isn't an object is true
pub true_part : (v : Plain) → (is_true v || is_normal v) ≡ true → is_normal v ≡ false → member_part v ≡ whole
true_part v h off = at (is_true v) refl
  where
    at : (b : Bool) → is_true v ≡ b → member_part v ≡ whole
    at true is = rw is refl
    at false is = cc

-- ---- what an object of patterns names of a name
abbrev pub named : List (Bytes × Plain) → Bytes → Part
named ps k = part_of_all k (object_of ps ∷ [])

named_pairs : (ps : List (Bytes × Plain)) (k : Bytes) → named ps k ≡ part_of_pairs k (pairs_of ps)
named_pairs ps k = object_part k ps

above_nothing : (k : Bytes) (ps : List (Bytes × Plain)) → AllAbove k ps → part_of_pairs k (pairs_of ps) ≡ nothing
above_nothing k [] all = refl
above_nothing k (p ∷ ps) all = rw (all.0) (above_nothing k ps all.1)

-- a name below all that are named
pub named_above : (k : Bytes) (ps : List (Bytes × Plain)) → AllAbove k ps → named ps k ≡ nothing
named_above k ps all = named_pairs ps k ∙ above_nothing k ps all

-- the first that is named
pub named_first : (k : Bytes) (v : Plain) (ps : List (Bytes × Plain)) → AllAbove k ps → named ((k, v) ∷ ps) k ≡ member_part v
named_first k v ps all =
    named_pairs ((k, v) ∷ ps) k
    ∙ (rw (tied_itself nat_list_cmp_total k) (ap (both (member_part v)) (above_nothing k ps all) ∙ both_nothing (member_part v)))

-- a name above the first that is named
named_past : (j k : Bytes) (v : Plain) (ps : List (Bytes × Plain)) → text_order j k ≡ Less → named ((j, v) ∷ ps) k ≡ named ps k
named_past j k v ps below =
    named_pairs ((j, v) ∷ ps) k ∙ (rw (flipped j k below) refl) ∙ sym (named_pairs ps k)

named_none : (k : Bytes) → named [] k ≡ nothing
named_none k = refl

-- ---- an object of which each field is kept by its part
module _ (keeps : Plain → Part → Option Plain) where
  abbrev pub by_parts : List (Bytes × Plain) → List (Bytes × Plain) → List (Bytes × Plain)
  by_parts [] ps = []
  by_parts (m ∷ ms) ps = member_also m.0 (keeps m.1 (named ps m.0)) (by_parts ms ps)

  all_parts : (P : Bytes → Type 0) (ms ps : List (Bytes × Plain)) → AllByRecursion P (keys_of ms) → AllByRecursion P (keys_of (by_parts ms ps))
  all_parts P [] ps all = tt
  all_parts P (m ∷ ms) ps all = all_also P m.0 (keeps m.1 (named ps m.0)) (by_parts ms ps) all.0 (all_parts P ms ps all.1)

  rising_parts : (ms ps : List (Bytes × Plain)) → AreRising ms → AreRising (by_parts ms ps)
  unfolding IsStrictlySortedBy
  rising_parts [] ps up = tt
  rising_parts (m ∷ ms) ps up = rising_also m.0 (keeps m.1 (named ps m.0)) (by_parts ms ps) (all_parts (λ y. text_order m.0 y ≡ Less) ms ps up.0) (rising_parts ms ps up.1)

  -- the first that is named says nothing of names above it
  parts_past : (j : Bytes) (v : Plain) (ms ps : List (Bytes × Plain)) → AllAbove j ms → by_parts ms ((j, v) ∷ ps) ≡ by_parts ms ps
  parts_past j v [] ps all = refl
  parts_past j v (m ∷ ms) ps all = λ i. member_also m.0 (keeps m.1 (named_past j m.0 v ps all.0 i)) (parts_past j v ms ps all.1 i)

  -- what was walked, and what is left to be walked, is all
  pub record Parted (done ms ps all : List (Bytes × Plain)) : Type 0 where
    pub adds_up : done ++ by_parts ms ps ≡ all
    pub rising_fields : AreRising ms
    pub rising_parts : AreRising ps
    pub rising_all : AreRising all
    pub normal : are_normal (pairs_of ps) ≡ true

  pub parted_start : (ms ps : List (Bytes × Plain)) → AreRising ms → AreRising ps → are_normal (pairs_of ps) ≡ true → Parted [] ms ps (by_parts ms ps)
  parted_start ms ps up on ok = record { adds_up = refl; rising_fields = up; rising_parts = on; rising_all = rising_parts ms ps up; normal = ok }

  -- a field that isn't named
  pub parted_less : (done ms ps all rest later : List (Bytes × Plain)) (j k : Bytes) (u v : Plain) (o : Option Plain) → ms ≡ (j, u) ∷ rest → ps ≡ (k, v) ∷ later → text_order j k ≡ Less → o ≡ keeps u nothing
      → Parted done ms ps all → Parted (put_also j o done) rest ps all
  parted_less done ms ps all rest later j k u v o is at below e m =
      let up : AreRising ((j, u) ∷ rest) = rw is at m.rising_fields in
      let on : AreRising ((k, v) ∷ later) = rw at at m.rising_parts in
      let none : named ps j ≡ nothing = rw at (named_above j ((k, v) ∷ later) (above_next j (k, v) later below on)) in
      let next : by_parts ms ps ≡ member_also j o (by_parts rest ps) = rw (is, e, none) refl in
      record {
        adds_up = put_also_step done (by_parts rest ps) all j o m.rising_all (ap (λ t. done ++ t) (sym next) ∙ m.adds_up);
        rising_fields = rising_rest (j, u) rest up;
        rising_parts = m.rising_parts;
        rising_all = m.rising_all;
        normal = m.normal;
      }

  -- what is named and isn't there
  pub parted_greater : (done ms ps all rest later : List (Bytes × Plain)) (j k : Bytes) (u v : Plain) → ms ≡ (j, u) ∷ rest → ps ≡ (k, v) ∷ later → text_order j k ≡ Greater
      → Parted done ms ps all → Parted done ms later all
  parted_greater done ms ps all rest later j k u v is at above m =
      let up : AreRising ((j, u) ∷ rest) = rw is at m.rising_fields in
      let on : AreRising ((k, v) ∷ later) = rw at at m.rising_parts in
      let below : text_order k j ≡ Less = nat_list_cmp_total.antisymm k j ∙ ap ordering_reverse above in
      let past : by_parts ((j, u) ∷ rest) ((k, v) ∷ later) ≡ by_parts ((j, u) ∷ rest) later = parts_past k v ((j, u) ∷ rest) later (above_next k (j, u) rest below up) in
      let same : by_parts ms ps ≡ by_parts ms later = rw (is, at) past in
      let ok : are_normal (pairs_of ((k, v) ∷ later)) ≡ true = rw at at m.normal in
      record {
        adds_up = ap (λ t. done ++ t) (sym same) ∙ m.adds_up;
        rising_fields = m.rising_fields;
        rising_parts = rising_rest (k, v) later on;
        rising_all = m.rising_all;
        normal = both_right (is_true v || is_normal v) (are_normal (pairs_of later)) ok;
      }

  -- a field that is named
  pub parted_equal : (done ms ps all rest later : List (Bytes × Plain)) (j k : Bytes) (u v : Plain) (o : Option Plain) → ms ≡ (j, u) ∷ rest → ps ≡ (k, v) ∷ later → text_order j k ≡ Equal → o ≡ keeps u (member_part v)
      → Parted done ms ps all → Parted (put_also j o done) rest later all
  parted_equal done ms ps all rest later j k u v o is at equal e m =
      let same : j ≡ k = equal_texts j k equal in
      let named_is : ps ≡ (j, v) ∷ later = at ∙ ap (λ n. (n, v) ∷ later) (sym same) in
      let up : AreRising ((j, u) ∷ rest) = rw is at m.rising_fields in
      let on : AreRising ((j, v) ∷ later) = rw named_is at m.rising_parts in
      let ok : are_normal (pairs_of ((j, v) ∷ later)) ≡ true = rw named_is at m.normal in
      let here : named ps j ≡ member_part v = rw named_is (named_first j v later (above_rest (j, v) later on)) in
      let past : by_parts rest ((j, v) ∷ later) ≡ by_parts rest later = parts_past j v rest later (above_rest (j, u) rest up) in
      let first : by_parts ms ps ≡ member_also j o (by_parts rest ps) = rw (is, e, here) refl in
      let next : by_parts ms ps ≡ member_also j o (by_parts rest later) = first ∙ ap (λ t. member_also j o (by_parts rest t)) named_is ∙ ap (member_also j o) past in
      record {
        adds_up = put_also_step done (by_parts rest later) all j o m.rising_all (ap (λ t. done ++ t) (sym next) ∙ m.adds_up);
        rising_fields = rising_rest (j, u) rest up;
        rising_parts = rising_rest (j, v) later on;
        rising_all = m.rising_all;
        normal = both_right (is_true v || is_normal v) (are_normal (pairs_of later)) ok;
      }

  -- the value of the first that is named is of the one form
  pub parted_member : (done ms ps all later : List (Bytes × Plain)) (k : Bytes) (v : Plain) → ps ≡ (k, v) ∷ later → Parted done ms ps all → (is_true v || is_normal v) ≡ true
  parted_member done ms ps all later k v at m =
      let ok : are_normal (pairs_of ((k, v) ∷ later)) ≡ true = rw at at m.normal in
      both_left (is_true v || is_normal v) (are_normal (pairs_of later)) ok

  -- nothing more is named
  pub parted_rest : (done ms ps all rest : List (Bytes × Plain)) (j : Bytes) (u : Plain) (o : Option Plain) → ms ≡ (j, u) ∷ rest → ps ≡ [] → o ≡ keeps u nothing → Parted done ms ps all → Parted (put_also j o done) rest ps all
  parted_rest done ms ps all rest j u o is at e m =
      let up : AreRising ((j, u) ∷ rest) = rw is at m.rising_fields in
      let next : by_parts ms ps ≡ member_also j o (by_parts rest ps) = rw (is, at, e) refl in
      record {
        adds_up = put_also_step done (by_parts rest ps) all j o m.rising_all (ap (λ t. done ++ t) (sym next) ∙ m.adds_up);
        rising_fields = rising_rest (j, u) rest up;
        rising_parts = m.rising_parts;
        rising_all = m.rising_all;
        normal = m.normal;
      }

  pub parted_end : (done ms ps all : List (Bytes × Plain)) → ms ≡ [] → Parted done ms ps all → done ≡ all
  parted_end done ms ps all is m = sym (append-nil done) ∙ ap (λ t. done ++ by_parts t ps) (sym is) ∙ m.adds_up

-- ---- what PLUCK keeps
abbrev pub keeps : Plain → Part → Option Plain
keeps v p = kept v (pluck_in v) p

pub plucked_is : (ms ps : List (Bytes × Plain)) → pairs_of (by_parts keeps ms ps) ≡ pluck_pairs (pairs_of ms) (object_of ps ∷ [])
plucked_is [] ps = refl
plucked_is (m ∷ ms) ps = also_is m.0 (keeps m.1 (named ps m.0)) (by_parts keeps ms ps) ∙ ap (pair_also m.0 (keeps m.1 (named ps m.0))) (plucked_is ms ps)

none_kept : (ms : List (Bytes × Plain)) → by_parts keeps ms [] ≡ []
none_kept [] = refl
none_kept (m ∷ ms) = none_kept ms

pub plucked_end : (done ms all : List (Bytes × Plain)) (ps : List (Bytes × Plain)) → ps ≡ [] → Parted keeps done ms ps all → done ≡ all
plucked_end done ms all ps is m = sym (append-nil done) ∙ ap (λ t. done ++ t) (sym (none_kept ms)) ∙ ap (λ t. done ++ by_parts keeps ms t) (sym is) ∙ m.adds_up

kept_next : (o : Option Plain) (done : List Plain) (vs : Plains) (all : List Plain) → done ++ listed (item_also o vs) ≡ all → push_also o done ++ listed vs ≡ all
kept_next None done vs all e = e
kept_next (Some v) done vs all e = append_assoc done (v ∷ []) (listed vs) ∙ e

pub items_next : (done us rest ps all : List Plain) (v : Plain) (o : Option Plain) → us ≡ v ∷ rest → o ≡ item_kept v ps → done ++ listed (pluck_items (items_of us) ps) ≡ all → push_also o done ++ listed (pluck_items (items_of rest) ps) ≡ all
items_next done us rest ps all v o is e h =
    let first : pluck_items (items_of us) ps ≡ item_also o (pluck_items (items_of rest) ps) = rw (is, e) (items_kept v (items_of rest) ps) in
    kept_next o done (pluck_items (items_of rest) ps) all (ap (λ t. done ++ listed t) (sym first) ∙ h)

pub items_end : (done us ps : List Plain) (all : Plains) → us ≡ [] → done ++ listed (pluck_items (items_of us) ps) ≡ listed all → items_of done ≡ all
items_end done us ps all is h =
    let e : done ≡ listed all = sym (append-nil done) ∙ ap (λ t. done ++ listed (pluck_items (items_of t) ps)) (sym is) ∙ h in
    ap items_of e ∙ items_back all

-- ---- what WITHOUT leaves
abbrev pub leaves : Plain → Part → Option Plain
leaves v p = left v (without_in v) p

pub left_is : (ms ps : List (Bytes × Plain)) → pairs_of (by_parts leaves ms ps) ≡ without_pairs (pairs_of ms) (object_of ps ∷ [])
left_is [] ps = refl
left_is (m ∷ ms) ps = also_is m.0 (leaves m.1 (named ps m.0)) (by_parts leaves ms ps) ∙ ap (pair_also m.0 (leaves m.1 (named ps m.0))) (left_is ms ps)

pub rest_next : (done us rest ps all : List Plain) (v w : Plain) → us ≡ v ∷ rest → w ≡ item_left v ps → done ++ listed (without_items (items_of us) ps) ≡ all → (done ++ w ∷ []) ++ listed (without_items (items_of rest) ps) ≡ all
rest_next done us rest ps all v w is e h =
    let first : without_items (items_of us) ps ≡ item w (without_items (items_of rest) ps) = rw (is, e) (items_left v (items_of rest) ps) in
    append_assoc done (w ∷ []) (listed (without_items (items_of rest) ps)) ∙ ap (λ t. done ++ listed t) (sym first) ∙ h

pub rest_end : (done us ps : List Plain) (all : Plains) → us ≡ [] → done ++ listed (without_items (items_of us) ps) ≡ listed all → items_of done ≡ all
rest_end done us ps all is h =
    let e : done ≡ listed all = sym (append-nil done) ∙ ap (λ t. done ++ listed (without_items (items_of t) ps)) (sym is) ∙ h in
    ap items_of e ∙ items_back all

-- ---- a pattern that is an array, and its items
array_alike : (p : Part) → PartsAlike (both p nothing) p
array_alike nothing = tt
array_alike whole = tt
array_alike (inside ps) = record { plucked = λ ms. refl; left = λ ms. refl }

pub several_alike : (ps : List Plain) → Alike (array_of ps ∷ []) ps
several_alike ps = alike_parts (array_of ps ∷ []) ps (λ k. array_alike (part_of_items k (items_of ps)))

-- ---- what the calls answer
pub plucks_one : (p : Plain) (qs ms r : List (Bytes × Plain)) → IsCompiled p qs → pairs_of r ≡ pluck_pairs (pairs_of ms) (object_of qs ∷ []) → object_of r ≡ pluck (p ∷ []) (object_of ms)
plucks_one p qs ms r c h = ap object (h ∙ sym (c.compiles.alike.plucked (pairs_of ms)))

pub plucks_several : (p : Plain) (qs ms r : List (Bytes × Plain)) (ps : List Plain) → p ≡ array_of ps → IsCompiled p qs → pairs_of r ≡ pluck_pairs (pairs_of ms) (object_of qs ∷ []) → object_of r ≡ pluck ps (object_of ms)
plucks_several p qs ms r ps is c h =
    plucks_one p qs ms r c h ∙ ap (λ t. pluck (t ∷ []) (object_of ms)) is ∙ ap object ((several_alike ps).plucked (pairs_of ms))

pub leaves_one : (p : Plain) (qs ms r : List (Bytes × Plain)) → IsCompiled p qs → pairs_of r ≡ without_pairs (pairs_of ms) (object_of qs ∷ []) → object_of r ≡ without (p ∷ []) (object_of ms)
leaves_one p qs ms r c h = ap object (h ∙ sym (c.compiles.alike.left (pairs_of ms)))

pub leaves_several : (p : Plain) (qs ms r : List (Bytes × Plain)) (ps : List Plain) → p ≡ array_of ps → IsCompiled p qs → pairs_of r ≡ without_pairs (pairs_of ms) (object_of qs ∷ []) → object_of r ≡ without ps (object_of ms)
leaves_several p qs ms r ps is c h =
    leaves_one p qs ms r c h ∙ ap (λ t. without (t ∷ []) (object_of ms)) is ∙ ap object ((several_alike ps).left (pairs_of ms))

pub ruleset named_parts = (true_part)
