-- What is tested of a shape is what makes it one, and every feed follows what it keeps.
use Rattle.std.proofs.Common.{◌≡◌, ℕ, List, [], ◌∷◌, Bool, true, false, ◌&&◌, ◌||◌, if◌then◌else◌, refl, ◌⊎◌, inl, inr}
use Rattle.reql_datum.specs.Order.{order}
use Rattle.reql_datum.specs.Plain.{Plain}
use Rattle.reql_memory.specs.Sorted.{AreRisingBy}
use Rattle.reql_rules.specs.Lists.{Bytes}
use Rattle.reql_term.specs.Form.{Form, literal, several, keyed, variable, implicit, function, slot, operation, Forms, no_forms, form, NamedForms, no_named, named}
use Rattle.reql_term.specs.Views.{Document, Index}
use Rattle.reql_value_spec.specs.Depends.{Names, AllName, FieldsName}
use Rattle.reql_value_spec.specs.Index.{plain_view}
use Rattle.reql_value_spec.specs.Shapes.{is_stage, is_part, NoSlot, IsTable, OnTable, IsShape, OnShape, rows_over}
use Rattle.reql_value_spec.specs.World.{bare_world}
use Rattle.reql_feed_spec.specs.Value.{Change, changed, selected}
use Rattle.reql_feed_spec.specs.Moving.{AreNoNulls, BringNoNulls}
use Rattle.reql_feed_spec.specs.Watched.{Part, lies_in}
use Rattle.reql_feed_spec.specs.Feeds.{one_key, all_given, first_of, nothing}
use Rattle.reql_feed_spec.specs.Folds.{AllFollow}
use Rattle.reql_feed_spec.specs.Kept.{is_free, are_free, fields_free, is_table, on_table, is_shape, on_shape, by_key, by_shape, by_index, by_primary, of_no_kind, KeptFeedsFollow}
use Rattle.reql_feed_spec.specs.declared.kind.FeedKind.{FeedKind}
use Rattle.reql_feed_spec.specs.declared.kind.FeedKind.TheVariants as kinds
use Rattle.reql_feed_spec.proofs.Watched.{follow_shapes, follow_indexes, follow_keys}

both : (a b : Bool) → a && b ≡ true → (a ≡ true) × (b ≡ true)
both true b h = (refl, h)
both false b h = absurd (cc (h))

either : (a b : Bool) → a || b ≡ true → (a ≡ true) ⊎ (b ≡ true)
either true b h = inl refl
either false b h = inr h

mutual
  pub names_free : (scope : List (List ℕ)) (f : Form) → is_free scope f ≡ true → Names NoSlot scope f
  names_free scope (literal d) h = tt
  names_free scope (several fs) h = all_free scope fs h
  names_free scope (keyed ms) h = named_free scope ms h
  names_free scope (variable id) h = h
  names_free scope implicit h = h
  names_free scope (function ids body) h = names_free (ids ∷ scope) body h
  names_free scope (slot n) h = absurd (cc (h))
  names_free scope (operation o fs ms) h = let p = both (are_free scope fs) (fields_free scope ms) h in (all_free scope fs p.0, named_free scope ms p.1)

  all_free : (scope : List (List ℕ)) (fs : Forms) → are_free scope fs ≡ true → AllName NoSlot scope fs
  all_free scope no_forms h = tt
  all_free scope (form f fs) h = let p = both (is_free scope f) (are_free scope fs) h in (names_free scope f p.0, all_free scope fs p.1)

  named_free : (scope : List (List ℕ)) (ms : NamedForms) → fields_free scope ms ≡ true → FieldsName NoSlot scope ms
  named_free scope no_named h = tt
  named_free scope (named k f ms) h = let p = both (is_free scope f) (fields_free scope ms) h in (names_free scope f p.0, named_free scope ms p.1)

table_is : (n : ℕ) (f : Form) → is_table n f ≡ true → IsTable n f
table_is n (slot k) h = h
table_is n (literal d) h = absurd (cc (h))
table_is n (several fs) h = absurd (cc (h))
table_is n (keyed ms) h = absurd (cc (h))
table_is n (variable id) h = absurd (cc (h))
table_is n implicit h = absurd (cc (h))
table_is n (function ids body) h = absurd (cc (h))
table_is n (operation o fs ms) h = absurd (cc (h))

on_table_is : (n : ℕ) (fs : Forms) → on_table n fs ≡ true → OnTable n fs
on_table_is n no_forms h = absurd (cc (h))
on_table_is n (form f fs) h = let p = both (is_table n f) (are_free [] fs) h in (table_is n f p.0, all_free [] fs p.1)

mutual
  pub shape_is : (n : ℕ) (f : Form) → is_shape n f ≡ true → IsShape n f
  shape_is n (slot k) h = h
  shape_is n (operation o fs ms) h =
      let p = both (fields_free [] ms) ((is_stage o && on_shape n fs) || (is_part o && on_table n fs)) h in
      elim (either (is_stage o && on_shape n fs) (is_part o && on_table n fs) p.1) [
        | inl q ↦ (let r = both (is_stage o) (on_shape n fs) q in inl (r.0, on_shape_is n fs r.1, named_free [] ms p.0))
        | inr q ↦ (let r = both (is_part o) (on_table n fs) q in inr (r.0, on_table_is n fs r.1, named_free [] ms p.0))
      ]
  shape_is n (literal d) h = absurd (cc (h))
  shape_is n (several fs) h = absurd (cc (h))
  shape_is n (keyed ms) h = absurd (cc (h))
  shape_is n (variable id) h = absurd (cc (h))
  shape_is n implicit h = absurd (cc (h))
  shape_is n (function ids body) h = absurd (cc (h))

  on_shape_is : (n : ℕ) (fs : Forms) → on_shape n fs ≡ true → OnShape n fs
  on_shape_is n no_forms h = absurd (cc (h))
  on_shape_is n (form f fs) h = let p = both (is_shape n f) (are_free [] fs) h in (shape_is n f p.0, all_free [] fs p.1)

key_follows : (key : Plain) (docs : List Document) (cs : List Change) → AllFollow (one_key key) docs cs
key_follows key docs [] = tt
key_follows key docs (c ∷ cs) = (tt, key_follows key (changed c.0 c.1 docs) cs)

nothing_follows : (kind : FeedKind) (docs : List Document) (cs : List Change) → AllFollow (nothing kind) docs cs
nothing_follows kind docs [] = tt
nothing_follows kind docs (c ∷ cs) = (tt, nothing_follows kind (changed c.0 c.1 docs) cs)

shape_follows : (b : Bool) (field : Bytes) (indexes : List (Bytes × Index)) (n : ℕ) (f : Form) (docs : List Document) (cs : List Change) → is_shape n f ≡ b
    → AllFollow (if b then all_given (rows_over bare_world n (plain_view [] 0 [] field [] indexes) f) else nothing kinds.Range) docs cs
shape_follows true field indexes n f docs cs is = follow_shapes bare_world n (plain_view [] 0 [] field [] indexes) f (shape_is n f is) docs cs
shape_follows false field indexes n f docs cs is = nothing_follows kinds.Range docs cs

index_follows : (b : Bool) (i : Index) (part : Part) (down : Bool) (count : ℕ) (docs : List Document) (cs : List Change) → i.1 ≡ b → AreRisingBy order docs → AreNoNulls docs → BringNoNulls cs
    → AllFollow (if b then nothing (kinds.Limit count) else first_of count (selected i (lies_in part) down)) docs cs
index_follows true i part down count docs cs is up all real = nothing_follows (kinds.Limit count) docs cs
index_follows false i part down count docs cs is up all real = follow_indexes i (lies_in part) down is count docs cs up all real

pub kept_follow : KeptFeedsFollow
kept_follow (by_key key) docs cs up all real = key_follows key docs cs
kept_follow (by_shape field indexes n f) docs cs up all real = shape_follows (is_shape n f) field indexes n f docs cs refl
kept_follow (by_index i part down count) docs cs up all real = index_follows i.1 i part down count docs cs refl up all real
kept_follow (by_primary part down count) docs cs up all real = follow_keys (lies_in part) down count docs cs up all real
kept_follow (of_no_kind kind) docs cs up all real = nothing_follows kind docs cs
