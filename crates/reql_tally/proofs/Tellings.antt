-- What the opening items of a feed tell is its value.
use Rattle.std.proofs.Common.{◌≡◌, ℕ, suc, List, [], ◌∷◌, ◌++◌, Option, Some, None, Bool, true, false, not, cond, if◌then◌else◌, codes, refl, sym, ap, ◌∙◌}
use Rattle.reql_datum.specs.Plain.{Plain, null}
use Rattle.reql_rules.specs.Types.{is_null}
use Rattle.reql_bag.specs.Bag.{in_order}
use Rattle.reql_term.specs.Views.{Document, documents_in}
use Rattle.reql_table_machine_spec.proofs.Tracking.{split}
use Rattle.reql_feed_spec.specs.Feeds.{Watch, one_key, all_given, first_of, nothing, kind_of, opened_from, opening_items, value_at, empty_of}
use Rattle.reql_feed_spec.specs.Fold.{without_nulls}
use Rattle.reql_feed_spec.specs.Items.{present}
use Rattle.reql_feed_spec.specs.Shown.{Shows, opening, member_at}
use Rattle.reql_feed_spec.specs.Value.{Selection, point_value, range_value, limit_value}
use Rattle.reql_feed_spec.specs.declared.kind.FeedKind.{FeedKind}
use Rattle.reql_feed_spec.specs.declared.kind.FeedKind.TheVariants as kinds
use Rattle.reql_table_spec.specs.Table.{Held, feed_of, feeding}
use Rattle.reql_tally.specs.Tallied.{value_of}
use Rattle.reql_tally.specs.Views.{as_kept, listed, told}

-- ---- without nulls
pub no_null_next : (v : Plain) (vs : List Plain) → listed (present v) ++ without_nulls vs ≡ without_nulls (v ∷ vs)
no_null_next v vs = split (is_null v) (λ b. listed (cond b None (Some v)) ++ without_nulls vs ≡ (if not b then v ∷ without_nulls vs else without_nulls vs)) (λ _. refl) (λ _. refl)

no_more : (v : Plain) (vs : List Plain) → is_null v ≡ false → without_nulls (v ∷ vs) ≡ v ∷ without_nulls vs
no_more v vs h = ap (λ b. if not b then v ∷ without_nulls vs else without_nulls vs) h

one_less : (v : Plain) (vs : List Plain) → is_null v ≡ true → without_nulls (v ∷ vs) ≡ without_nulls vs
one_less v vs h = ap (λ b. if not b then v ∷ without_nulls vs else without_nulls vs) h

twice : (vs : List Plain) → without_nulls (without_nulls vs) ≡ without_nulls vs
twice [] = refl
twice (v ∷ vs) = split (is_null v) (λ b. is_null v ≡ b → without_nulls (without_nulls (v ∷ vs)) ≡ without_nulls (v ∷ vs))
    (λ _ h. ap without_nulls (one_less v vs h) ∙ twice vs ∙ sym (one_less v vs h))
    (λ _ h. ap without_nulls (no_more v vs h) ∙ no_more v (without_nulls vs) h ∙ ap (λ z. v ∷ z) (twice vs) ∙ sym (no_more v vs h)) refl

-- ---- what opening items tell
new_val : (offsets types : Bool) (k : ℕ) (v : Plain) → member_at (codes "new_val") (opening (record { offsets = offsets; types = types }) k v) ≡ Some v
new_val true true k v = refl
new_val true false k v = refl
new_val false true k v = refl
new_val false false k v = refl

told_opened : (s : Shows) (k : ℕ) (vs : List Plain) → told (opened_from s k vs) ≡ vs
told_opened s k [] = refl
told_opened s k (v ∷ vs) = ap (λ z. listed z ++ told (opened_from s (suc k) vs)) (new_val s.offsets s.types k v) ∙ ap (λ z. v ∷ z) (told_opened s (suc k) vs)

-- ---- by kind of feed
first_told : (n : ℕ) (selection : Selection) (offsets types : Bool) (docs : List Document)
    → without_nulls (as_kept (kinds.Limit n) offsets (told (opened_from (record { offsets = offsets; types = types }) 0 (documents_in (limit_value n selection docs))))) ≡ without_nulls (value_at (first_of n selection) offsets docs)
first_told n selection true types docs = ap without_nulls (told_opened (record { offsets = true; types = types }) 0 (documents_in (limit_value n selection docs)))
first_told n selection false types docs = ap (λ z. without_nulls (in_order z)) (told_opened (record { offsets = false; types = types }) 0 (documents_in (limit_value n selection docs)))

nothing_told : (kind : FeedKind) (offsets types : Bool) → without_nulls (as_kept kind offsets (told (opened_from (record { offsets = offsets; types = types }) 0 (empty_of kind)))) ≡ without_nulls (empty_of kind)
nothing_told kinds.Point offsets types = ap without_nulls (told_opened (record { offsets = offsets; types = types }) 0 (null ∷ []))
nothing_told kinds.Range offsets types = refl
nothing_told (kinds.Limit n) true types = refl
nothing_told (kinds.Limit n) false types = refl

value_told : (w : Watch) (s : Shows) (docs : List Document) → without_nulls (as_kept (kind_of w) s.offsets (told (opening_items w s docs))) ≡ without_nulls (value_at w s.offsets docs)
value_told (one_key key) s docs = ap without_nulls (told_opened s 0 (point_value key docs ∷ []))
value_told (all_given shape) s docs = ap without_nulls (told_opened s 0 (range_value shape docs)) ∙ sym (twice (range_value shape docs))
value_told (first_of n selection) s docs = first_told n selection s.offsets s.types docs
value_told (nothing kind) s docs = nothing_told kind s.offsets s.types

pub value_is : (h : Held) (k : Option Held) (docs : List Document) (opened said values rest : List Plain) (kind : FeedKind) (offsets : Bool)
    → k ≡ Some h → opened ≡ (feeding 0).opening h docs → said ≡ told opened → kind ≡ kind_of (feed_of h).watch → offsets ≡ h.spec.offsets
    → values ≡ as_kept kind offsets said → rest ≡ without_nulls values → rest ≡ value_of k docs
value_is h k docs opened said values rest kind offsets is opens tells of_kind shows keeps leaves =
    leaves ∙ ap without_nulls keeps ∙ ap (λ z. without_nulls (as_kept z offsets said)) of_kind ∙ ap (λ z. without_nulls (as_kept (kind_of (feed_of h).watch) z said)) shows
    ∙ ap (λ z. without_nulls (as_kept (kind_of (feed_of h).watch) h.spec.offsets z)) (tells ∙ ap told opens)
    ∙ value_told (feed_of h).watch (feed_of h).shows docs ∙ sym (ap (λ z. value_of z docs) is)
