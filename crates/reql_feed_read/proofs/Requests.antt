-- What a request is read to follow is what it follows by the definition.
use Rattle.std.proofs.Common.{◌≡◌, ℕ, List, [], length, Bool, true, false, if◌then◌else◌, Option, Some, None, Ok, Err, refl, sym, ap, ◌∙◌}
use Rattle.reql_datum.specs.Answer.{Answer, ◌>>=◌}
use Rattle.reql_datum.specs.Plain.{Plain}
use Rattle.reql_rules.specs.Faults.{misplaced}
use Rattle.reql_rules.specs.Lists.{Bytes}
use Rattle.reql_term.specs.Views.{Document}
use Rattle.reql_value_spec.specs.Index.{plain_view}
use Rattle.reql_value_spec.specs.Shapes.{rows_over}
use Rattle.reql_value_spec.specs.World.{bare_world}
use Rattle.reql_write_spec.specs.Selecting.{slots}
use Rattle.reql_feed_spec.specs.Feeds.{Watch, one_key, all_given, nothing}
use Rattle.reql_feed_spec.specs.Value.{Shape}
use Rattle.reql_feed_spec.specs.Kept.{Kept, by_key, by_shape, of_no_kind, watch_of, is_shape}
use Rattle.reql_feed_spec.specs.declared.kind.FeedKind.TheVariants as kinds
use Rattle.reql_feed_spec.proofs.Sources.{same_names}
use Rattle.reql_table_spec.specs.Followed.{followed, or_nothing, shape_by, point_key, shape_index, is_same, first_slot}
use Rattle.reql_table_spec.specs.Indexes.{Indexes}
use Rattle.reql_table_spec.specs.Reading.{asked}
use Rattle.reql_table_spec.specs.declared.command.FeedSpec.{FeedSpec}
use Rattle.reql_table_spec.proofs.Reading.{ranges, named_ranges}
use Rattle.reql_feed_read.specs.Shapes.{agrees, given, shape_slot}
use Rattle.reql_feed_read.proofs.Slots.{shape_at, no_shape}

-- ---- a point feed
key_given : (a : Answer Plain) (k : Plain) → Some k ≡ given a → or_nothing kinds.Point (a >>= λ key. Ok (by_key key)) ≡ by_key k
key_given (Ok v) k e = let f : v ≡ k = cc (e) in ap by_key f
key_given (Err why) k e = absurd (cc (e))

no_key_given : (a : Answer Plain) → None ≡ given a → or_nothing kinds.Point (a >>= λ key. Ok (by_key key)) ≡ of_no_kind kinds.Point
no_key_given (Ok v) e = absurd (let f : None ≡ Some v = e in cc (f))
no_key_given (Err why) e = refl

pub key_followed : (spec : FeedSpec) (indexes : Indexes) (k : Plain) → spec.kind ≡ kinds.Point → Some k ≡ given (point_key spec.index spec.shape) → watch_of (followed spec indexes) ≡ one_key k
key_followed spec indexes k kind e =
    ap (λ t. watch_of (or_nothing t (shape_by t spec indexes))) kind ∙ ap watch_of (key_given (point_key spec.index spec.shape) k e)

pub no_key_followed : (spec : FeedSpec) (indexes : Indexes) → spec.kind ≡ kinds.Point → None ≡ given (point_key spec.index spec.shape) → watch_of (followed spec indexes) ≡ nothing spec.kind
no_key_followed spec indexes kind e =
    ap (λ t. watch_of (or_nothing t (shape_by t spec indexes))) kind ∙ ap watch_of (no_key_given (point_key spec.index spec.shape) e) ∙ ap nothing (sym kind)

-- ---- a range feed that names the index of its request
same_as : (n : Bytes) (asked_for : Option Bytes) → is_same (Some n) asked_for ≡ true → asked_for ≡ Some n
same_as n None e = absurd (cc (e))
same_as n (Some m) e = ap Some (sym (same_names n m e))

same_none : (asked_for : Option Bytes) → is_same None asked_for ≡ true → asked_for ≡ None
same_none None e = refl
same_none (Some m) e = absurd (cc (e))

-- a request of a kind and an index is itself, asked for with them
with_index : (spec : FeedSpec) (indexes : Indexes) (index : Option Bytes) → spec.kind ≡ kinds.Range → spec.index ≡ index → followed spec indexes ≡ followed (asked spec kinds.Range spec.shape index) indexes
with_index spec indexes index kind e = λ i. followed (asked spec (kind i) spec.shape (e i)) indexes

shape_followed_by : (spec : FeedSpec) (indexes : Indexes) (n : ℕ) (a : Answer (Option Bytes)) → shape_index spec.shape ≡ a → spec.kind ≡ kinds.Range → agrees spec.index a ≡ true → is_shape n spec.shape ≡ true
    → followed spec indexes ≡ by_shape spec.key indexes n spec.shape
shape_followed_by spec indexes n (Ok None) named kind same is = with_index spec indexes None kind (same_none spec.index same) ∙ ranges spec indexes n spec.shape is named
shape_followed_by spec indexes n (Ok (Some m)) named kind same is = with_index spec indexes (Some m) kind (same_as m spec.index same) ∙ named_ranges spec indexes n spec.shape m is named
shape_followed_by spec indexes n (Err e) named kind same is = absurd (cc (same))

found_if : (b : Bool) (o : Option ℕ) (n : ℕ) → Some n ≡ (if b then o else None) → (b ≡ true) × (o ≡ Some n)
found_if true o n e = (refl, sym e)
found_if false o n e = absurd (cc (e))

module _ (spec : FeedSpec) (indexes : Indexes) where
  abbrev shown_by : ℕ → Watch
  shown_by n = all_given (rows_over bare_world n (plain_view [] 0 [] spec.key [] indexes) spec.shape)

  pub shape_followed : (n : ℕ) → spec.kind ≡ kinds.Range → Some n ≡ (if agrees spec.index (shape_index spec.shape) then shape_slot spec.shape else None) → watch_of (followed spec indexes) ≡ shown_by n
  shape_followed n kind e =
      let f = found_if (agrees spec.index (shape_index spec.shape)) (shape_slot spec.shape) n e in
      let is : is_shape n spec.shape ≡ true = shape_at spec.shape n f.1 in
      ap watch_of (shape_followed_by spec indexes n (shape_index spec.shape) refl kind f.0 is) ∙ ap (λ b. if b then shown_by n else nothing kinds.Range) is

  pub is_found : (n : ℕ) → Some n ≡ (if agrees spec.index (shape_index spec.shape) then shape_slot spec.shape else None) → is_shape n spec.shape ≡ true
  is_found n e = shape_at spec.shape n (found_if (agrees spec.index (shape_index spec.shape)) (shape_slot spec.shape) n e).1

  pub shape_read : (n : ℕ) (s : Shape) → spec.kind ≡ kinds.Range → Some n ≡ (if agrees spec.index (shape_index spec.shape) then shape_slot spec.shape else None)
      → s ≡ rows_over bare_world n (plain_view [] 0 [] spec.key [] indexes) spec.shape → watch_of (followed spec indexes) ≡ all_given s
  shape_read n s kind e is = shape_followed n kind e ∙ ap all_given (sym is)

  abbrev last : Kept
  last = by_shape spec.key indexes (first_slot (slots spec.shape)) spec.shape

  kept_if : (a : Answer (Option Bytes)) (o : Option ℕ) → None ≡ (if agrees spec.index a then o else None) → (o ≡ None → watch_of last ≡ nothing kinds.Range)
      → watch_of (or_nothing kinds.Range (a >>= λ index. if is_same index spec.index then Ok last else Err misplaced)) ≡ nothing kinds.Range
  kept_if (Ok index) o e none = by_same (is_same index spec.index) e
    where
      by_same : (b : Bool) → None ≡ (if b then o else None) → watch_of (or_nothing kinds.Range (if b then Ok last else Err misplaced)) ≡ nothing kinds.Range
      by_same true f = none (sym f)
      by_same false f = refl
  kept_if (Err why) o e none = refl

  pub no_shape_followed : spec.kind ≡ kinds.Range → None ≡ (if agrees spec.index (shape_index spec.shape) then shape_slot spec.shape else None) → watch_of (followed spec indexes) ≡ nothing spec.kind
  no_shape_followed kind e =
      let none : shape_slot spec.shape ≡ None → watch_of last ≡ nothing kinds.Range = λ off. ap (λ b. if b then shown_by (first_slot (slots spec.shape)) else nothing kinds.Range) (no_shape spec.shape (first_slot (slots spec.shape)) off) in
      ap (λ t. watch_of (or_nothing t (shape_by t spec indexes))) kind ∙ kept_if (shape_index spec.shape) (shape_slot spec.shape) e none ∙ ap nothing (sym kind)

-- ---- a table of nothing
pub no_documents : (docs : List Document) → docs ≡ [] → length docs ≡ 0
no_documents docs e = ap length e
