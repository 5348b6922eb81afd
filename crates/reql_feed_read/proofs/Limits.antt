-- What a limit feed's request is read to follow is what it follows by the definition.
use Rattle.std.proofs.Common.{◌≡◌, ℕ, nat_eq, Bool, true, false, ◌&&◌, if◌then◌else◌, Option, Some, None, Ok, Err, refl, sym, ap, ◌∙◌}
use Rattle.reql_datum.specs.Answer.{Answer, ◌>>=◌}
use Rattle.reql_datum.specs.Members.{find}
use Rattle.reql_rules.specs.Faults.{misplaced}
use Rattle.reql_rules.specs.Types.{same_text}
use Rattle.reql_term.specs.Views.{Index}
use Rattle.reql_term.specs.declared.view.IndexDef.{IndexDef}
use Rattle.reql_feed_spec.specs.Feeds.{Watch, nothing}
use Rattle.reql_feed_spec.specs.Kept.{Kept, by_primary, watch_of}
use Rattle.reql_feed_spec.specs.declared.kind.FeedKind.{FeedKind}
use Rattle.reql_feed_spec.specs.declared.kind.FeedKind.TheVariants as kinds
use Rattle.reql_table_spec.specs.Followed.{Ordered, first_by, first_shape, is_asked, is_same, kept_order, or_nothing, order_in, shape_by}
use Rattle.reql_table_spec.specs.Indexes.{Indexes}
use Rattle.reql_table_spec.specs.declared.command.FeedSpec.{FeedSpec}
use Rattle.reql_feed_read.specs.Asked.{by_asked, first_in, kept_if, kept_index, kept_ordered, watch_if}
use Rattle.reql_feed_read.specs.Follows.{OrderReads, Reads, held_of, indexes_in, watched}
use Rattle.reql_feed_read.specs.Shapes.{given}
use Rattle.reql_feed_read.specs.declared.follows.Follows.{Follows}
use Rattle.reql_feed_read.specs.declared.follows.Follows.TheVariants as follows
use Rattle.reql_feed_read.proofs.Reading.{numbered, first_read}

kept_watched : (kind : FeedKind) (a : Answer Kept) → watch_of (or_nothing kind a) ≡ watch_if kind (given a)
kept_watched kind (Ok k) = refl
kept_watched kind (Err e) = refl

module _ (spec : FeedSpec) (indexes : Indexes) (most : ℕ) where
  found_kept : (o : Ordered) (i : Option Index) → given (kept_order o most i) ≡ kept_index o most i
  found_kept o None = refl
  found_kept o (Some i) = refl

  by_key_or_index : (o : Ordered) (b : Bool) → given (if b then Ok (by_primary o.part o.down most) else kept_order o most (find o.name indexes)) ≡ (if b then Some (by_primary o.part o.down most) else kept_index o most (find o.name indexes))
  by_key_or_index o true = refl
  by_key_or_index o false = found_kept o (find o.name indexes)

  kept_read : (o : Ordered) → given (order_in spec indexes o most) ≡ kept_ordered spec.key indexes most o
  kept_read o = by_key_or_index o (same_text o.name spec.key)

  abbrev from : Option Ordered → Option Kept
  from o = kept_if spec.key indexes most (by_asked spec.index o)

  by_number : (o : Ordered) (b c : Bool) → given (if b && c then order_in spec indexes o most else Err misplaced) ≡ kept_if spec.key indexes most (if b then (if c then Some o else None) else None)
  by_number o true true = kept_read o
  by_number o true false = refl
  by_number o false c = refl

  asked_first : (o : Ordered) (b c : Bool) → (if b then (if c then Some o else None) else None) ≡ (if c then (if b then Some o else None) else None)
  asked_first o true true = refl
  asked_first o true false = refl
  asked_first o false true = refl
  asked_first o false false = refl

  by_asked_is : (o : Ordered) (b : Bool) → (if b then by_asked spec.index (Some o) else None) ≡ by_asked spec.index (if b then Some o else None)
  by_asked_is o true = refl
  by_asked_is o false = refl

  all_read : (a : Answer (Ordered × ℕ)) → given (a >>= λ f. if is_asked spec f.0 f.1 most then order_in spec indexes f.0 most else Err misplaced) ≡ from (numbered most (given a))
  all_read (Ok f) = by_number f.0 (nat_eq f.1 most) (is_same (Some f.0.name) spec.index) ∙ ap (kept_if spec.key indexes most) (by_asked_is f.0 (nat_eq f.1 most))
  all_read (Err e) = refl

  shape_read : given (first_shape spec indexes most) ≡ from (first_in spec.key most spec.shape)
  shape_read = all_read (first_by spec.key spec.shape) ∙ ap from (first_read spec.key most spec.shape)

first_watched : (spec : FeedSpec) (index : Option IndexDef) (most : ℕ) → spec.kind ≡ kinds.Limit most
    → watched (held_of spec index) ≡ watch_if (kinds.Limit most) (kept_if spec.key (indexes_in index) most (by_asked spec.index (first_in spec.key most spec.shape)))
first_watched spec index most kind =
    ap (λ t. watch_of (or_nothing t (shape_by t spec (indexes_in index)))) kind
    ∙ kept_watched (kinds.Limit most) (first_shape spec (indexes_in index) most)
    ∙ ap (watch_if (kinds.Limit most)) (shape_read spec (indexes_in index) most)

moved : (f : Follows) (spec : FeedSpec) (index : Option IndexDef) (w : Watch) (kind : FeedKind) → spec.kind ≡ kind → watched (held_of spec index) ≡ w → OrderReads f index kind w → Reads f spec index
moved (follows.Key k) spec index w kind e is r = absurd r
moved (follows.Shape s) spec index w kind e is r = absurd r
moved (follows.First o) spec index w kind e is r = record { shows = is ∙ r.shows; kind = e ∙ r.kind; single = r.single; kept = r.kept }
moved follows.Nothing spec index w kind e is r = is ∙ r ∙ ap nothing (sym e)

pub order_reads : (f : Follows) (spec : FeedSpec) (index : Option IndexDef) (most : ℕ) → spec.kind ≡ kinds.Limit most
    → OrderReads f index (kinds.Limit most) (watch_if (kinds.Limit most) (kept_if spec.key (indexes_in index) most (by_asked spec.index (first_in spec.key most spec.shape)))) → Reads f spec index
order_reads f spec index most kind r = moved f spec index _ (kinds.Limit most) kind (first_watched spec index most kind) r
