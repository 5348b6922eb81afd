-- A limit feed of what a request is read to follow.
use Rattle.std.proofs.Common.{◌≡◌, Option, Some, None, true, false, sym, ap, ◌∙◌, subst}
use Rattle.reql_term.specs.declared.view.IndexDef.{IndexDef}
use Rattle.reql_feed_spec.specs.declared.kind.FeedKind.TheVariants as kinds
use Rattle.reql_table_spec.specs.Table.{Held, is_limit}
use Rattle.reql_table_spec.specs.declared.command.FeedSpec.{FeedSpec}
use Rattle.reql_table.specs.Seen.{Standing}
use Rattle.reql_feed_read.specs.Follows.{IsKept, IsOrder, IsThere, Reads, held_of, watched}
use Rattle.reql_feed_read.specs.declared.follows.Follows.{Follows}
use Rattle.reql_feed_read.specs.declared.follows.Follows.TheVariants as follows
use Rattle.reql_feed_read.specs.declared.order.Order.{Order}
use Rattle.reql_feed_read.specs.declared.shape.RangeShape.{RangeShape}
use Rattle.reql_datum.specs.declared.datum.Datum.{Datum}
use Rattle.reql_feed_limit.specs.Asked.{IsOf, IsOfOne, shown_by}
use Rattle.reql_feed_limit.specs.Feed.{Feed, Names, NamesOne}
use Rattle.reql_feed_limit.specs.Order.{IsSingle}
use Rattle.reql_feed_limit.specs.Seen.{order_of}

names_one : (x index : Option IndexDef) (t : Standing) → IsKept x index → IsThere index t → NamesOne x t
names_one None index t kept there = tt
names_one (Some d) index t kept there = subst (λ i. IsThere i t) kept there

module _ (f : Follows) (spec : FeedSpec) (index : Option IndexDef) (reads : Reads f spec index) where
  order_at : (o : Order) → f ≡ follows.First o → IsOrder o index spec.kind (watched (held_of spec index))
  order_at o e = subst (λ x. Reads x spec index) e reads

  pub single_kept : (o : Order) → f ≡ follows.First o → IsSingle (order_of o).index
  single_kept o e = (order_at o e).single

  pub names_kept : (o : Order) (t : Standing) → f ≡ follows.First o → IsThere index t → Names o t
  names_kept o t e there = names_one o.index index t (order_at o e).kept there

  module _ (h : Option Held) (held : h ≡ Some (held_of spec index)) where
    pub order_kept : (o : Order) (x : Feed) → f ≡ follows.First o → x.order ≡ order_of o → IsOfOne (Some x) h
    order_kept o x e same =
        let is : IsOf (Some x) (held_of spec index) = subst (λ r. (watched (held_of spec index) ≡ shown_by r) × (spec.kind ≡ kinds.Limit r.most)) (sym same) ((order_at o e).shows, (order_at o e).kind) in
        subst (IsOfOne (Some x)) (sym held) is

    pub nothing_kept : f ≡ follows.Nothing → IsOfOne None h
    nothing_kept e = subst (IsOfOne None) (sym held) (subst (λ x. Reads x spec index) e reads)

  pub no_key : (k : Datum) → is_limit spec.kind ≡ true → f ≡ follows.Key k → ⊥
  no_key k limit e =
      let point : is_limit kinds.Point ≡ true = ap is_limit (sym (subst (λ x. Reads x spec index) e reads).1) ∙ limit in
      cc (point)

  pub no_shape : (s : RangeShape) → is_limit spec.kind ≡ true → f ≡ follows.Shape s → ⊥
  no_shape s limit e =
      let range : is_limit kinds.Range ≡ true = ap is_limit (sym (subst (λ x. Reads x spec index) e reads).1) ∙ limit in
      cc (range)

pub ruleset requests = (single_kept, names_kept, order_kept, nothing_kept, no_key, no_shape)
