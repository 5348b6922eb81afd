-- Along changes that each move one element at most, a limit feed's items fold to its last value.
use Rattle.std.proofs.Common.{◌≡◌, ◌≤◌, ℕ, List, [], ◌∷◌, ◌++◌, Option, Some, None, Bool, true, false, inl, inr, refl, sym, ap, subst, ◌∙◌, arith, map}
use Rattle.reql_datum.specs.Plain.{Plain, null}
use Rattle.reql_rules.specs.Types.{is_null}
use Rattle.reql_bag.specs.Bag.{one, times, in_order}
use Rattle.reql_feed_spec.specs.Items.{Difference, moves, limit_items}
use Rattle.reql_feed_spec.specs.Moves.{IsApart, IsOneMove}
use Rattle.reql_feed_spec.specs.Shown.{Shows, seen}
use Rattle.reql_feed_spec.specs.Fold.{list_fold, bag_fold, put_at, cut}
use Rattle.reql_feed_spec.specs.Value.{Change, Selection, changed, limit_value}
use Rattle.reql_feed_spec.specs.Net.{bag_net}
use Rattle.reql_feed_spec.specs.Follows.{BagFollows}
use Rattle.reql_feed_spec.specs.History.{after_all, along, hear, limit_step, AllOneMove}
use Rattle.reql_bag.proofs.Bags.{times_sorted, same_or, one_other}
use Rattle.reql_bag.proofs.Rising.{rising_sorted, by_counts}
use Rattle.reql_feed_spec.proofs.Folds.{heard, heard_is, lost, won, times_bag_fold, rising_bag_fold}
use Rattle.reql_feed_spec.proofs.LimitFolds.{limit_items_are, limit_folds, limit_bag_folds, lost_moves, won_moves, one_at, times_with_one}
use Rattle.reql_feed_spec.proofs.Histories.{bag_fold_append, follow_append, follow_from, no_nulls_net}
use Rattle.reql_feed_spec.proofs.Nets.{bag_net_folds, lost_append, won_append, lost_net, times_follow}
use Rattle.reql_term.specs.Views.{Document, Entry, documents_in}

list_fold_append : (vs : List Plain) (ds es : List Difference) → list_fold vs (ds ++ es) ≡ list_fold (list_fold vs ds) es
list_fold_append vs [] es = refl
list_fold_append vs (d ∷ ds) es = list_fold_append (put_at d.new_at d.new (cut d.old_at vs)) ds es

pub no_null : (v : Plain) → is_null v ≡ false → one null v ≡ 0
no_null v h =
    elim (same_or null v) [
      | inl e ↦ absurd (let f : is_null v ≡ true = ap is_null (sym e) in cc (f, h))
      | inr ne ↦ one_other null v ne
    ]

limit_follows : (s : Shows) (es fs : List Entry) → IsOneMove es fs → BagFollows (in_order (documents_in es)) (map (hear s) (limit_items es fs))
limit_follows s es fs m =
    let vs : List Plain = documents_in es in
    let ds : List Difference = map (seen s.offsets) (moves m.out m.into) in
    let Q : List Difference → Type 0 = BagFollows (in_order vs) in
    subst Q (sym (ap (heard s) (limit_items_are es fs m) ∙ heard_is s (moves m.out m.into)))
    (follow_from (in_order vs) ds (λ v. omega (
      arith,
      lost_moves s.offsets v m.out m.into m.kept es fs m.out_apart m.into_apart,
      times_sorted v vs ∙ ap (λ t. times v (documents_in t)) m.before ∙ times_with_one v m.out m.kept,
    )))

limit_nulls_at : (offsets : Bool) (out into : Option (ℕ × Entry)) (ks es fs : List Entry) → IsApart out ks fs → IsApart into ks es → (one_at null out ≡ 0) × (one_at null into ≡ 0)
limit_nulls_at offsets None None ks es fs a b = (refl, refl)
limit_nulls_at offsets None (Some i) ks es fs a b = (refl, no_null i.1.1.1 b.2)
limit_nulls_at offsets (Some o) None ks es fs a b = (no_null o.1.1.1 a.2, refl)
limit_nulls_at offsets (Some o) (Some i) ks es fs a b = (no_null o.1.1.1 a.2, no_null i.1.1.1 b.2)

-- an element that left or came is no null
limit_nulls : (s : Shows) (es fs : List Entry) → IsOneMove es fs → (lost null (map (hear s) (limit_items es fs)) ≡ 0) × (won null (map (hear s) (limit_items es fs)) ≡ 0)
limit_nulls s es fs m =
    let told : map (hear s) (limit_items es fs) ≡ map (seen s.offsets) (moves m.out m.into) = ap (heard s) (limit_items_are es fs m) ∙ heard_is s (moves m.out m.into) in
    let none = limit_nulls_at s.offsets m.out m.into m.kept es fs m.out_apart m.into_apart in (
      ap (lost null) told ∙ lost_moves s.offsets null m.out m.into m.kept es fs m.out_apart m.into_apart ∙ none.0,
      ap (won null) told ∙ won_moves s.offsets null m.out m.into m.kept es fs m.out_apart m.into_apart ∙ none.1,
    )

module _ (s : Shows) (n : ℕ) (ordered : Selection) where
  abbrev entries : List Document → List Entry
  entries docs = limit_value n ordered docs

  abbrev value : List Document → List Plain
  value docs = documents_in (entries docs)

  -- with offsets
  pub places_history : s.offsets ≡ true → (docs : List Document) (ws : List Change) → AllOneMove n ordered docs ws → list_fold (value docs) (along (limit_step s n ordered) docs ws) ≡ value (after_all docs ws)
  places_history on docs [] all = refl
  places_history on docs (w ∷ ws) all =
      let next : List Document = changed w.0 w.1 docs in
      list_fold_append (value docs) (limit_step s n ordered w.0 docs next) (along (limit_step s n ordered) next ws)
      ∙ ap (λ t. list_fold t (along (limit_step s n ordered) next ws)) (limit_folds s (entries docs) (entries next) on all.0)
      ∙ places_history on next ws all.1

  -- without them, as a bag
  pub bag_history : (docs : List Document) (ws : List Change) → AllOneMove n ordered docs ws → bag_fold (in_order (value docs)) (along (limit_step s n ordered) docs ws) ≡ in_order (value (after_all docs ws))
  bag_history docs [] all = refl
  bag_history docs (w ∷ ws) all =
      let next : List Document = changed w.0 w.1 docs in
      bag_fold_append (in_order (value docs)) (limit_step s n ordered w.0 docs next) (along (limit_step s n ordered) next ws)
      ∙ ap (λ t. bag_fold t (along (limit_step s n ordered) next ws)) (limit_bag_folds s (entries docs) (entries next) all.0)
      ∙ bag_history next ws all.1

  limit_history_follows : (docs : List Document) (ws : List Change) → AllOneMove n ordered docs ws → BagFollows (in_order (value docs)) (along (limit_step s n ordered) docs ws)
  limit_history_follows docs [] all = tt
  limit_history_follows docs (w ∷ ws) all =
      let next : List Document = changed w.0 w.1 docs in
      follow_append (in_order (value docs)) (limit_step s n ordered w.0 docs next) (along (limit_step s n ordered) next ws)
      (limit_follows s (entries docs) (entries next) all.0)
      (rw (limit_bag_folds s (entries docs) (entries next) all.0) (limit_history_follows next ws all.1))

  -- and as their net, which is printed and read again: no null is among them
  no_nulls_told : (docs : List Document) (cs : List Change) → AllOneMove n ordered docs cs → (lost null (along (limit_step s n ordered) docs cs) ≡ 0) × (won null (along (limit_step s n ordered) docs cs) ≡ 0)
  no_nulls_told docs [] all = (refl, refl)
  no_nulls_told docs (c ∷ cs) all =
      let next : List Document = changed c.0 c.1 docs in
      let here = limit_nulls s (entries docs) (entries next) all.0 in
      let rest = no_nulls_told next cs all.1 in
      let ds : List Difference = limit_step s n ordered c.0 docs next in
      let es : List Difference = along (limit_step s n ordered) next cs in
      (omega (arith, lost_append null ds es, here.0, rest.0), omega (arith, won_append null ds es, here.1, rest.1))

  pub bag_net_history : (docs : List Document) (cs : List Change) → AllOneMove n ordered docs cs → bag_fold (in_order (value docs)) (map (hear s) (bag_net (along (limit_step s n ordered) docs cs))) ≡ in_order (value (after_all docs cs))
  bag_net_history docs cs all =
      let told : List Difference = along (limit_step s n ordered) docs cs in
      let first : List Plain = in_order (value docs) in
      let none = no_nulls_told docs cs all in
      let follows : BagFollows first told = limit_history_follows docs cs all in
      let fits : (v : Plain) → lost v (bag_net told) ≤ times v first = λ v. omega (arith, times_follow first told follows v, lost_net v told) in
      let heard_net : (v : Plain) → (lost v (map (hear s) (bag_net told)) ≡ lost v (bag_net told)) × (won v (map (hear s) (bag_net told)) ≡ won v (bag_net told)) = λ v. no_nulls_net s v told none.0 none.1 in
      by_counts (bag_fold first (map (hear s) (bag_net told))) (bag_fold first (bag_net told)) (rising_bag_fold first (map (hear s) (bag_net told)) (rising_sorted (value docs))) (rising_bag_fold first (bag_net told) (rising_sorted (value docs)))
      (λ v. omega (arith, times_bag_fold first (map (hear s) (bag_net told)) (λ u. omega (arith, fits u, (heard_net u).0)) v, times_bag_fold first (bag_net told) fits v, (heard_net v).0, (heard_net v).1, fits v))
      ∙ bag_net_folds first told (rising_sorted (value docs)) follows
      ∙ bag_history docs cs all
