-- From what a feed shows in entries to the same in pairs, and back.
use Rattle.std.proofs.Common.{◌≡◌, ◌<◌, ◌≤◌, ◌+◌, ◌^◌, ℕ, nat_eq, List, [], ◌∷◌, length, map, Bool, true, false, if◌then◌else◌, Option, Some, None, option_map, is_some, is_none, refl, sym, ap, ◌∙◌, arith}
use Rattle.std.specs.Option.{unwrap_or}
use Rattle.std.proofs.lemmas.List.Edits.{length-insert}
use Rattle.std.proofs.lemmas.List.{length-take}
use Rattle.reql_datum.specs.Order.{order}
use Rattle.reql_datum.specs.Plain.{Plain}
use Rattle.reql_memory.specs.Sorted.{AreRisingBy}
use Rattle.reql_datum.specs.View.{plain}
use Rattle.reql_term.specs.Views.{Document, Index, documents_in}
use Rattle.reql_feed_limit.specs.Seen.{seen}
use Rattle.reql_feed_limit.specs.declared.element.Element as code
use Rattle.reql_value_spec.specs.Index.{index_list}
use Rattle.reql_feed_spec.specs.Items.{limit_items}
use Rattle.reql_feed_spec.specs.Value as law
use Rattle.reql_table.specs.Keys.{pairs_of}
use Rattle.reql_table.specs.Seen.{Standing, documents_of, numbered_of}
use Rattle.reql_table.specs.Trees.{index_at, has_tree, tree_pairs}
use Rattle.reql_write_spec.specs.Treated.{Changed}
use Rattle.reql_feed_limit.specs.Feed.{Feed, Stands, Shows, KeepsTree, IsTreeOf, IsItsTree, ArePrintable, entries_of, limit_of, told}
use Rattle.reql_feed_limit.specs.Items.{Item, Placed, item, deleted, inserted, folded}
use Rattle.reql_feed_limit.specs.Order.{Order, IsSingle, first_in, pairs_in, entries_in, spot_of}
use Rattle.reql_feed_limit.specs.Selection as sel
use Rattle.reql_feed_limit.specs.Selection.{Element}
use Rattle.reql_feed_limit.specs.Stands as pairs
use Rattle.reql_feed_limit.proofs.Filed.{filed_list, value_is, entries_back}
use Rattle.reql_feed_limit.proofs.Indexed.{keyed_spot, plain_strict, primary_is}
use Rattle.reql_feed_limit.proofs.Maps.{rising_set}
use Rattle.reql_feed_limit.proofs.Standing.{stands_folds}
use Rattle.reql_feed_limit.proofs.Told.{AreProper, proper_pairs, items_told}

-- ---- places
within_more : (o : Option Placed) (m n : ℕ) → m ≤ n → pairs.IsWithin o m → pairs.IsWithin o n
within_more None m n le h = tt
within_more (Some p) m n le h = omega (arith, le, h)

within_kept : (o : Option Placed) (es : List Element) (n : ℕ) → pairs.IsWithin o (length es + 1) → length (inserted o es) ≤ n → pairs.IsWithin o n
within_kept None es n h fits = tt
within_kept (Some p) es n h fits = let long = length-insert es p.0 p.1 (omega (arith, h)) in omega (arith, long, fits, h)

pub printable : (size : ℕ) (es : List Element) (i : Item) → size < 2 ^ 32 → length es ≤ size → pairs.Installs size es i → ArePrintable i
printable size es i few le h = record {
  left_within = within_more i.left (length es) (2 ^ 53) (omega arith) h.left_within;
  came_within = within_more i.came size (2 ^ 53) (omega arith) (within_kept i.came (deleted i.left es) size h.came_within h.fits);
}

-- ---- a change
changed_is : (key : Plain) (new : Option Plain) (docs : List Document) → law.changed key new docs ≡ sel.set_by order key new docs
changed_is key None docs = refl
changed_is key (Some doc) docs = refl

module _ (f : Feed) (single : IsSingle f.order.index) (c : Changed) (after : List Document) (s : Stands f c after) where
  pub stands_in_pairs : pairs.Stands (limit_of f) f.elements c after
  stands_in_pairs = record {
    docs = s.docs;
    rising = s.rising;
    old = s.old;
    held = s.held ∙ sym (value_is f.order single s.docs s.rising);
    changes = s.changes ∙ changed_is c.key c.new s.docs;
  }

  pub rising_after : AreRisingBy order after
  rising_after = rw (s.changes ∙ changed_is c.key c.new s.docs) (rising_set order plain_strict s.docs c.key c.new s.rising)

  few_elements : length f.elements ≤ f.order.most
  few_elements = let is = ap length (s.held ∙ sym (value_is f.order single s.docs s.rising)) in omega (arith, is, length-take f.order.most (sel.selection (limit_of f) s.docs))

  own_proper : AreProper (is_some f.order.index) f.elements
  own_proper = rw (s.held) (proper_pairs (is_some f.order.index) (first_in f.order s.docs))

  -- what is told of the item in pairs
  pub item_told : (i : Item) → i ≡ item f.elements (sel.value (limit_of f) after) → told i ≡ limit_items (entries_of f) (first_in f.order after)
  item_told i is =
      let filed : Bool = is_some f.order.index in
      let same : sel.value (limit_of f) after ≡ pairs_in filed (first_in f.order after) = value_is f.order single after rising_after in
      ap told (is ∙ ap (item f.elements) same)
      ∙ items_told filed f.elements (pairs_in filed (first_in f.order after)) own_proper (proper_pairs filed (first_in f.order after))
      ∙ ap (limit_items (entries_of f)) (entries_back f.order after)

  -- its places are those of numbers
  pub item_printable : f.order.most < 2 ^ 32 → (i : Item) → pairs.Installs f.order.most f.elements i → ArePrintable i
  item_printable small i h = printable f.order.most f.elements i small few_elements h

  pub item_shows : (i : Item) → i ≡ item f.elements (sel.value (limit_of f) after) → folded i f.elements ≡ pairs_in (is_some f.order.index) (first_in f.order after)
  item_shows i is =
      ap (λ j. folded j f.elements) is
      ∙ stands_folds (limit_of f) (keyed_spot f.order.index) f.elements c after stands_in_pairs
      ∙ value_is f.order single after rising_after

-- ---- trees
some_index : (i j : Index) → Some i ≡ Some j → i ≡ j
some_index i j is = cc

own_at : (b : Bool) (o found : Option Index) (docs : List Document) → IsSingle o → b ≡ is_none o → (b ≡ false → (i : Index) → found ≡ Some i → o ≡ Some i) → AreRisingBy order docs
    → is_some (if b then Some docs else option_map (λ i. pairs_of (index_list docs i)) found) ≡ true
    → unwrap_or (if b then Some docs else option_map (λ i. pairs_of (index_list docs i)) found) [] ≡ sel.index_list (spot_of o) docs
own_at true None found docs single numbered its up there = sym (primary_is docs up)
own_at true (Some i) found docs single numbered its up there = cc
own_at false None found docs single numbered its up there = cc
own_at false (Some i) None docs single numbered its up there = cc
own_at false (Some i) (Some j) docs single numbered its up there =
    let same : i ≡ j = some_index i j (its refl j refl) in
    ap (λ k. pairs_of (index_list docs k)) (sym same) ∙ filed_list i single docs up

pub tree_is : (f : Feed) (t : Standing) → IsSingle f.order.index → IsTreeOf f.tree f.order.index → KeepsTree f t → AreRisingBy order (documents_of t) → has_tree t f.tree ≡ true
    → tree_pairs t f.tree ≡ sel.index_list (spot_of f.order.index) (documents_of t)
tree_is f t single numbered its up there = own_at (nat_eq f.tree 0) f.order.index (index_at f.tree (numbered_of t)) (documents_of t) single numbered its up there

-- the tree of an index in a table
pub its_keeps : (f : Feed) (t : Standing) → IsItsTree f.tree f.order.index t → KeepsTree f t
its_keeps f t its = keeps_at f.order.index its
  where
    keeps_at : (o : Option Index) → IsItsTree f.tree o t → nat_eq f.tree 0 ≡ false → (i : Index) → index_at f.tree (numbered_of t) ≡ Some i → o ≡ Some i
    keeps_at None zeroth other i found = let g : true ≡ false = sym zeroth ∙ other in cc
    keeps_at (Some j) h other i found = sym (h.1) ∙ found

pub its_number : (n : ℕ) (o : Option Index) (t : Standing) → IsItsTree n o t → IsTreeOf n o
its_number n None t h = h
its_number n (Some i) t h = h.0

pub its_pairs : (n : ℕ) (o : Order) (t : Standing) → IsSingle o.index → IsItsTree n o.index t → AreRisingBy order (documents_of t) → has_tree t n ≡ true
    → tree_pairs t n ≡ sel.index_list (spot_of o.index) (documents_of t)
its_pairs n o t single its up there =
    let f : Feed = record { order = o; tree = n; elements = [] } in
    tree_is f t single (its_number n o.index t its) (its_keeps f t its) up there

-- ---- what is shown
pub entries_shown : (f : Feed) (docs : List Document) → Shows f docs → entries_of f ≡ first_in f.order docs
entries_shown f docs shows = ap (entries_in (is_some f.order.index)) shows ∙ entries_back f.order docs

pub documents_seen : (filed : Bool) (es : List code.Element) → documents_in (entries_in filed (map seen es)) ≡ map (λ (e : code.Element). plain e.doc) es
documents_seen true [] = refl
documents_seen true (e ∷ es) = ap (λ t. plain e.doc ∷ t) (documents_seen true es)
documents_seen false [] = refl
documents_seen false (e ∷ es) = ap (λ t. plain e.doc ∷ t) (documents_seen false es)
