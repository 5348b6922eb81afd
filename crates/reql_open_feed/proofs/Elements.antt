-- What a limit feed is told of a change that led to a table.
use Rattle.std.proofs.Common.{◌≡◌, ℕ, nat_eq, List, [], ◌∷◌, Bool, true, false, Option, Some, None, refl, sym, ap, ◌∙◌}
use borrow.Author.Tests.{eqb-true}
use Rattle.reql_rules.specs.Lists.{Bytes}
use Rattle.reql_term.specs.Views.{Document, Index}
use Rattle.reql_feed_spec.specs.Items.{Difference, limit_items}
use Rattle.reql_table.specs.Seen.{Numbered, Standing, numbered_of}
use Rattle.reql_table.specs.Trees.{index_at}
use Rattle.reql_write_spec.specs.Treated.{Changed}
use Rattle.reql_feed_limit.specs.Feed.{Feed, Stands, Shows, KeepsTree, IsTreeOf, entries_of}
use Rattle.reql_feed_limit.specs.Order.{first_in}
use Rattle.reql_feeds.specs.Turn.{undone, Leads}
use Rattle.reql_opening.specs.Opens.{IsOnly}
use Rattle.reql_open_feed.specs.First.{FindsTree}

-- the elements before a change stand for it
pub stands : (f : Feed) (x : Changed) (after : List Document) → Leads x after → Shows f (undone x after) → Stands f x after
stands f x after leads shows = record {
  docs = undone x after;
  rising = leads.rising;
  old = leads.found;
  held = shows;
  changes = sym leads.leads;
}

-- a number that is only one index's finds that one
same_index : (a b : Index) → Some a ≡ Some b → a ≡ b
same_index a b e = cc

at_head : (n : ℕ) (i j : Index) (m : Bytes × Numbered) (ms : List (Bytes × Numbered)) (b : Bool) → nat_eq m.1.0 n ≡ b → (m.1.0 ≡ n → m.1.1 ≡ i) → index_at n (m ∷ ms) ≡ Some j → (index_at n ms ≡ Some j → i ≡ j) → i ≡ j
at_head n i j m ms true is one found rest = let same : Some m.1.1 ≡ Some j = (rw is at found) in sym (one (eqb-true m.1.0 n is)) ∙ same_index m.1.1 j same
at_head n i j m ms false is one found rest = rest (rw is at found)

only_at : (n : ℕ) (i j : Index) (ms : List (Bytes × Numbered)) → IsOnly n i ms → index_at n ms ≡ Some j → i ≡ j
only_at n i j [] only found = absurd (let f : None ≡ Some j = found in cc)
only_at n i j (m ∷ ms) only found = at_head n i j m ms (nat_eq m.1.0 n) refl only.0 found (only_at n i j ms only.1)

tree_kept : (n : ℕ) (o : Option Index) (t : Standing) → IsTreeOf n o → FindsTree n o t → nat_eq n 0 ≡ false → (j : Index) → index_at n (numbered_of t) ≡ Some j → o ≡ Some j
tree_kept n None t zero finds other j found = absurd (let f : true ≡ false = sym zero ∙ other in cc)
tree_kept n (Some i) t zero finds other j found = ap Some (only_at n i j (numbered_of t) finds.1 found)

pub keeps_tree : (f : Feed) (t : Standing) → IsTreeOf f.tree f.order.index → FindsTree f.tree f.order.index t → KeepsTree f t
keeps_tree f t numbered finds = tree_kept f.tree f.order.index t numbered finds

-- what is told is the difference of what the documents show
pub told_from : (f : Feed) (x : Changed) (after : List Document) (ds : List Difference) → Shows f (undone x after) → ((docs : List Document) → Shows f docs → entries_of f ≡ first_in f.order docs)
    → ds ≡ limit_items (entries_of f) (first_in f.order after) → ds ≡ limit_items (first_in f.order (undone x after)) (first_in f.order after)
told_from f x after ds shows entries is = is ∙ ap (λ es. limit_items es (first_in f.order after)) (entries (undone x after) shows)
