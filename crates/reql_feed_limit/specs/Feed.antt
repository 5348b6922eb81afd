-- A limit feed as contracts see it.
use Rattle.std.specs.Prelude.{◌≡◌, ◌^◌, ℕ, nat_eq, true, false, List, [], ◌∷◌, Option, Some, None, option_map, is_some, is_none}
use Rattle.reql_datum.specs.Order.{order}
use Rattle.reql_datum.specs.Plain.{Plain}
use Rattle.reql_memory.specs.Sorted.{AreRisingBy, find_by}
use Rattle.reql_datum.specs.Members.{find}
use Rattle.reql_term.specs.Views.{Document, Entry, Index, index_of}
use Rattle.reql_term.specs.declared.view.IndexDef.{IndexDef}
use Rattle.reql_feed_spec.specs.Items.{Difference}
use Rattle.reql_feed_spec.specs.Value.{changed}
use Rattle.reql_table.specs.Seen.{Standing, numbered_of, indexes_of}
use Rattle.reql_table.specs.Trees.{index_at}
use Rattle.reql_write_spec.specs.Treated.{Changed}
use Rattle.reql_feed_limit.specs.Bounds.{Bounds, in_bounds}
use Rattle.reql_feed_limit.specs.Items.{Item, Placed}
use Rattle.reql_feed_limit.specs.Order.{Order, first_in, pairs_in, entries_in, bounds_in, spot_of}
use Rattle.reql_feed_read.specs.declared.order.Order as the
use Rattle.reql_feed_limit.specs.Selection.{Element, Limit}
use Rattle.reql_feed_limit.specs.Stands.{IsWithin}

-- what it follows, the number of the tree of its order, and its elements as they lie in that tree
pub record Feed : Type 0 where
  pub order : Order
  pub tree : ℕ
  pub elements : List Element

-- the entries that they stand for
abbrev pub entries_of : Feed → List Entry
entries_of f = entries_in (is_some f.order.index) f.elements

-- its elements are what it shows of documents
abbrev pub Shows : Feed → List Document → Type 0
Shows f docs = f.elements ≡ pairs_in (is_some f.order.index) (first_in f.order docs)

-- it shows a table in which the change finds its old document, and `after` is that table after the change
pub record Stands (f : Feed) (c : Changed) (after : List Document) : Type 0 where
  pub docs : List Document
  pub rising : AreRisingBy order docs
  pub old : find_by order c.key docs ≡ c.old
  pub held : Shows f docs
  pub changes : after ≡ changed c.key c.new docs

-- its tree, where it is there and isn't that of the primary order, is that of its index
abbrev pub KeepsTree : Feed → Standing → Type 0
KeepsTree f t = nat_eq f.tree 0 ≡ false → (i : Index) → index_at f.tree (numbered_of t) ≡ Some i → f.order.index ≡ Some i

-- the tree of the primary order is number 0, and no other is
abbrev pub IsTreeOf : ℕ → Option Index → Type 0
IsTreeOf n o = nat_eq n 0 ≡ is_none o

-- the tree of an index in a table
abbrev pub IsItsTree : ℕ → Option Index → Standing → Type 0
IsItsTree n None t = nat_eq n 0 ≡ true
IsItsTree n (Some i) t = (nat_eq n 0 ≡ false) × (index_at n (numbered_of t) ≡ Some i)

-- the index of an order is one of a table, by its name
abbrev pub NamesOne : Option IndexDef → Standing → Type 0
NamesOne None t = Unit {0}
NamesOne (Some def) t = find def.name (indexes_of t) ≡ Some (index_of def)

abbrev pub Names : the.Order → Standing → Type 0
Names o t = NamesOne o.index t

-- ---- what a step tells
abbrev pub document_at : Placed → Plain
document_at p = p.1.1

abbrev pub difference : Item → Difference
difference i = record { old = option_map document_at i.left; new = option_map document_at i.came; old_at = option_map (λ p. p.0) i.left; new_at = option_map (λ p. p.0) i.came }

abbrev pub told_by : Option Placed → Option Placed → Difference → List Difference
told_by None None d = []
told_by None (Some p) d = d ∷ []
told_by (Some p) o d = d ∷ []

abbrev pub told : Item → List Difference
told i = told_by i.left i.came (difference i)

-- places that a number of a document can say
pub record ArePrintable (i : Item) : Type 0 where
  pub left_within : IsWithin i.left (2 ^ 53)
  pub came_within : IsWithin i.came (2 ^ 53)

-- ---- what it asks for, in pairs
abbrev pub limit_at : Order → Bounds → Limit
limit_at o r = record { spot = spot_of o.index; within = in_bounds r; descending = o.down; size = o.most }

abbrev pub limit_by : Order → Limit
limit_by o = limit_at o (bounds_in o)

abbrev pub limit_of : Feed → Limit
limit_of f = limit_by f.order
