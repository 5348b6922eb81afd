-- A feed's elements at a change of its table.
use Rattle.std.specs.Prelude.{◌≡◌, ℕ, suc, ◌+◌, ◌<◌, ◌≤◌, List, Option, Some, None, length, slice_index_or}
use Rattle.reql_datum.specs.Plain.{Plain}
use Rattle.reql_datum.specs.Order.{order}
use Rattle.reql_memory.specs.Sorted.{AreRisingBy, find_by}
use Rattle.reql_write_spec.specs.Treated.{Changed as Change}
use Rattle.reql_feed_limit.specs.Selection.{Element, Limit, value, changed, facing, turned, index_list}
use Rattle.reql_feed_limit.specs.Edits.{pair_at, element_at}
use Rattle.reql_feed_limit.specs.Items.{Item, Placed, deleted, folded}
use Rattle.reql_feed_limit.specs.Boundary.{kept, kept_element, neighbour}

-- the elements are the feed's value on a table in which the change finds its old document, and `after` is that table after the change
pub record Stands (l : Limit) (es : List Element) (c : Change) (after : List (Plain × Plain)) : Type 0 where
  pub docs : List (Plain × Plain)
  pub rising : AreRisingBy order docs
  pub old : find_by order c.key docs ≡ c.old
  pub held : es ≡ value l docs
  pub changes : after ≡ changed c docs

-- an item that can be folded into elements, and leaves at most `size` of them
abbrev pub IsWithin : Option Placed → ℕ → Type 0
IsWithin None n = Unit {0}
IsWithin (Some p) n = p.0 < n

pub record Installs (size : ℕ) (es : List Element) (i : Item) : Type 0 where
  pub left_within : IsWithin i.left (length es)
  pub came_within : IsWithin i.came (length (deleted i.left es) + 1)
  pub fits : length (folded i es) ≤ size

-- what follows elements that are full: the next element of the index after the last of them, if it lies between the bounds
pub record Follows (l : Limit) (es : List Element) (after : List (Plain × Plain)) (o : Option Element) : Type 0 where
  pub short : length es < l.size → o ≡ None
  pub full : l.size ≤ length es → (k : ℕ) (b : Element) → suc k ≡ length es → slice_index_or es k b ≡ b → o ≡ kept_element l.within (neighbour (facing l.descending) b.0 (turned l.descending (index_list l.spot after)))

-- the pair that goes by a change, and the element that comes, where they lie between the bounds
abbrev pub going : Limit → Change → Option Plain
going l c = kept l.within (pair_at l.spot c.key c.old)

abbrev pub arriving : Limit → Change → Option Element
arriving l c = kept_element l.within (element_at l.spot c.key c.new)
