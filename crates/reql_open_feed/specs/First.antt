-- A limit feed with its request.
use Rattle.std.specs.Prelude.{◌≡◌, ◌<◌, ℕ, List, Option, Some, None, is_some}
use Rattle.reql_term.specs.Views.{Document, Index}
use Rattle.reql_table_spec.specs.Table.{Held}
use Rattle.reql_table.specs.Seen.{Standing, numbered_of, next_of}
use Rattle.reql_feed_limit.specs.Asked.{IsOf}
use Rattle.reql_feed_limit.specs.Feed.{Feed, Shows}
use Rattle.reql_feed_limit.specs.Items.{Item, folded}
use Rattle.reql_feed_limit.specs.Order.{first_in, pairs_in}
use Rattle.reql_feed_limit.specs.Stands.{Installs}
use Rattle.reql_opening.specs.Opens.{IsOnly}

-- what is kept of the request, and the feed of its order; none where the request is none for the first of an order
pub record First : Type 0 where
  pub held : Held
  pub feed : Option Feed

abbrev pub Keeps : First → Type 0
Keeps f = IsOf f.feed f.held

-- its elements are what it shows of documents
abbrev pub FirstFits : Option Feed → List Document → Type 0
FirstFits None docs = Unit {0}
FirstFits (Some f) docs = Shows f docs

-- the tree of its order was given by a table, and its number is no other index's
abbrev pub FindsTree : ℕ → Option Index → Standing → Type 0
FindsTree n None t = Unit {0}
FindsTree n (Some i) t = (n < next_of t) × IsOnly n i (numbered_of t)

abbrev pub FirstReads : Option Feed → Standing → Type 0
FirstReads None t = Unit {0}
FirstReads (Some f) t = FindsTree f.tree f.order.index t

-- a step of its elements, and one that makes them what it shows of documents
abbrev pub FirstInstalls : Option Feed → Item → Type 0
FirstInstalls None i = ⊥
FirstInstalls (Some f) i = Installs f.order.most f.elements i

abbrev pub Comes : Feed → Item → List Document → Type 0
Comes f i docs = folded i f.elements ≡ pairs_in (is_some f.order.index) (first_in f.order docs)

abbrev pub FirstBrings : Option Feed → Item → List Document → Type 0
FirstBrings None i docs = ⊥
FirstBrings (Some f) i docs = Comes f i docs
