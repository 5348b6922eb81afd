-- What one change of a document does to an ordered list: a key goes, and a key comes.
use Rattle.std.specs.Prelude.{◌≡◌, ℕ, List, Option, Some, None}
use Rattle.std.specs.declared.cmp.Ordering.{Ordering}
use Rattle.std.specs.Map.{keys_of}
use Rattle.reql_datum.specs.Plain.{Plain}
use Rattle.reql_memory.specs.Sorted.{put_by, without_by, IsHitBy}
use Rattle.reql_feed_limit.specs.Selection.{Element, Spot}

abbrev pub with_gone : {K V : Type 0} → (K → K → Ordering) → Option K → List (K × V) → List (K × V)
with_gone cmp None ms = ms
with_gone cmp (Some k) ms = without_by cmp k ms

abbrev pub with_come : {K V : Type 0} → (K → K → Ordering) → Option (K × V) → List (K × V) → List (K × V)
with_come cmp None ms = ms
with_come cmp (Some m) ms = put_by cmp m.0 m.1 ms

abbrev pub edited : {K V : Type 0} → (K → K → Ordering) → Option K → Option (K × V) → List (K × V) → List (K × V)
edited cmp gone come ms = with_come cmp come (with_gone cmp gone ms)

-- under which pair the document at a key stands, if there is one
abbrev pub pair_at : Spot → Plain → Option Plain → Option Plain
pair_at spot key None = None
pair_at spot key (Some doc) = spot key doc

abbrev pub paired : Option Plain → Plain → Option Element
paired None doc = None
paired (Some pair) doc = Some (pair, doc)

-- as what the document at a key stands in the index, if there is one
abbrev pub element_at : Spot → Plain → Option Plain → Option Element
element_at spot key None = None
element_at spot key (Some doc) = paired (spot key doc) doc

-- two documents at different keys never stand under one pair
pub record Keyed (spot : Spot) : Type 0 where
  pub apart : (k l d e p : Plain) → spot k d ≡ Some p → spot l e ≡ Some p → k ≡ l

-- the pair that goes stands at a place
abbrev pub Hits : (Plain → Plain → Ordering) → Option Plain → List Element → ℕ → Type 0
Hits cmp None es i = ⊥
Hits cmp (Some g) es i = IsHitBy cmp (keys_of es) g i
