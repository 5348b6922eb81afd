-- What a table is as it is read: its documents by primary key, and its secondary indexes with their entries.
use Rattle.std.specs.Prelude.{◌≡◌, ℕ, List, [], ◌∷◌, ◌++◌, map, reverse, Bool, ◌&&◌, if◌then◌else◌, Option, Some, None, option_map, Result, Ok, Err}
use Rattle.std.specs.List.{filter, AllByRecursion}
use Rattle.std.specs.List.Sorted.{IsStrictlySortedBy}
use Rattle.std.specs.Ordering.{is_lt, is_le, is_eq, ordering_then}
use Rattle.std.specs.declared.cmp.Ordering.{Ordering}
use Rattle.reql_memory.specs.Sorted.{find_by}
use Rattle.reql_datum.specs.Members.{find}
use Rattle.reql_datum.specs.Order.{order}
use Rattle.reql_datum.specs.Plain.{Plain}
use Rattle.reql_datum.specs.View.{plain}
use Rattle.reql_term.specs.Form.{Form}
use Rattle.reql_term.specs.declared.range.Range.{Range}
use Rattle.reql_term.specs.declared.view.Entries.{Entries}
use Rattle.reql_term.specs.declared.view.IndexDef.{IndexDef}
use Rattle.reql_term.specs.declared.view.ViewFault.{ViewFault}
use Rattle.reql_term.specs.declared.view.ViewFault.TheVariants.{IndexMissing, Memory}

-- a document with its primary key, and an entry of an index: its value with such a document
abbrev pub Document : Type 0
Document = Plain × Plain

abbrev pub Entry : Type 0
Entry = Plain × Document

-- the function of an index, and whether it is a multi index
abbrev pub Index : Type 0
Index = Form × Bool

abbrev pub index_of : IndexDef → Index
index_of d = (d.func, d.multi)

-- entries in the order of an index: by their values, then by primary key, and no two alike
abbrev pub entry_order : Entry → Entry → Ordering
entry_order e f = ordering_then (order e.0 f.0) (order e.1.0 f.1.0)

abbrev pub AreInOrder : List Entry → Type 0
AreInOrder es = IsStrictlySortedBy entry_order es

-- each entry is one of a document that is there
abbrev pub AreOf : List Document → List Entry → Type 0
AreOf documents es = AllByRecursion (λ e. find_by order e.1.0 documents ≡ Some e.1.1) es

-- in the primary order the one entry of a document is its key
abbrev pub primary : List Document → List Entry
primary ms = map (λ m. (m.0, m)) ms

-- the entries of an index, or of the primary order; none where no index has the name
abbrev pub entries_of : List Document → List (List ℕ × Index) → (List ℕ → List Entry) → Option (List ℕ) → Option (List Entry)
entries_of documents indexes entries None = Some (primary documents)
entries_of documents indexes entries (Some name) = option_map (λ _. entries name) (find name indexes)

-- the entries between two bounds, each of them left out where it is open, in order or in the reverse
abbrev pub is_above : Bool → Plain → Plain → Bool
is_above is_open bottom value = if is_open then is_lt (order bottom value) else is_le (order bottom value)

abbrev pub is_below : Bool → Plain → Plain → Bool
is_below is_open top value = if is_open then is_lt (order value top) else is_le (order value top)

abbrev pub directed : Bool → List Entry → List Entry
directed down es = if down then reverse es else es

abbrev pub entries_between : Plain → Bool → Plain → Bool → Bool → List Entry → List Entry
entries_between bottom low_open top high_open down es = directed down (filter (λ e. is_above low_open bottom e.0 && is_below high_open top e.0) es)

abbrev pub documents_in : List Entry → List Plain
documents_in es = map (λ e. e.1.1) es

abbrev pub values_in : List Entry → List Plain
values_in es = map (λ e. e.0) es

abbrev pub between : Plain → Bool → Plain → Bool → Bool → List Entry → List Plain
between bottom low_open top high_open down es = documents_in (entries_between bottom low_open top high_open down es)

-- the entries of a range; none where no index has its name
abbrev pub ranged : Range → List Entry → List Entry
ranged r es = entries_between (plain r.low.value) r.low.is_open (plain r.high.value) r.high.is_open r.down es

abbrev pub entries_in : List Document → List (List ℕ × Index) → (List ℕ → List Entry) → Range → Option (List Entry)
entries_in documents indexes entries r = option_map (ranged r) (entries_of documents indexes entries r.index)

-- the values of entries beside their documents
abbrev pub beside : List Entry → List Plain × List Plain
beside es = (values_in es, documents_in es)

abbrev pub seen_beside : Entries → List Plain × List Plain
seen_beside e = (e.values, e.documents)

-- the documents of the entries of each key, in the order of the keys
abbrev pub all_of : List Plain → List Entry → List Plain
all_of [] es = []
all_of (k ∷ ks) es = documents_in (filter (λ e. is_eq (order k e.0)) es) ++ all_of ks es

-- What a call returned is what a definition gives, which is nothing where no index has the name, unless memory ran out.
abbrev pub Views : {X Y : Type 0} → (X → Y) → Result X ViewFault → Option Y → Type 0
Views view (Ok x) meant = meant ≡ Some (view x)
Views view (Err IndexMissing) meant = meant ≡ None
Views view (Err Memory) meant = Unit {0}
