-- What a table over trees stands for: its documents by rising key, and its indexes by rising name, each with the number of its tree.
use Rattle.std.specs.Prelude.{◌≡◌, ◌<◌, ℕ, List, map, Option, Some, None, option_map}
use Rattle.std.specs.Borrow.{Bor}
use Rattle.std.specs.List.{AllByRecursion, filter}
use Rattle.std.specs.Ordering.{is_eq}
use Rattle.reql_memory.specs.Sorted.{AreRisingBy}
use Rattle.reql_datum.specs.Members.{AreRising, find}
use Rattle.reql_datum.specs.Order.{order}
use Rattle.reql_datum.specs.Plain.{Plain}
use Rattle.reql_term.specs.Views.{Document, Entry, Index, index_of}
use Rattle.reql_rules.specs.Lists.{Bytes}
use Rattle.reql_value_spec.specs.Index.{index_list, index_lists}
use Rattle.reql_table.specs.Keys.{pairs_of}
use Rattle.reql_table.specs.declared.filed.FiledIndex.{FiledIndex}

-- an index with the number of its tree
abbrev pub Numbered : Type 0
Numbered = ℕ × Index

-- the documents, the indexes, and the number of the next tree
abbrev pub Standing : Type 0
Standing = List Document × (List (Bytes × Numbered) × ℕ)

abbrev pub documents_of : Standing → List Document
documents_of t = t.0

abbrev pub unnumbered : List (Bytes × Numbered) → List (Bytes × Index)
unnumbered = map (λ m. (m.0, m.1.1))

abbrev pub indexes_of : Standing → List (Bytes × Index)
indexes_of t = unnumbered t.1.0

abbrev pub numbered_of : Standing → List (Bytes × Numbered)
numbered_of t = t.1.0

abbrev pub next_of : Standing → ℕ
next_of t = t.1.1

-- the entries of each index by the definition of an index
abbrev pub entries_at : Standing → Bytes → List Entry
entries_at t = index_lists t.0 (indexes_of t)

abbrev pub numbered : FiledIndex → Bytes × Numbered
numbered i = (i.def.name, (i.number, index_of i.def))

-- the tree of an index has the entries of the documents
abbrev pub IsFiled : List Document → FiledIndex → Type 0
IsFiled docs i = i.entries ≡ pairs_of (index_list docs (index_of i.def))

-- what holds of each index with its number
abbrev pub Each : (Numbered → Type 0) → List (Bytes × Numbered) → Type 0
Each P = AllByRecursion (λ m. P m.1)

-- a number that was given: above 0, and below the next one
abbrev pub IsGiven : ℕ → Numbered → Type 0
IsGiven next a = (0 < a.0) × (a.0 < next)

-- one number is one index
abbrev pub IsAlike : Numbered → Numbered → Type 0
IsAlike a b = a.0 ≡ b.0 → a.1 ≡ b.1

-- the numbers of indexes, of which the next one is free
pub record AreNumbered (ms : List (Bytes × Numbered)) (next : ℕ) : Type 0 where
  pub some : 0 < next
  pub given : Each (IsGiven next) ms
  pub alike : Each (λ a. Each (IsAlike a) ms) ms

-- each number of a tree was given once
abbrev pub GivesNumbers : Standing → Type 0
GivesNumbers t = AreNumbered (numbered_of t) (next_of t)

-- what a table keeps
pub record Keeps (docs : List Document) (is : List FiledIndex) (next : ℕ) : Type 0 where
  pub documents_rise : AreRisingBy order docs
  pub names_rise : AreRising (map numbered is)
  pub filed : AllByRecursion (IsFiled docs) is
  pub numbers : AreNumbered (map numbered is) next

-- what a look for the index of a name finds
abbrev pub FindsOne : Standing → Bytes → Option FiledIndex → Type 0
FindsOne t name None = find name (indexes_of t) ≡ None
FindsOne t name (Some i) = (find name (indexes_of t) ≡ Some (index_of i.def)) × IsFiled (documents_of t) i

-- the same with the number of its tree
abbrev pub numbered_in : Option (Bor FiledIndex) → Option Numbered
numbered_in o = option_map (λ i. (numbered i.now).1) o

abbrev pub Finds : Standing → Bytes → Option (Bor FiledIndex) → Type 0
Finds t name o = FindsOne t name (option_map (λ i. i.now) o)

-- the entries of a value
abbrev pub of_value : Plain → List Entry → List Entry
of_value k es = filter (λ e. is_eq (order k e.0)) es
