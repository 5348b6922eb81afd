-- The trees of a table by their numbers: that of number 0 has the documents, the others have the entries of the indexes.
use Rattle.std.specs.Prelude.{◌≡◌, ◌<◌, ◌≤◌, ℕ, nat_eq, List, [], ◌∷◌, Bool, false, if◌then◌else◌, Option, Some, None, is_some, option_map}
use Rattle.std.specs.Option.{unwrap_or}
use Rattle.reql_datum.specs.Members.{find}
use Rattle.reql_datum.specs.Plain.{Plain}
use Rattle.reql_rules.specs.Lists.{Bytes}
use Rattle.reql_term.specs.Views.{Document, Index}
use Rattle.reql_value_spec.specs.Index.{index_list}
use Rattle.reql_table.specs.Keys.{pairs_of}
use Rattle.reql_table.specs.Seen.{Numbered, Standing, documents_of, numbered_of, next_of}

-- the definition of the index whose tree has a number
abbrev pub index_at : ℕ → List (Bytes × Numbered) → Option Index
index_at n [] = None
index_at n (m ∷ ms) = if nat_eq m.1.0 n then Some m.1.1 else index_at n ms

-- the pairs of that tree
abbrev pub index_tree : List Document → ℕ → List (Bytes × Numbered) → Option (List (Plain × Plain))
index_tree docs n ms = option_map (λ i. pairs_of (index_list docs i)) (index_at n ms)

-- the pairs of the tree of a number, where there is one
abbrev pub pairs_at : Standing → ℕ → Option (List (Plain × Plain))
pairs_at t n = if nat_eq n 0 then Some (documents_of t) else index_tree (documents_of t) n (numbered_of t)

abbrev pub has_tree : Standing → ℕ → Bool
has_tree t n = is_some (pairs_at t n)

abbrev pub tree_pairs : Standing → ℕ → List (Plain × Plain)
tree_pairs t n = unwrap_or (pairs_at t n) []

-- the number of the tree of an index by its name, or of the primary order
abbrev pub number_of : Option Bytes → Standing → Option ℕ
number_of None t = Some 0
number_of (Some name) t = option_map (λ m. m.0) (find name (numbered_of t))

-- each index has a tree of its own: that of its number is no other's
abbrev pub HasOwnTrees : Standing → Type 0
HasOwnTrees t = (name : Bytes) (m : Numbered) → find name (numbered_of t) ≡ Some m → (nat_eq m.0 0 ≡ false) × (index_at m.0 (numbered_of t) ≡ Some m.1)

-- after edits of t: no number was given again, so a tree of u whose number t had given is t's tree of that number
pub record Follows (t u : Standing) : Type 0 where
  pub next : next_of t ≤ next_of u
  pub trees : (n : ℕ) (i : Index) → n < next_of t → index_at n (numbered_of u) ≡ Some i → index_at n (numbered_of t) ≡ Some i
