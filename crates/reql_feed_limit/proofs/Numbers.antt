-- The number of the tree of an index that a table has.
use Rattle.std.proofs.Common.{◌≡◌, ℕ, nat_eq, List, true, false, Option, Some, None, option_map, refl, sym, ap, ◌∙◌}
use Rattle.reql_memory.proofs.Mapped.{find_map}
use Rattle.reql_datum.specs.Members.{find, text_order}
use Rattle.reql_rules.specs.Lists.{Bytes}
use Rattle.reql_term.specs.Views.{Index}
use Rattle.reql_table.specs.Seen.{Numbered, Standing, unnumbered, indexes_of, numbered_of}
use Rattle.reql_table.specs.Trees.{index_at, has_tree, number_of, HasOwnTrees}

defined : (name : Bytes) (ms : List (Bytes × Numbered)) → find name (unnumbered ms) ≡ option_map (λ m. m.1) (find name ms)
defined name ms = find_map text_order text_order (λ k. k) (λ (m : Numbered). m.1) (λ j k. refl) name ms

module _ (t : Standing) (own : HasOwnTrees t) (name : Bytes) (i : Index) (is : find name (indexes_of t) ≡ Some i) where
  number_at : (r : Option Numbered) → find name (numbered_of t) ≡ r → option_map (λ m. m.1) r ≡ Some i → (n : ℕ) → Some n ≡ option_map (λ m. m.0) r → (nat_eq n 0 ≡ false) × (index_at n (numbered_of t) ≡ Some i)
  number_at None found def n at = cc
  number_at (Some m) found def n at =
      let same : n ≡ m.0 = some_number n m.0 at in
      let its = own name m found in
      (ap (λ k. nat_eq k 0) same ∙ its.0, ap (λ k. index_at k (numbered_of t)) same ∙ its.1 ∙ def)
    where
      some_number : (a b : ℕ) → Some a ≡ Some b → a ≡ b
      some_number a b e = cc

  its_tree : (n : ℕ) → Some n ≡ number_of (Some name) t → (nat_eq n 0 ≡ false) × (index_at n (numbered_of t) ≡ Some i)
  its_tree n at = number_at (find name (numbered_of t)) refl (sym (defined name (numbered_of t)) ∙ is) n at

  pub its_other : (n : ℕ) → Some n ≡ number_of (Some name) t → nat_eq n 0 ≡ false
  its_other n at = (its_tree n at).0

  pub its_index : (n : ℕ) → Some n ≡ number_of (Some name) t → index_at n (numbered_of t) ≡ Some i
  its_index n at = (its_tree n at).1

  none_at : (r : Option Numbered) → option_map (λ m. m.1) r ≡ Some i → None ≡ option_map (λ m. m.0) r → ⊥
  none_at None def at = absurd (let f : None ≡ Some i = def in cc)
  none_at (Some m) def at = absurd (let f : None ≡ Some m.0 = at in cc)

  pub no_tree : None ≡ number_of (Some name) t → ⊥
  no_tree at = none_at (find name (numbered_of t)) (sym (defined name (numbered_of t)) ∙ is) at

  pub its_there : (n : ℕ) → Some n ≡ number_of (Some name) t → has_tree t n ≡ true
  its_there n at = let its = its_tree n at in rw (its.0, its.1) refl
