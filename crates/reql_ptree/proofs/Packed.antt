-- What a side of one chunk adds to others' pairs, and how high a node is whose side may have got lower.
use Rattle.std.proofs.Common.{◌≡◌, ℕ, ◌+◌, ◌<◌, ◌≤◌, max, inl, inr, List, [], ◌++◌, map, sym, ap, ◌∙◌, arith}
use Rattle.std.proofs.lemmas.Bool.{cases_lt}
use Rattle.std.proofs.lemmas.List.{append-nil, map-append}
use Rattle.reql_datum.specs.Plain.{Plain}
use Rattle.reql_ptree.specs.Chunk.{pair}
use Rattle.reql_ptree.specs.Side.{IsNodeOf, Settles}
use Rattle.reql_ptree.specs.Tall.{DifferByAtMost}
use Rattle.reql_ptree.specs.declared.chunk.Pair.{Pair}
use Rattle.reql_ptree.specs.declared.side.Node.{Node}

-- the pairs of a side of nothing, and of one that is one chunk
pub none_added : (xs : List (Plain × Plain)) (d : List (Plain × Plain) × ℕ) → d ≡ ([], 0) → xs ≡ xs ++ d.0
none_added xs d is = sym (ap (λ (v : List (Plain × Plain) × ℕ). xs ++ v.0) is ∙ append-nil xs)

pub none_low : (d : List (Plain × Plain) × ℕ) → d ≡ ([], 0) → d.1 ≤ 1
none_low d is = omega (arith, ap (λ (v : List (Plain × Plain) × ℕ). v.1) is)

module _ {d : List (Plain × Plain) × ℕ} {n : Node} (at : IsNodeOf d n) (left : n.left ≡ ([], 0)) (right : n.right ≡ ([], 0)) where
  one_is : d.0 ≡ n.chunk
  one_is = at.pairs ∙ ap (λ (v : List (Plain × Plain) × ℕ). v.0 ++ (n.chunk ++ n.right.0)) left ∙ ap (λ (v : List (Plain × Plain) × ℕ). n.chunk ++ v.0) right ∙ append-nil n.chunk

  pub one_added : (new old ps : List Pair) → new ≡ old ++ ps → map pair ps ≡ n.chunk → map pair new ≡ map pair old ++ d.0
  one_added new old ps is there = ap (map pair) is ∙ map-append pair old ps ∙ ap (λ t. map pair old ++ t) (there ∙ sym one_is)

  pub one_low : d.1 ≤ 1
  one_low = omega (arith, at.node.high, ap (λ (v : List (Plain × Plain) × ℕ). v.1) left, ap (λ (v : List (Plain × Plain) × ℕ). v.1) right)

-- a node that got lower by one at most is balanced
pub settles_below : (l r h below : ℕ) → Settles l r h → max l r ≤ below → below ≤ max l r + 1 → (max l r < below → DifferByAtMost 1 l r) → (below ≤ h) × (h ≤ below + 1)
settles_below l r h below is low high even =
    elim (cases_lt (max l r) below) [
      | inl less ↦ let e = is.even (even less) in (omega (arith, e, high), omega (arith, e, low))
      | inr more ↦ (omega (arith, more, low, is.not_lower), omega (arith, low, is.one_higher))
    ]
