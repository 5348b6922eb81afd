-- How many steps a part of a range takes: one for each pair that is given, and two ways down.
use Rattle.std.specs.Prelude.{◌≡◌, ℕ, ◌+◌, ◌<◌, ◌≤◌, min, ◌⊎◌, List, [], ◌∷◌, Bool, Option, Some, None}
use Rattle.reql_datum.specs.Plain.{Plain}
use Rattle.reql_ptree.specs.Tall.{digits, least}

-- a way through a part of n pairs, and then through one chunk, which is a waiting one or one of the part
pub record IsPath (cost waiting n height : ℕ) : Type 0 where
  pub chunk : ℕ
  pub few : chunk ≤ 15
  pub is : cost ≤ height + digits chunk
  pub fits : (chunk ≤ waiting) ⊎ ((0 < height) × (least height + chunk ≤ n + 1))

-- the look at the first pair of a waiting chunk counts for its node
abbrev pub credit : Option (Plain × Bool) → List (Plain × Plain) → ℕ
credit (Some c) ms = 0
credit None [] = 0
credit None (m ∷ ms) = 1

-- of a part with so many pairs to give and room for so many, between two ends in the order in which they are reached
pub record IsSpent (start_is end_is : Option (Plain × Bool)) (waiting n height room all owed before after : ℕ) : Type 0 where
  pub start_way : ℕ
  pub end_way : ℕ
  pub start_path : IsPath start_way waiting n height
  pub end_path : IsPath end_way waiting n height
  pub start_free : start_is ≡ None → start_way ≡ 0
  pub end_free : end_is ≡ None → all ≤ room → end_way ≡ 0
  pub cost : after + owed ≤ before + (min room all + start_way + end_way)
