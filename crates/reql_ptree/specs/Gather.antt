-- What a part of a tree, with a chunk that waits before it, adds to what was given.
use Rattle.std.specs.Prelude.{◌≡◌, ℕ, ◌-◌, true, List, ◌++◌, length, take, None, option_map}
use Rattle.reql_datum.specs.Plain.{Plain}
use Rattle.reql_ptree.specs.Ends.{cut_seen, is_before, between, given, start_of, end_of}
use Rattle.reql_ptree.specs.Pairs.{Opens}
use Rattle.reql_ptree.specs.Spent.{IsSpent, credit}
use Rattle.reql_ptree.specs.declared.range.Range.{Range}

-- the values up to so many
abbrev pub Gives : Range → List (Plain × Plain) → List Plain → List Plain → Type 0
Gives range ms before after = after ≡ take range.most (before ++ given range.falling (between (option_map cut_seen range.low) (option_map cut_seen range.high) ms))

-- and in so many steps
abbrev pub Spends : Range → List (Plain × Plain) → List (Plain × Plain) → ℕ → List Plain → ℕ → ℕ → Type 0
Spends range waiting ms height given_before before after =
    IsSpent (start_of range.falling (option_map cut_seen range.low) (option_map cut_seen range.high)) (end_of range.falling (option_map cut_seen range.low) (option_map cut_seen range.high)) (length waiting) (length ms) height
    (range.most - length given_before) (length (between (option_map cut_seen range.low) (option_map cut_seen range.high) (waiting ++ ms))) (credit (option_map cut_seen range.low) waiting) before after

-- a waiting chunk begins before the high end, where there is no low one
abbrev pub Waits : Range → List (Plain × Plain) → Type 0
Waits range ms = option_map cut_seen range.low ≡ None → Opens (λ k. is_before (option_map cut_seen range.high) k ≡ true) ms
