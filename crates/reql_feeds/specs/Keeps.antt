-- What the open feeds keep among themselves: numbers that rise, and queues of the sizes that were asked for.
use Rattle.std.specs.Prelude.{◌≡◌, ◌<◌, ℕ, nat_eq, cond, List, [], ◌∷◌, map}
use Rattle.std.specs.List.{All}
use Rattle.reql_datum.specs.Plain.{Plain}
use Rattle.reql_table_spec.specs.Table.{Held}
use Rattle.reql_table_machine_spec.specs.Feeds.{Feed}

-- a size of 0 counts as 1
abbrev pub at_least_one : ℕ → ℕ
at_least_one n = cond (nat_eq n 0) 1 n

-- a feed, with the most that may wait in its queue
abbrev pub Sized : Type 0 → Type 0
Sized F = Feed F Plain × ℕ

module _ {F : Type 0} where
  abbrev pub feeds_of : List (Sized F) → List (Feed F Plain)
  feeds_of = map (λ p. p.0)

  -- the numbers are above one, and rise
  abbrev pub AreAbove : ℕ → List (Feed F Plain) → Type 0
  AreAbove n [] = Unit {0}
  AreAbove n (f ∷ fs) = (n < f.number) × AreAbove n fs

  abbrev pub Rise : List (Feed F Plain) → Type 0
  Rise [] = Unit {0}
  Rise (f ∷ fs) = AreAbove f.number fs × Rise fs

  module _ (held : F → Held) where
    abbrev pub IsSized : Sized F → Type 0
    IsSized p = p.1 ≡ at_least_one (held p.0.kept).spec.size

    pub record Keeps (ps : List (Sized F)) : Type 0 where
      pub rise : Rise (feeds_of ps)
      pub sizes : All IsSized ps
