-- What patterns name, gathered by names.
use Rattle.std.specs.Prelude.{◌≡◌, ℕ, suc, ◌≤◌, max, List, [], ◌∷◌, true, if◌then◌else◌, Option, Some, None}
use Rattle.reql_datum.specs.Members.{find, AreRising}
use Rattle.reql_datum.specs.Plain.{Plain, boolean, depth, items_of, pairs_of, items_depth, pairs_depth}
use Rattle.reql_rules.specs.Lists.{Bytes}
use Rattle.reql_rules.specs.Patterns.{Part, nothing, whole, inside, both, field_part, part, part_of_items, part_of_pairs}
use Rattle.reql_rules.specs.Types.{same_text}
use Rattle.reql_path.specs.Normal.{Compiles}
use Rattle.reql_path.specs.declared.gathering.Wanted.{Wanted}
use Rattle.reql_path.specs.declared.gathering.Wanted.TheVariants.{Whole, Inside}

abbrev pub wanted_part : Wanted → Part
wanted_part Whole = whole
wanted_part (Inside ps) = inside ps

abbrev pub part_there : Option Wanted → Part
part_there None = nothing
part_there (Some w) = wanted_part w

abbrev pub named_part : Bytes → List (Bytes × Wanted) → Part
named_part k ws = part_there (find k ws)

-- above how deep the patterns inside are by more than one
abbrev pub reach : Wanted → ℕ
reach Whole = 0
reach (Inside ps) = suc (suc (items_depth (items_of ps)))

abbrev pub reach_there : Option Wanted → ℕ
reach_there None = 0
reach_there (Some w) = reach w

abbrev pub reach_all : List (Bytes × Wanted) → ℕ
reach_all [] = 0
reach_all (w ∷ ws) = max (reach w.1) (reach_all ws)

-- the second names what the first does, and besides what a part says of each name
pub record Gathers (old new : List (Bytes × Wanted)) (more : Bytes → Part) (deep : ℕ) : Type 0 where
  pub parts : (k : Bytes) → named_part k new ≡ both (named_part k old) (more k)
  pub bound : reach_all new ≤ max (reach_all old) (suc deep)
  pub rising : AreRising old → AreRising new

-- a part of one name alone
abbrev pub only : Bytes → Part → Bytes → Part
only j p k = if same_text k j then p else nothing

-- what a member of a pattern names, what its members do, what a pattern does, and what several do
abbrev pub GathersMember : List (Bytes × Wanted) → List (Bytes × Wanted) → Bytes → Plain → Type 0
GathersMember old new j v = Gathers old new (λ k. field_part k j v) (suc (depth v))

abbrev pub GathersMembers : List (Bytes × Wanted) → List (Bytes × Wanted) → List (Bytes × Plain) → Type 0
GathersMembers old new ms = Gathers old new (λ k. part_of_pairs k (pairs_of ms)) (suc (pairs_depth (pairs_of ms)))

abbrev pub GathersPattern : List (Bytes × Wanted) → List (Bytes × Wanted) → Plain → Type 0
GathersPattern old new p = Gathers old new (λ k. part k p) (depth p)

abbrev pub GathersPatterns : List (Bytes × Wanted) → List (Bytes × Wanted) → List Plain → Type 0
GathersPatterns old new ps = Gathers old new (λ k. part_of_items k (items_of ps)) (items_depth (items_of ps))

-- a value in the one form that names the same
abbrev pub StandsFor : Wanted → Plain → Type 0
StandsFor Whole v = v ≡ boolean true
StandsFor (Inside ps) v = Compiles ps v

abbrev pub AllStandFor : List (Bytes × Wanted) → List (Bytes × Plain) → Type 0
AllStandFor [] [] = Unit {0}
AllStandFor [] (m ∷ ms) = ⊥
AllStandFor (w ∷ ws) [] = ⊥
AllStandFor (w ∷ ws) (m ∷ ms) = (m.0 ≡ w.0) × StandsFor w.1 m.1 × AllStandFor ws ms
