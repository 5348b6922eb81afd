use Rattle.std.specs.Prelude.{ℕ, List, [], ◌∷◌, ◌++◌, map}
use Rattle.std.specs.List.{flat_map}
use Rattle.reql_outside.specs.declared.script.LinkStep.{LinkStep}
use Rattle.reql_outside.specs.declared.script.LinkStep.TheVariants as step

-- what a link in memory plays: a byte that comes, a recv that is idle, a recv that fails
pub data Play : Type 0 where
  Byte : ℕ → Play
  Quiet : Play
  Broken : Play

abbrev pub plays_at : LinkStep → List Play
plays_at (step.Give bytes) = map Byte bytes.items
plays_at step.Idle = Quiet ∷ []
plays_at step.Fail = Broken ∷ []

-- a script, byte by byte
abbrev pub plays_of : List LinkStep → List Play
plays_of steps = flat_map plays_at steps

-- a script that is played: the bytes at its front, and what comes later
pub record Scripted : Type 0 where
  pub piece : List ℕ
  pub later : List Play

abbrev pub left_of : Scripted → List Play
left_of s = map Byte s.piece ++ s.later
