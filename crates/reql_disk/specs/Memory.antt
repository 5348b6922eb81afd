-- A disk in memory: what it held, what was done to it, how many calls there were, and which of these, from 0, fail.
use Rattle.std.specs.Prelude.{◌≡◌, ℕ, List, [], ◌∷◌, Some, vec_items}
use Rattle.reql_outside.specs.Source.{is_sound}
use Rattle.reql_disk.specs.Disk.{Step, Wrote, Synced, Past, seen_after, MadeBy}
use Rattle.reql_disk.specs.Calls.{Told}
use Rattle.reql_disk.specs.declared.memory.MemStep.{MemStep}
use Rattle.reql_disk.specs.declared.memory.MemStep.TheVariants as step

pub record Memory : Type 0 where
  pub past : Past
  pub calls : ℕ
  pub fails : List ℕ
  pub faults : ℕ

abbrev pub opening : List ℕ → List ℕ → Memory
opening bytes fails = record { past = record { first = bytes; steps = [] }; calls = 0; fails = fails; faults = 0 }

abbrev pub told_of : Memory → Told
told_of m = record { past = Some m.past; faults = m.faults; sound = is_sound m.fails }

abbrev pub step_of : MemStep → Step
step_of (step.Wrote at count left) = Wrote at count (vec_items left)
step_of step.Synced = Synced

-- the steps, the last of them first
abbrev pub steps_after : List Step → List MemStep → List Step
steps_after older [] = older
steps_after older (s ∷ steps) = steps_after (step_of s ∷ older) steps

abbrev pub steps_of : List MemStep → List Step
steps_of steps = steps_after [] steps

-- its bytes are what a read gives after its steps, each of which was made
pub record Remembers (bytes first : List ℕ) (steps : List Step) : Type 0 where
  pub reads : bytes ≡ seen_after first steps
  pub made : MadeBy first steps
