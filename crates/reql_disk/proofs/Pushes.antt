-- One step more of a disk in memory.
use Rattle.std.proofs.Common.{◌≡◌, ℕ, ◌≤◌, List, [], ◌∷◌, ◌++◌, length, take, refl, sym, ap, subst, ◌∙◌, arith}
use Rattle.std.proofs.lemmas.List.{length-take-le}
use Rattle.reql_disk.specs.Disk.{Step, Wrote, Past, over, seen}
use Rattle.reql_disk.specs.Memory.{step_of, steps_after, steps_of, Remembers}
use Rattle.reql_disk.specs.declared.memory.MemStep.{MemStep}

steps_more : (older : List Step) (steps : List MemStep) (step : MemStep) → steps_after older (steps ++ step ∷ []) ≡ step_of step ∷ steps_after older steps
steps_more older [] step = refl
steps_more older (s ∷ steps) step = steps_more (step_of s ∷ older) steps step

pub steps_push : (steps : List MemStep) (step : MemStep) → steps_of (steps ++ step ∷ []) ≡ step_of step ∷ steps_of steps
steps_push steps step = steps_more [] steps step

pub remembers_write : (bytes new piece front first : List ℕ) (steps after : List MemStep) (step : MemStep) (at left : ℕ) (past : Past) → Remembers bytes first (steps_of steps) → past ≡ record { first = first; steps = steps_of steps }
    → at ≤ length (seen past) → left ≤ length piece → front ≡ take left piece → new ≡ over bytes at front → step_of step ≡ Wrote at (length piece) front → after ≡ steps ++ step ∷ [] → Remembers new first (steps_of after)
remembers_write bytes new piece front first steps after step at left past r past_is lies short front_is new_is step_is after_is =
    let long : length front ≡ left = ap length front_is ∙ length-take-le left piece short in
    let here : at ≤ length (seen (record { first = first; steps = steps_of steps })) = subst (λ (p : Past). at ≤ length (seen p)) past_is lies in
    subst (Remembers new first) (sym (ap steps_of after_is ∙ steps_push steps step ∙ ap (λ (s : Step). s ∷ steps_of steps) step_is)) (record {
      reads = new_is ∙ ap (λ (b : List ℕ). over b at front) r.reads;
      made = ((here, omega (arith, long)), r.made);
    })
