use Rattle.std.proofs.Common.{◌≡◌, ◌++◌, drop, map, Ok}
use Rattle.std.specs.Map.{keys_of}
use Rattle.reql_datum.specs.Answer.{◌>>=◌}
use Rattle.reql_rules.specs.Lists.{each}
use Rattle.reql_value_spec.specs.Meaning.{member_datum}
use Rattle.reql_value_spec.specs.World.{World}
use Rattle.reql_operand.specs.Seen.{all_chosen}
use Rattle.reql_term_analysis.proofs.object.members_of.Given as goal

abbrev pub invariant-loop-choice : goal.invariant-loop-choice
invariant-loop-choice l =
    ((w : World) → each member_datum (all_chosen w l.choices) ≡ (each member_datum (all_chosen w (drop l.choice-index l.choices)) >>= λ ms. Ok (l.fields ++ ms)))
    × (keys_of l.fields ++ map (λ o. o.name) (drop l.choice-index l.choices) ≡ map (λ o. o.name) l.choices)
