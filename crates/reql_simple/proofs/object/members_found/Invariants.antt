use Rattle.std.proofs.Common.{◌≡◌, ◌-◌, ◌++◌, length, drop}
use Rattle.std.specs.Map.{keys_of}
use Rattle.reql_term_analysis.specs.Bound.{bound}
use Rattle.reql_simple.specs.Members.{MadeBefore}
use Rattle.reql_simple.proofs.object.members_found.Given as goal

abbrev pub invariant-loop-name : goal.invariant-loop-name
invariant-loop-name l =
    MadeBefore l.place l.limit l.terms (bound l.vars) l.members
    × (keys_of l.members ++ keys_of (drop l.place l.terms) ≡ keys_of l.terms)

abbrev pub decreases-loop-name : goal.decreases-loop-name
decreases-loop-name l = length l.terms - l.place
