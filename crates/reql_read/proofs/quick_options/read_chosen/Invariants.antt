use Rattle.std.proofs.Common.{ℕ, ◌≤◌, List, length, option_map}
use Rattle.json.specs.Token.{Token}
use Rattle.serde_json.specs.Data.{Members, no_members}
use Rattle.reql_read.specs.Quick.{ReadsMembers, two_options}
use Rattle.reql_read.proofs.quick_options.read_chosen.Given as goal

abbrev pub invariant-options : goal.invariant-options
invariant-options l = (depth : ℕ) (all : Members) (r : List Token) → 2 ≤ depth → ReadsMembers depth l.reader (two_options (option_map (λ s. s.now) l.chosen.db) l.chosen.noreply) all r → ReadsMembers depth l.initial.reader no_members all r

abbrev pub decreases-options : goal.decreases-options
decreases-options l = length l.reader
