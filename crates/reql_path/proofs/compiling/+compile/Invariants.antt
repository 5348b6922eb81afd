use Rattle.std.proofs.Common.{◌+◌, ◌*◌, length}
use Rattle.reql_datum.specs.Plain.{items_of, items_depth}
use Rattle.reql_path.specs.Named.{reach, reach_all}
use Rattle.reql_path.proofs.Compiled.{Builds}
use Rattle.reql_path.proofs.compiling.+compile.Given as goal

abbrev pub decreases-compiled : goal.decreases-compiled
decreases-compiled l = 3 * (items_depth (items_of l.patterns.now) + 1) + 2

abbrev pub decreases-built : goal.decreases-built
decreases-built l = 3 * reach_all l.named.entries + 1

abbrev pub decreases-standing : goal.decreases-standing
decreases-standing l = 3 * reach l.wanted

abbrev pub invariant-built-loop-name : goal.invariant-built-loop-name
invariant-built-loop-name l = Builds l.fields l.named.entries l.fn.named.entries

abbrev pub decreases-built-loop-name : goal.decreases-built-loop-name
decreases-built-loop-name l = length l.named.entries
