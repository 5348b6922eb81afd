use Rattle.std.proofs.Common.{◌≡◌, ◌++◌, ◌-◌, drop, length, option_map}
use Rattle.reql_term.specs.Views.{entries_of, all_of}
use Rattle.reql_table.specs.Seen.{documents_of, indexes_of, entries_at}
use Rattle.reql_table.proofs.view.TableTableView.get_all.Given as goal

abbrev pub decreases-loop-key : goal.decreases-loop-key
decreases-loop-key l = length l.keys - l.place

abbrev pub invariant-loop-key : goal.invariant-loop-key
invariant-loop-key l =
    option_map (λ es. l.all ++ all_of (drop l.place l.keys) es) (entries_of (documents_of l.self) (indexes_of l.self) (entries_at l.self) (option_map (λ n. n.now) l.index))
    ≡ option_map (all_of l.keys) (entries_of (documents_of l.self) (indexes_of l.self) (entries_at l.self) (option_map (λ n. n.now) l.index))
