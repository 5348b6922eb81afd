use Rattle.std.proofs.Common.{rules, option_map}
use Rattle.reql_datum.specs.View.{plain}
use Rattle.reql_term.specs.Views.{entries_of}
use Rattle.reql_table.specs.Seen.{documents_of, indexes_of, entries_at}
use Rattle.reql_table.proofs.Turned.{added}
use Rattle.reql_table.proofs.table.Table.add_at.Goals as goal

pub returns : goal.returns
returns c =
    added (entries_of (documents_of c.args.self.now) (indexes_of c.args.self.now) (entries_at c.args.self.now) (option_map (λ n. n.now) c.args.index))
    c.args.all.now c.add_all.new.all (plain c.args.key.now) c.in_ok-slice.slice (search rules) (search rules)
