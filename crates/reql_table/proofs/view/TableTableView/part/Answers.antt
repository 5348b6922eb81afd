use Rattle.std.proofs.Common.{rules}
use Rattle.reql_term.specs.Views.{entries_in}
use Rattle.reql_table.specs.Seen.{documents_of, indexes_of, entries_at}
use Rattle.reql_table.proofs.Turned.{part_is}
use Rattle.reql_table.proofs.view.TableTableView.part.Goals as goal

pub returns : goal.returns
returns c =
    part_is c.args.most c.args.from (entries_in (documents_of c.args.self.now) (indexes_of c.args.self.now) (entries_at c.args.self.now) c.args.range.now) c.args.range.now.down
    c.in_ok-slice.slice c.in_ok-part.field-0 (search rules) (search rules)
