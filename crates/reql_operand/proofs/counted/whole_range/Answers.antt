use Rattle.reql_term.specs.Views.{entries_of}
use Rattle.reql_operand.proofs.Whole.{any_between}
use Rattle.reql_operand.proofs.counted.whole_range.Goals as goal

pub returns : goal.returns
returns c = λ documents indexes entries. any_between (entries_of documents indexes entries c.args.index)
