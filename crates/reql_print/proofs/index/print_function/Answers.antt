use Rattle.reql_term.specs.View.{form_of}
use Rattle.reql_print.proofs.Indexes.{function_printed, function_reads}
use Rattle.reql_print.proofs.index.print_function.Goals as goal

pub returns-clause-text : goal.returns-clause-text
returns-clause-text c = function_printed c.args._multi (form_of c.args.term.now) _ c.requires c.in_ok-text.ensures.text

pub returns-clause-reads_back : goal.returns-clause-reads_back
returns-clause-reads_back c = function_reads c.in_ok-text.text (λ b. b.items) c.args._multi (form_of c.args.term.now) c.in_ok-text.ensures.reads_back
