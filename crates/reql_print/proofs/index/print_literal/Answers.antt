use Rattle.reql_datum.specs.View.{plain}
use Rattle.reql_print.proofs.Indexes.{literal_printed, literal_reads}
use Rattle.reql_print.proofs.index.print_literal.Goals as goal

pub returns-clause-text : goal.returns-clause-text
returns-clause-text c = literal_printed c.args.multi (plain c.args.datum.now) (plain c.in_ok-constant.constant) _ c.in_ok-constant.ensures c.in_ok-text.ensures.text

pub returns-clause-reads_back : goal.returns-clause-reads_back
returns-clause-reads_back c =
    literal_reads c.in_ok-text.text (λ b. b.items) c.args.multi (plain c.args.datum.now) (plain c.in_ok-constant.constant) c.in_ok-constant.ensures c.in_ok-text.ensures.reads_back
