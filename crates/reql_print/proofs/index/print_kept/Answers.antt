use Rattle.reql_datum.specs.View.{plain}
use Rattle.reql_term.specs.View.{form_of}
use Rattle.reql_print.proofs.Indexes.{constant_printed, constant_reads}
use Rattle.reql_print.proofs.index.print_kept.Goals as goal

pub returns-clause-text : goal.returns-clause-text
returns-clause-text c = constant_printed (plain c.args.datum.now) (form_of c.in_ok-term.term) _ c.requires c.in_ok-term.ensures c.in_ok-text.ensures.text

pub returns-clause-reads_back : goal.returns-clause-reads_back
returns-clause-reads_back c =
    constant_reads c.in_ok-text.text (λ b. b.items) (plain c.args.datum.now) (form_of c.in_ok-term.term) c.requires c.in_ok-term.ensures c.in_ok-text.ensures.reads_back
