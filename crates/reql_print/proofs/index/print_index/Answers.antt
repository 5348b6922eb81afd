use Rattle.std.proofs.Common.{◌≡◌, IfSome, sym, subst, ◌∙◌}
use Rattle.reql_datum.specs.View.{plain}
use Rattle.reql_term.specs.Form.{literal}
use Rattle.reql_print.specs.Indexed.{ReadsSameEntries}
use Rattle.reql_print.proofs.index.print_index.Goals as goal

pub returns-in_ok-text-in-Some-clause-reads_back : goal.returns-in_ok-text-in-Some-clause-reads_back
returns-in_ok-text-in-Some-clause-reads_back c =
    let is : literal (plain c.in-Some.datum.now) ≡ c.args.func.now = sym c.in-Some.ensures ∙ c.term-term.ensures in
    subst (λ f. IfSome c.in_ok-text-in-Some.text (λ b. ReadsSameEntries c.args.multi f b.items)) is c.in_ok-text-in-Some.ensures.reads_back
