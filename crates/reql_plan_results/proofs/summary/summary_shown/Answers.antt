use Rattle.reql_plan_results.proofs.Puts.{summary_puts}
use Rattle.reql_plan_results.proofs.summary.summary_shown.Goals as goal

pub returns : goal.returns
returns c =
    rw (c.in_ok-set_count-6.ensures, c.in_ok-set_count-5.ensures, c.in_ok-set_count-4.ensures, c.in_ok-set_count-3.ensures, c.in_ok-set_if_any.ensures, c.in_ok-set_some_text.ensures, c.in_ok-set_count-2.ensures, c.in_ok-set_count.ensures, c.in_ok-set_some_list.ensures, c.in_ok-fields.ensures)
    (summary_puts c.args.summary.now)
