use Rattle.std.proofs.Common.{◌≡◌, rules, sym, ap, ◌∙◌, Ok}
use Rattle.reql_datum.proofs.Back.{listed_back}
use Rattle.reql_apply_path.specs.Merged.{named_in}
use Rattle.reql_apply_path.proofs.having.patterns.Goals as goal

pub returns-in_err-items-clause-patterns : goal.returns-in_err-items-clause-patterns
returns-in_err-items-clause-patterns c w =
    let fails = c.in_err-items.ensures.items w in
    search (rules, fails)

pub returns-in-Ok-clause-patterns : goal.returns-in-Ok-clause-patterns
returns-in-Ok-clause-patterns c w =
    let named : named_in c.in-Ok.pattern ≡ c.in_ok-items.items = ap named_in c.in-Ok.ensures.pattern ∙ listed_back c.in_ok-items.items in
    c.in_ok-items.ensures.items w ∙ ap Ok (sym named)
