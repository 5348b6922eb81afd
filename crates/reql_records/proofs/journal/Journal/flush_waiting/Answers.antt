use Rattle.std.proofs.Common.{map, sym, ap, ◌∙◌, subst}
use Rattle.reql_records.specs.Books.{Keeps}
use Rattle.reql_records.proofs.Flushing.{nothing_waits, not_flushed, none_of}
use Rattle.reql_records.proofs.journal.Journal.flush_waiting.Goals as goal

pub returns-then-is_empty-clause-flushes : goal.returns-then-is_empty-clause-flushes
returns-then-is_empty-clause-flushes g c b past k none =
    let kept = subst (λ j. Keeps b past j) (sym c.self.view_is) k in
    let all = nothing_waits b past _ kept none (ap (map g.R.Record.text) (sym c.as_slice.ensures.value ∙ none_of c.as_slice.result.now (sym c.is_empty.ensures ∙ c.if-is_empty.true))) in
    rw (← c.self.view_is) all

pub returns-in-Err-clause-flushes : goal.returns-in-Err-clause-flushes
returns-in-Err-clause-flushes g c b past k none = not_flushed b past _ _ k
