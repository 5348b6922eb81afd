use Rattle.std.proofs.Common.{[], Some, sym, ap, subst}
use Rattle.reql_disk.specs.Calls.{Told}
use Rattle.reql_journal.specs.Opening.{RefusesTable}
use Rattle.reql_journal.proofs.Reading.{opened_table, refused_reading}
use Rattle.reql_journal.proofs.opening.open.Goals as goal

pub returns-in-Ok-read_all-clause-opens : goal.returns-in-Ok-read_all-clause-opens
returns-in-Ok-read_all-clause-opens g c past told =
    let o = c.in-Ok.ensures.opens past told in
    opened_table past o.0 c.read_all.new.reader c.new.result c.finish.result (g.T.Restores.standing c.read_all.new.table) o.1 (c.in-Ok-read_all.ensures.reads [] o.0 o.2 (ap Some (sym c.requires))) c.finish.ensures.rests c.new.ensures.held c.new.ensures.none

pub returns-in-Err-read_all-clause-refuses : goal.returns-in-Err-read_all-clause-refuses
returns-in-Err-read_all-clause-refuses g c past told =
    let o = c.in-Ok.ensures.opens past told in
    subst (λ (d : Told). RefusesTable past d.past c.in-Err-read_all.why) (sym c.into_disk.ensures)
    (refused_reading past o.0 c.read_all.new.reader c.in-Err-read_all.why o.1 (c.in-Err-read_all.ensures.reads [] o.0 o.2 (ap Some (sym c.requires))))
