use Rattle.std.proofs.Common.{ap, ◌∙◌, subst}
use Rattle.reql_records.specs.Safe.{Saves}
use Rattle.reql_journal.specs.Engines.{texts_of}
use Rattle.reql_journal.proofs.Answering.{texts_are}
use Rattle.reql_journal.proofs.journaled.keep.Goals as goal

pub returns-clause-saves : goal.returns-clause-saves
returns-clause-saves g c =
    subst (λ ts. Saves ts c.args.waits c.args.journal.now c.keep.new.self c.keep.result) (texts_are c.finish-made.result ∙ ap texts_of c.finish-made.ensures) c.keep.ensures.saves
