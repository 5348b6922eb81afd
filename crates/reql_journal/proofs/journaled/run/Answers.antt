use Rattle.reql_journal.proofs.Answering.{answers_told}
use Rattle.reql_journal.proofs.journaled.run.Goals as goal

pub returns-in-Ok-clause-answers : goal.returns-in-Ok-clause-answers
returns-in-Ok-clause-answers g c =
    answers_told g.E.Engine.machine g.met.E.TableEngine.is_machine g.E.Engine.told g.met.E.TableEngine.tells_all (g.E.Engine.state c.args.engine.now) (g.E.Engine.state c.apply.new.self) c.args.by c.args.order c.in-Ok.reply
    c.in-Ok.ensures.reply c.in-Ok.ensures.recorded c.in-Ok.ensures.counted c.in-Ok.ensures.room c.in-Ok.ensures.same

pub returns-in-Ok-clause-kept : goal.returns-in-Ok-clause-kept
returns-in-Ok-clause-kept g c = g.met.E.Keeping.keeps c.args.engine.now c.apply.new.self c.args.by c.args.order c.in-Ok.reply c.in-Ok.ensures.tells
