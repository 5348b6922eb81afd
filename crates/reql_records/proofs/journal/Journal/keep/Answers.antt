use Rattle.std.proofs.Common.{true, false, rules}
use Rattle.reql_records.proofs.Applying.{soft, hard, saves_as}
use Rattle.reql_records.proofs.journal.Journal.keep.Goals as goal

pub returns-then-not-waits-clause-saves : goal.returns-then-not-waits-clause-saves
returns-then-not-waits-clause-saves g c b past k =
    saves_as c.args.waits false _ _ b past c.append_if.new.self (search rules) (soft b past _ c.args.self.now c.append_if.new.self c.append_if.ensures.held c.append_if.ensures.waiting k)

pub returns-clause-saves : goal.returns-clause-saves
returns-clause-saves g c b past k =
    saves_as c.args.waits true _ _ b past c.flush.new.self (search rules) (hard b past _ c.flush.result c.args.self.now c.append_if.new.self c.flush.new.self c.append_if.ensures.held c.append_if.ensures.waiting k c.flush.ensures.flushes)
