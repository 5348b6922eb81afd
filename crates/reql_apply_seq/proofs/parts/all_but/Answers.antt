use Rattle.std.proofs.Common.{Ok, sym, ap}
use Rattle.reql_value_spec.specs.Meant.{meant_of}
use Rattle.reql_operand.specs.Seen.{shown}
use Rattle.reql_operand.specs.Tables.{seen}
use Rattle.reql_apply_seq.proofs.parts.all_but.Goals as goal

pub returns-in-Some : goal.returns-in-Some
returns-in-Some g c =
    let w = seen g.V.TableView.documents g.V.TableView.indexes g.V.TableView.entries c.args.world.now in
    let found = c.in_ok-value.ensures w (meant_of (shown w c.args.source.now)) c.requires in
    ap Ok (sym (rw c.in-Some.is at found))
