use Rattle.std.proofs.Common.{IfOk, sym, subst}
use Rattle.reql_operand.specs.Seen.{meant, left_of, documents_at}
use Rattle.reql_operand.specs.Tables.{seen}
use Rattle.reql_apply_seq.specs.Sources.{HasRowsOf}
use Rattle.reql_apply_seq.proofs.source.source_in.Goals as goal

pub returns-in-Unread-clause-rows : goal.returns-in-Unread-clause-rows
returns-in-Unread-clause-rows g c =
    let w = seen g.V.TableView.documents g.V.TableView.indexes g.V.TableView.entries c.args.world.now in
    subst (λ v. IfOk c.sliced.result (λ s. HasRowsOf (meant w v) s)) (sym c.in-Unread.is)
    (c.sliced.ensures.rows (left_of c.in-Unread.slice (documents_at w c.in-Unread.slot c.in-Unread.range)))
