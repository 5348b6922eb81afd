use Rattle.std.proofs.Common.{true, false, None, sym}
use Rattle.reql_session_spec.specs.Tasks.{Settled, close}
use Rattle.reql_session_api.specs.Meant.{arms_of}
use Rattle.reql_open_cursors.specs.Kept.{books_of}
use Rattle.reql_session.specs.Settling.{working}
use Rattle.reql_session.proofs.Settled.{said_or_not}
use Rattle.reql_session.proofs.settling.give_up.Goals as goal

pub returns-then-noreply-clause-settled : goal.returns-then-noreply-clause-settled
returns-then-noreply-clause-settled g c = λ k clock dice. said_or_not k _ _ (working g.C.Engine.some_state c.args.desk.now (books_of c.args.shelf.now) clock dice) (working g.C.Engine.some_state c.settle_silently.new.desk (books_of c.settle_silently.new.shelf) clock dice) (close (books_of c.args.shelf.now) c.args.token (arms_of c.args.arms.now) Settled) c.args.noreply true None (sym c.if-noreply.true) (c.settle_silently.ensures.settled k (g.L.Link.tape c.args.link.now) clock dice)

pub returns-clause-settled : goal.returns-clause-settled
returns-clause-settled g c = λ k clock dice. said_or_not k _ _ (working g.C.Engine.some_state c.args.desk.now (books_of c.args.shelf.now) clock dice) (working g.C.Engine.some_state c.settle_internal.new.desk (books_of c.settle_internal.new.shelf) clock dice) (close (books_of c.args.shelf.now) c.args.token (arms_of c.args.arms.now) Settled) c.args.noreply false c.settle_internal.result (sym c.if-noreply.false) (c.settle_internal.ensures.settled k clock dice)
