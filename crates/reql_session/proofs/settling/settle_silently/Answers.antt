use Rattle.std.proofs.Common.{None, refl, sym, subst}
use Rattle.reql_session_spec.specs.Tasks.{Settled, close, done}
use Rattle.reql_session_api.specs.Meant.{arms_of}
use Rattle.reql_desk_moves.specs.Steps.{Steps}
use Rattle.reql_open_cursors.specs.Kept.{books_of}
use Rattle.reql_session.proofs.Settled.{settles_closed, settles_done}
use Rattle.reql_session.proofs.settling.settle_silently.Goals as goal

pub returns-clause-settled : goal.returns-clause-settled
returns-clause-settled g c = λ k t clock dice.
    settles_closed k g.C.Engine.some_state t t c.args.desk.now c.end_arms.new.desk (books_of c.args.shelf.now) (books_of c.close_if_any.new.shelf) clock dice _ done None
    (subst (λ b. Steps k g.C.Engine.some_state c.args.desk.now c.end_arms.new.desk (close (books_of c.args.shelf.now) c.args.token (arms_of c.args.arms.now) Settled None) (done b)) (sym c.close_if_any.ensures) (c.end_arms.ensures.settled k (books_of c.args.shelf.now) c.args.token None))
    (λ w. settles_done k t w w.books refl)
