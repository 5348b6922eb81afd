use Rattle.std.proofs.Common.{Some, sym, subst}
use Rattle.reql_session_spec.specs.Tasks.{Settled, close, only_tell}
use Rattle.reql_session_api.specs.Meant.{arms_of}
use Rattle.reql_desk_moves.specs.Steps.{Steps}
use Rattle.reql_open_cursors.specs.Kept.{books_of}
use Rattle.reql_session.proofs.Settled.{settles_closed}
use Rattle.reql_session.proofs.settling.settle.Goals as goal

pub returns-clause-settled : goal.returns-clause-settled
returns-clause-settled g c = λ k clock dice a e.
    settles_closed k g.C.Engine.some_state _ _ c.args.desk.now c.end_arms.new.desk (books_of c.args.shelf.now) (books_of c.close_if_any.new.shelf) clock dice _ (λ b. only_tell b c.args.token a) c.tell.result
    (subst (λ b. Steps k g.C.Engine.some_state c.args.desk.now c.end_arms.new.desk (close (books_of c.args.shelf.now) c.args.token (arms_of c.args.arms.now) Settled (Some a)) (only_tell b c.args.token a)) (sym c.close_if_any.ensures) (c.end_arms.ensures.settled k (books_of c.args.shelf.now) c.args.token (Some a)))
    (λ w. c.tell.ensures k w a e)
