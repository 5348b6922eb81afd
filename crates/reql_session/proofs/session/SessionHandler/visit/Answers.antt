use Rattle.std.proofs.Common.{[], sym, ap, subst, ◌∙◌}
use Rattle.reql_session_spec.specs.Session.{Visits}
use Rattle.reql_session_api.specs.World.{Outcome, world_at}
use Rattle.reql_open_cursors.specs.Kept.{books_of}
use Rattle.reql_session.specs.Settling.{working}
use Rattle.reql_session.proofs.Turned.{turn_begun}
use Rattle.reql_session.proofs.session.SessionHandler.visit.Goals as goal

pub returns-clause-visited : goal.returns-clause-visited
returns-clause-visited g c = λ held stage.
    let k = (g.P.Planning.talk c.args.self.now.planner.now) in
    let some = g.C.Engine.some_state in
    let clock = g.T.Clock.told c.args.self.now.clock in
    let dice = g.D.Dice.told c.args.self.now.dice in
    let desk = c.args.self.now.desk in
    let x = working some desk (books_of c.take_waiting-tokens.new.self) clock dice in
    let v = working some c.visit_all.new.desk (books_of c.visit_all.new.shelf) clock dice in
    turn_begun k (g.L.Link.tape c.args.link.now) (g.L.Link.tape c.visit_all.new.link) (working g.C.Engine.some_state c.args.self.now.desk (books_of c.args.self.now.shelf) (g.T.Clock.told c.args.self.now.clock) (g.D.Dice.told c.args.self.now.dice)) x v held stage c.visit_all.result (ap (λ z. working some desk z clock dice) c.take_waiting-tokens.ensures.none)
    (subst (λ z. Outcome k (world_at (g.L.Link.tape c.args.link.now) x held stage (Visits z)) (g.L.Link.tape c.visit_all.new.link) v held stage (Visits []) 0 c.visit_all.result) (c.as_slice.ensures.value ∙ c.take_waiting-tokens.ensures.tokens)
    (c.visit_all.ensures.visited k clock dice held stage (sym c.limits.ensures)))
