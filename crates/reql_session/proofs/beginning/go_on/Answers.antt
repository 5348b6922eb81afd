use Rattle.std.proofs.Common.{refl, sym, ap, ◌∙◌}
use Rattle.reql_session_spec.specs.Books.{cursor_of}
use Rattle.reql_session_spec.specs.Tasks.{continue_feed, continue_on}
use Rattle.reql_open_cursors.specs.Kept.{books_of}
use Rattle.reql_session.specs.Settling.{working}
use Rattle.reql_session.proofs.Begun.{of_some, of_none, either_as}
use Rattle.reql_session.proofs.beginning.go_on.Goals as goal

pub returns-then-is_some-clause-keeps : goal.returns-then-is_some-clause-keeps
returns-then-is_some-clause-keeps g c = c.continue_cursor.ensures.keeps _ c.requires.keeps

pub returns-then-is_some-clause-continued : goal.returns-then-is_some-clause-continued
returns-then-is_some-clause-continued g c = λ k clock dice l.
    let b = books_of c.args.shelf.now in
    let some = g.C.Engine.some_state in
    let found = of_some _ c.cursor.result (cursor_of c.args.token b.cursors) c.cursor.ensures (sym c.is_some.ensures ∙ c.if-is_some.true) in
    either_as k (g.L.Link.tape c.args.link.now) (g.L.Link.tape c.continue_cursor.new.link) (working some c.args.desk.now b clock dice) (working some c.args.desk.now (books_of c.continue_cursor.new.shelf) clock dice) c.args.token _ _ c.continue_cursor.result (ap (continue_on k b c.args.token) (sym found.1))
    (c.continue_cursor.ensures.continued k (working some c.args.desk.now b clock dice) found.0 l refl c.requires.keeps.apart found.1)

pub returns-clause-continued : goal.returns-clause-continued
returns-clause-continued g c = λ k clock dice l.
    let b = books_of c.args.shelf.now in
    let some = g.C.Engine.some_state in
    let none = of_none _ c.cursor.result (cursor_of c.args.token b.cursors) c.cursor.ensures (sym c.is_some.ensures ∙ c.if-is_some.false) in
    either_as k (g.L.Link.tape c.args.link.now) (g.L.Link.tape c.continue_feed.new.link) (working some c.args.desk.now b clock dice) (working some c.continue_feed.new.desk (books_of c.continue_feed.new.shelf) clock dice) c.args.token (continue_feed k b c.args.token _) _ c.continue_feed.result (ap (continue_on k b c.args.token) (sym none))
    (c.continue_feed.ensures.continued k clock dice l)
