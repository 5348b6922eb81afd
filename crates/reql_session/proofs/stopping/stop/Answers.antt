use Rattle.std.proofs.Common.{sym, subst, ◌∙◌}
use Rattle.reql_session_spec.specs.Books.{cursor_of, feed_of}
use Rattle.reql_session_spec.specs.Tasks.{stop, stop_feed}
use Rattle.reql_open_cursors.specs.Kept.{books_of}
use Rattle.reql_session.specs.Settling.{working, Settles}
use Rattle.reql_session.proofs.Begun.{of_some, of_none}
use Rattle.reql_session.proofs.Stopped.{no_more}
use Rattle.reql_session.proofs.stopping.stop.Goals as goal

pub returns-then-is_some-clause-keeps : goal.returns-then-is_some-clause-keeps
returns-then-is_some-clause-keeps g c = c.stop_cursor.ensures.keeps _ c.requires.keeps

pub returns-then-is_some-clause-stopped : goal.returns-then-is_some-clause-stopped
returns-then-is_some-clause-stopped g c = λ k clock dice.
    let b = books_of c.args.shelf.now in
    let some = g.C.Engine.some_state in
    let found = of_some _ c.cursor.result (cursor_of c.args.token b.cursors) c.cursor.ensures (sym c.is_some.ensures ∙ c.if-is_some.true) in
    subst (λ z. Settles k (g.L.Link.tape c.args.link.now) (g.L.Link.tape c.stop_cursor.new.link) (working some c.args.desk.now b clock dice) (working some c.args.desk.now (books_of c.stop_cursor.new.shelf) clock dice) (stop b c.args.token z) c.stop_cursor.result) (sym found.1)
    (c.stop_cursor.ensures.stopped k some c.args.desk.now clock dice found.0)

pub returns-then-is_some-2-clause-stopped : goal.returns-then-is_some-2-clause-stopped
returns-then-is_some-2-clause-stopped g c = λ k clock dice.
    let b = books_of c.args.shelf.now in
    let some = g.C.Engine.some_state in
    let none = of_none _ c.cursor.result (cursor_of c.args.token b.cursors) c.cursor.ensures (sym c.is_some.ensures ∙ c.if-is_some.false) in
    let found = of_some _ c.feed.result (feed_of c.args.token b.feeds) c.feed.ensures (sym c.is_some-2.ensures ∙ c.if-is_some-2.true) in
    subst (λ z. Settles k (g.L.Link.tape c.args.link.now) (g.L.Link.tape c.stop_feed.new.link) (working some c.args.desk.now b clock dice) (working some c.stop_feed.new.desk (books_of c.stop_feed.new.shelf) clock dice) (stop b c.args.token z) c.stop_feed.result) (sym none)
    (subst (λ z. Settles k (g.L.Link.tape c.args.link.now) (g.L.Link.tape c.stop_feed.new.link) (working some c.args.desk.now b clock dice) (working some c.stop_feed.new.desk (books_of c.stop_feed.new.shelf) clock dice) (stop_feed b c.args.token z) c.stop_feed.result) (sym found.1)
    (c.stop_feed.ensures.stopped k clock dice found.0 found.1))

pub returns-clause-stopped : goal.returns-clause-stopped
returns-clause-stopped g c = λ k clock dice.
    let b = books_of c.args.shelf.now in
    let some = g.C.Engine.some_state in
    let w = working some c.args.desk.now b clock dice in
    let none = of_none _ c.cursor.result (cursor_of c.args.token b.cursors) c.cursor.ensures (sym c.is_some.ensures ∙ c.if-is_some.false) in
    let nothing = of_none _ c.feed.result (feed_of c.args.token b.feeds) c.feed.ensures (sym c.is_some-2.ensures ∙ c.if-is_some-2.false) in
    subst (λ z. Settles k (g.L.Link.tape c.args.link.now) (g.L.Link.tape c.tell.new.link) w w (stop b c.args.token z) c.tell.result) (sym none)
    (subst (λ z. Settles k (g.L.Link.tape c.args.link.now) (g.L.Link.tape c.tell.new.link) w w (stop_feed b c.args.token z) c.tell.result) (sym nothing)
    (c.tell.ensures k w no_more c.nothing_more.ensures))
