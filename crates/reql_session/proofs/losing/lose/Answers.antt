use Rattle.std.proofs.Common.{sym, subst}
use Rattle.reql_session_spec.specs.Requests.{Internal}
use Rattle.reql_open_cursors.specs.Kept.{books_of}
use Rattle.reql_session.specs.Keeping.{Keeps}
use Rattle.reql_session.proofs.Tokens.{keeps_closed, found_there}
use Rattle.reql_session.proofs.Batched.{lost_found}
use Rattle.reql_session.proofs.losing.lose.Goals as goal

pub finish_internal-requires-clause-there : goal.finish_internal-requires-clause-there
finish_internal-requires-clause-there g c = rw (sym c.as_slice-arms.ensures.value) at (found_there _ c.args.token (books_of c.args.shelf.now).feeds c.in-Some.feed c.in-Some.ensures.feed c.requires.there)

pub returns-in-Some-clause-keeps : goal.returns-in-Some-clause-keeps
returns-in-Some-clause-keeps g c = λ rest off keeps. subst (Keeps _ rest) (sym c.remove_feed.ensures.closed) (keeps_closed _ c.args.token rest (books_of c.args.shelf.now) off keeps)

pub returns-in-Some-clause-lost : goal.returns-in-Some-clause-lost
returns-in-Some-clause-lost g c = λ k clock dice f found.
    lost_found k g.C.Engine.some_state _ _ c.args.desk.now c.finish_internal.new.desk (books_of c.args.shelf.now) (books_of c.remove_feed.new.self) clock dice c.args.token c.in-Some.feed f c.as_slice-arms.result.now Internal c.finish_internal.result
    c.remove_feed.ensures.closed c.in-Some.ensures.feed found c.as_slice-arms.ensures.value (c.finish_internal.ensures.finished k (books_of c.args.shelf.now) clock dice)

pub returns-in-None-clause-keeps : goal.returns-in-None-clause-keeps
returns-in-None-clause-keeps g c = λ rest off keeps. subst (Keeps _ rest) (sym c.remove_feed.ensures.closed) (keeps_closed _ c.args.token rest (books_of c.args.shelf.now) off keeps)
