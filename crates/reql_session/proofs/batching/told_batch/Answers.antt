use Rattle.std.proofs.Common.{◌≡◌, map, length, [], ◌∷◌, ◌-◌, sym, ap, subst}
use Rattle.reql_datum.specs.View.{plain}
use Rattle.reql_desk_moves.specs.Steps.{put_points}
use Rattle.reql_session_spec.specs.Tasks.{is_empty}
use Rattle.reql_open_cursors.specs.Kept.{books_of}
use Rattle.reql_session.specs.Batches.{items_of}
use Rattle.reql_session.specs.Keeping.{Keeps}
use Rattle.reql_session.specs.Settling.{working}
use Rattle.reql_session.proofs.Tokens.{feed_token, keeps_waits}
use Rattle.reql_session.proofs.Given.{batch_none, batch_some}
use Rattle.reql_session.proofs.batching.told_batch.Goals as goal

pub returns-then-shows_nothing-clause-keeps : goal.returns-then-shows_nothing-clause-keeps
returns-then-shows_nothing-clause-keeps g c = λ rest f found none off keeps.
    subst (Keeps (length c.args.hall.now.slots) rest) (sym c.wait.ensures) (keeps_waits (length c.args.hall.now.slots) c.args.token rest (books_of c.args.shelf.now) f found none off keeps)

pub returns-then-shows_nothing-clause-told : goal.returns-then-shows_nothing-clause-told
returns-then-shows_nothing-clause-told g c = λ k clock dice f arm arms l n found d.
    batch_none k _ (working g.C.Engine.some_state c.args.desk.now (books_of c.args.shelf.now) clock dice) (working g.C.Engine.some_state c.args.desk.now (books_of c.wait.new.self) clock dice)
    (books_of c.args.shelf.now) c.args.token f (length f.arms - length (arm ∷ arms)) arm (put_points [] c.args.points.now) c.args.skipped c.args.last (map (λ i. (i.0, plain i.1)) c.args.items) c.shows_nothing.result
    (feed_token c.args.token (books_of c.args.shelf.now).feeds f found)
    (subst (λ z. c.shows_nothing.result ≡ is_empty (items_of (length f.arms - length (arm ∷ arms)) arm c.args.skipped c.args.last (map (λ i. (i.0, plain i.1)) z))) c.as_slice.ensures (c.shows_nothing.ensures (length f.arms - length (arm ∷ arms)) arm c.args.last))
    c.if-shows_nothing.true (ap (λ z. working g.C.Engine.some_state c.args.desk.now z clock dice) c.wait.ensures)

pub returns-clause-keeps : goal.returns-clause-keeps
returns-clause-keeps g c = λ rest f found none off keeps. c.told_some.ensures.keeps rest off keeps

pub returns-clause-told : goal.returns-clause-told
returns-clause-told g c = λ k clock dice f arm arms l n found d.
    batch_some k _ _ (working g.C.Engine.some_state c.args.desk.now (books_of c.args.shelf.now) clock dice) (working g.C.Engine.some_state c.told_some.new.desk (books_of c.told_some.new.shelf) clock dice)
    (books_of c.args.shelf.now) c.args.token f c.args.batch c.args.at arm arms (put_points [] c.args.points.now) c.args.skipped c.args.last (map (λ i. (i.0, plain i.1)) c.args.items) c.shows_nothing.result c.told_some.result
    (feed_token c.args.token (books_of c.args.shelf.now).feeds f found) n d
    (subst (λ z. c.shows_nothing.result ≡ is_empty (items_of (length f.arms - length (arm ∷ arms)) arm c.args.skipped c.args.last (map (λ i. (i.0, plain i.1)) z))) c.as_slice.ensures (c.shows_nothing.ensures (length f.arms - length (arm ∷ arms)) arm c.args.last))
    c.if-shows_nothing.false (c.told_some.ensures.told k clock dice f l found)
