use Rattle.std.proofs.Common.{◌≡◌, map, get_or, [], subst, ◌∙◌, arith}
use Rattle.reql_datum.specs.View.{plain}
use Rattle.reql_session_spec.specs.Tasks.{change_items}
use Rattle.reql_session_api.specs.Meant.{no_arm, shown_of}
use Rattle.reql_desk_moves.specs.Steps.{put_points}
use Rattle.reql_open_cursors.specs.Kept.{books_of}
use Rattle.reql_session.specs.Batches.{items_of}
use Rattle.reql_session.specs.Settling.{working}
use Rattle.reql_session.proofs.Given.{skip_at, items_lost, items_told}
use Rattle.reql_session.proofs.batching.told_some.Goals as goal

pub returns-in_default-clause-told : goal.returns-in_default-clause-told
returns-in_default-clause-told g c = λ k clock dice f l found.
    items_lost k _ _ (working g.C.Engine.some_state c.args.desk.now (books_of c.args.shelf.now) clock dice) (working g.C.Engine.some_state c.lose.new.desk (books_of c.lose.new.shelf) clock dice)
    (books_of c.args.shelf.now) c.args.token f c.args.batch _ _ _ c.lose.result (c.lose.ensures.lost k clock dice f found)

pub returns-in_default-by_slot-clause-told : goal.returns-in_default-by_slot-clause-told
returns-in_default-by_slot-clause-told g c = λ k clock dice f l found.
    items_lost k _ _ (working g.C.Engine.some_state c.args.desk.now (books_of c.args.shelf.now) clock dice) (working g.C.Engine.some_state c.lose-in_default-by_slot.new.desk (books_of c.lose-in_default-by_slot.new.shelf) clock dice)
    (books_of c.args.shelf.now) c.args.token f c.args.batch _ _ _ c.lose-in_default-by_slot.result (c.lose-in_default-by_slot.ensures.lost k clock dice f found)

pub returns-in_default-shown_items-clause-told : goal.returns-in_default-shown_items-clause-told
returns-in_default-shown_items-clause-told g c = λ k clock dice f l found.
    items_lost k _ _ (working g.C.Engine.some_state c.args.desk.now (books_of c.args.shelf.now) clock dice) (working g.C.Engine.some_state c.lose-in_default-shown_items.new.desk (books_of c.lose-in_default-shown_items.new.shelf) clock dice)
    (books_of c.args.shelf.now) c.args.token f c.args.batch _ _ _ c.lose-in_default-shown_items.result (c.lose-in_default-shown_items.ensures.lost k clock dice f found)

pub returns-clause-told : goal.returns-clause-told
returns-clause-told g c = λ k clock dice f l found.
    items_told k _ _ (working g.C.Engine.some_state c.args.desk.now (books_of c.args.shelf.now) clock dice) (working g.C.Engine.some_state c.tell_items.new.desk (books_of c.tell_items.new.shelf) clock dice)
    (books_of c.args.shelf.now) c.args.token f c.args.batch c.args.skipped c.len.result c.first_count-count.result c.as_slice.result.now (put_points [] c.args.points.now) c.in-Ok-shown_items.shown.items (skip_at c.args.at (get_or f.arms c.args.at no_arm) c.args.skipped c.args.last)
    (change_items c.args.at (get_or f.arms c.args.at no_arm) (map (λ i. (i.0, plain i.1)) c.args.items)) c.tell_items.result
    (subst (λ z. map (shown_of f.arms) c.in-Ok-shown_items.shown.items ≡ items_of z (get_or f.arms z no_arm) c.args.skipped c.args.last (map (λ i. (i.0, plain i.1)) c.args.items)) c.in-Ok.ensures (c.in-Ok-shown_items.ensures f.arms)) c.first_count-count.ensures (c.len.ensures ∙ omega (arith, c.in-Ok-shown_items.shown.ok)) (c.as_slice.ensures.value ∙ c.in-Ok-by_slot.ensures)
    (c.tell_items.ensures.told k clock dice f l found)
