use Rattle.std.proofs.Common.{Some, length, sym, subst}
use Rattle.reql_desk_moves.specs.Acting.{AreThere}
use Rattle.reql_open_cursors.specs.Kept.{books_of}
use Rattle.reql_session.specs.Keeping.{Keeps}
use Rattle.reql_session.proofs.Tokens.{found_there, keeps_closed}
use Rattle.reql_session.proofs.Given.{others_there, others_closed}
use Rattle.reql_session.proofs.gone.told_gone_of_others.Goals as goal

pub end_arms-requires-clause-there : goal.end_arms-requires-clause-there
end_arms-requires-clause-there g c = subst (AreThere (length c.args.hall.now.slots)) (sym c.as_slice.ensures.value)
    (others_there (length c.args.hall.now.slots) c.args.slot c.args.number c.in-Some.feed.arms.items c.keep_others.new.arms.items c.keep_others.ensures
    (found_there (length c.args.hall.now.slots) c.args.token (books_of c.args.shelf.now).feeds c.in-Some.feed c.in-Some.ensures.feed c.requires.there))

pub returns-in-Some-clause-keeps : goal.returns-in-Some-clause-keeps
returns-in-Some-clause-keeps g c = λ rest off keeps. subst (Keeps (length c.args.hall.now.slots) rest) (sym c.remove_feed.ensures.closed) (keeps_closed (length c.args.hall.now.slots) c.args.token rest (books_of c.args.shelf.now) off keeps)

pub returns-in-None-clause-keeps : goal.returns-in-None-clause-keeps
returns-in-None-clause-keeps g c = λ rest off keeps. subst (Keeps (length c.args.hall.now.slots) rest) (sym c.remove_feed.ensures.closed) (keeps_closed (length c.args.hall.now.slots) c.args.token rest (books_of c.args.shelf.now) off keeps)

pub returns-in-Some-clause-told : goal.returns-in-Some-clause-told
returns-in-Some-clause-told g c = λ k clock dice f a arm found is s n more.
    others_closed k g.C.Engine.some_state _ _ c.args.desk.now c.end_arms.new.desk (books_of c.args.shelf.now) (books_of c.remove_feed.new.self) clock dice c.args.token c.in-Some.feed f c.keep_others.new.arms.items c.as_slice.result.now arm a c.tell.result
    c.remove_feed.ensures.closed c.in-Some.ensures.feed found (c.keep_others.ensures arm s n) c.as_slice.ensures.value more (c.end_arms.ensures.dropped k (books_of c.args.shelf.now) c.args.token (Some a))
    (λ w. c.tell.ensures k w a is)
