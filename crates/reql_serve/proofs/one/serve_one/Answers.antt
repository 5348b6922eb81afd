use Rattle.std.proofs.Common.{◌≡◌, ◌≤◌, [], ◌∷◌, ◌++◌, length, map, All, sym, ap, subst, ◌∙◌, arith}
use Rattle.std.specs.List.{AllZip, range_with_len}
use Rattle.reql_shared.specs.History.{AllBelow}
use Rattle.reql_shared.specs.Machine.{replay}
use Rattle.reql_shared.specs.Sight.{Object, Closing}
use Rattle.reql_catalog.specs.Machine.{catalogue_machine}
use Rattle.reql_catalog.specs.declared.catalog.Catalog.{Catalog}
use Rattle.reql_table_spec.specs.Machine.{State}
use Rattle.reql_table_spec.specs.declared.command.Order.{Order}
use Rattle.reql_hall.specs.Rooms.{Rooms, Sits, LearnsAll, histories_of, unused_desk}
use Rattle.reql_session_spec.specs.Books.{no_books}
use Rattle.reql_session_spec.specs.Tasks.{Talk}
use Rattle.reql_session_api.specs.World.{AtWork, IsServed}
use Rattle.reql_open_cursors.specs.Kept.{books_of}
use Rattle.reql_session.specs.Settling.{working}
use Rattle.reql_serve.proofs.Desks.{one_left, alone, all_of_one, first_of, same_count, keeps_nothing}
use Rattle.reql_serve.proofs.one.serve_one.Goals as goal

-- there are as many slots as engines
pub new-requires-2-clause-slots : goal.new-requires-2-clause-slots
new-requires-2-clause-slots g c =
    let hall = c.in-Ok-new.hall in
    omega (arith, same_count (λ (o : Object _). o.start) g.C.Engine.state hall.slots c.args.engines.items c.in-Ok-new.ensures.slots, c.len.ensures, c.args.engines.ok, c.in-Ok.ensures)

-- the one desk of the hall
pub new-requires-2-clause-of_this_hall : goal.new-requires-2-clause-of_this_hall
new-requires-2-clause-of_this_hall g c =
    let hall = c.in-Ok-new.hall in
    let one : c.in-Ok-new.desks.items ≡ unused_desk hall 0 ∷ [] = c.in-Ok-new.ensures.desks ∙ ap (λ n. map (unused_desk hall) (range_with_len 0 n)) c.in-Ok-new.ensures.names.1 in
    let left = one_left _ (unused_desk hall 0) c.in-Some.desk (sym one ∙ c.in-Some.ensures.items) in
    subst (Sits hall) left.1 (first_of (Sits hall) (unused_desk hall 0) (subst (All (Sits hall)) one c.in-Ok-new.ensures.of_this_hall))

pub serve_session-served-requires-clause-ready : goal.serve_session-served-requires-clause-ready
serve_session-served-requires-clause-ready g c =
    let hall = c.in-Ok-new.hall in
    let one : c.in-Ok-new.desks.items ≡ unused_desk hall 0 ∷ [] = c.in-Ok-new.ensures.desks ∙ ap (λ n. map (unused_desk hall) (range_with_len 0 n)) c.in-Ok-new.ensures.names.1 in
    let left = one_left _ (unused_desk hall 0) c.in-Some.desk (sym one ∙ c.in-Some.ensures.items) in
    let s = c.in-Ok-new-2.session in
    let here : s.hall.now ≡ hall = ap (λ z. z.now) c.in-Ok-new-2.ensures.hall in
    let few : c.in-Ok.slots ≤ length hall.slots = omega (arith, same_count (λ (o : Object _). o.start) g.C.Engine.state hall.slots c.args.engines.items c.in-Ok-new.ensures.slots, c.len.ensures, c.args.engines.ok, c.in-Ok.ensures) in (
      subst (λ z. Sits z s.desk) (sym here) (subst (Sits hall) (left.1 ∙ sym c.in-Ok-new-2.ensures.desk) (first_of (Sits hall) (unused_desk hall 0) (subst (All (Sits hall)) one c.in-Ok-new.ensures.of_this_hall))),
      subst (λ z. s.slots ≤ length z.slots) (sym here) (subst (λ n. n ≤ length hall.slots) (sym c.in-Ok-new-2.ensures.slots) few),
      keeps_nothing _ _ (ap (λ (w : AtWork). w.books) c.in-Ok-new-2.ensures.work),
    )

pub close-hall-requires-clause-of_this_hall : goal.close-hall-requires-clause-of_this_hall
close-hall-requires-clause-of_this_hall g c =
    let hall = c.in-Ok-new.hall in
    let one : c.in-Ok-new.desks.items ≡ unused_desk hall 0 ∷ [] = c.in-Ok-new.ensures.desks ∙ ap (λ n. map (unused_desk hall) (range_with_len 0 n)) c.in-Ok-new.ensures.names.1 in
    let left = one_left _ (unused_desk hall 0) c.in-Some.desk (sym one ∙ c.in-Some.ensures.items) in
    let s = c.in-Ok-new-2.session in
    let here : s.hall.now ≡ hall = ap (λ z. z.now) c.in-Ok-new-2.ensures.hall in
    let t = c.serve_session-served.new.handler in
    let sits : Sits hall t.desk = subst (λ z. Sits z t.desk) (c.serve_session-served.ensures.hall ∙ here) c.serve_session-served.ensures.ready.0 in
    let back : c.push_reserved.new.self.items ≡ t.desk ∷ [] = c.push_reserved.ensures.items ∙ ap (λ z. z ++ c.into_bench.result.desk ∷ []) left.0 ∙ ap (λ z. z ∷ []) c.into_bench.ensures.desk in
    subst (All (Sits hall)) (sym back) (all_of_one (Sits hall) t.desk sits)

pub returns-clause-served : goal.returns-clause-served
returns-clause-served g c =
    let hall = c.in-Ok-new.hall in
    let one : c.in-Ok-new.desks.items ≡ unused_desk hall 0 ∷ [] = c.in-Ok-new.ensures.desks ∙ ap (λ n. map (unused_desk hall) (range_with_len 0 n)) c.in-Ok-new.ensures.names.1 in
    let left = one_left _ (unused_desk hall 0) c.in-Some.desk (sym one ∙ c.in-Some.ensures.items) in
    let s = c.in-Ok-new-2.session in
    let here : s.hall.now ≡ hall = ap (λ z. z.now) c.in-Ok-new-2.ensures.hall in
    let t = c.serve_session-served.new.handler in
    let sits : Sits hall t.desk = subst (λ z. Sits z t.desk) (c.serve_session-served.ensures.hall ∙ here) c.serve_session-served.ensures.ready.0 in
    let back : c.push_reserved.new.self.items ≡ t.desk ∷ [] = c.push_reserved.ensures.items ∙ ap (λ z. z ++ c.into_bench.result.desk ∷ []) left.0 ∙ ap (λ z. z ∷ []) c.into_bench.ensures.desk in
    let talk : g.P.Planning.talk s.planner.now ≡ g.P.Planning.talk c.args.planner.now = ap (λ z. g.P.Planning.talk z.now) c.in-Ok-new-2.ensures.planner in
    let work = c.in-Ok-new-2.ensures.work ∙ ap (λ z. working g.C.Engine.some_state z no_books (g.T.Clock.told c.args.clock) (g.D.Dice.told c.args.dice)) (sym left.1) in
    let all = histories_of c.close-hall.result in
    let rooms : c.close-hall.result.names.object ≡ hall.names = ap (λ (z : Rooms State Catalog). z.names) c.close-hall.ensures.rooms in
    let seen = alone (λ old new. LearnsAll old new all) t.desk c.close-hall.result.desks (subst (λ z. AllZip (λ old new. LearnsAll old new all) z c.close-hall.result.desks) back c.close-hall.ensures.desks) in
    record {
      hall = hall;
      opens = record { names = c.in-Ok-new.ensures.names.0; slots = c.in-Ok-new.ensures.slots; names_alone = c.in-Ok-new.ensures.names.1; alone = c.in-Ok-new.ensures.passes };
      desk = t.desk;
      books = books_of t.shelf;
      clock_after = g.T.Clock.told t.clock;
      dice_after = g.D.Dice.told t.dice;
      served = subst (λ (z : Talk g.row.P-Plan.Denot × AtWork). IsServed z.0 z.1 (working g.C.Engine.some_state t.desk (books_of t.shelf) (g.T.Clock.told t.clock) (g.D.Dice.told t.dice)) (g.L.Link.kept c.serve_session-served.result.tape) c.serve_session-served.result.end c.serve_session-served.result.turns) (λ i. (talk i, work i)) c.serve_session-served.ensures.served;
      closed = c.close-hall.ensures.rooms;
      seen = seen.0;
      desks = seen.1;
      learns = seen.2;
      led = record {
        names = c.close-hall.ensures.names_state ∙ ap (λ (z : Object Catalog). replay catalogue_machine z.start c.close-hall.result.names.history) (sym rooms);
        slots = subst (λ m. All (λ (f : Closing g.row.C.Denot Order State). g.C.Engine.state f.engine ≡ replay m f.object.start f.history) c.close-hall.result.slots) g.met.C.TableEngine.is_machine c.close-hall.ensures.states;
        names_of_desks = subst (λ (z : Object Catalog). AllBelow z.passes c.close-hall.result.names.history) (sym rooms) c.close-hall.ensures.names_numbers;
        of_desks = c.close-hall.ensures.numbers;
      };
    }
