use Rattle.std.proofs.Common.{◌≡◌, [], length, map, All, sym, ap, subst, ◌∙◌, arith}
use Rattle.std.specs.Prelude.{⊤}
use Rattle.std.specs.List.{AllZip, range_with_len}
use Rattle.std.proofs.lemmas.List.{with_items_is}
use Rattle.std.proofs.lemmas.List.FromFn.{length-map-range_with_len}
use Rattle.std.proofs.lemmas.Slice.Zip.{AllZip-long}
use Rattle.reql_shared.specs.History.{AllBelow}
use Rattle.reql_shared.specs.Machine.{replay}
use Rattle.reql_shared.specs.Sight.{Object, Closing}
use Rattle.reql_catalog.specs.Machine.{catalogue_machine}
use Rattle.reql_catalog.specs.declared.catalog.Catalog.{Catalog}
use Rattle.reql_table_spec.specs.declared.command.Order.{Order}
use Rattle.reql_table_spec.specs.Machine.{State}
use Rattle.reql_hall.specs.Rooms.{Rooms, unused_desk}
use Rattle.reql_serve.specs.Working.{IsThere}
use Rattle.reql_serve.proofs.Crew.{they_sit, they_are_there, their_desks_sit, they_serve}
use Rattle.reql_serve.proofs.Desks.{same_count}
use Rattle.reql_serve.proofs.many.serve_many.Goals as goal

-- as many desks as posts
pub seat_all-requires : goal.seat_all-requires
seat_all-requires g c =
    let hall = c.in-Ok-new.hall in
    record { count = ap length c.in-Ok-new.ensures.desks ∙ length-map-range_with_len (unused_desk hall) 0 hall.names.passes ∙ omega (arith, c.in-Ok-new.ensures.names.1, c.in-Ok-try_from.ensures, c.len-2.ensures, c.args.posts.ok) }

-- they sit at the desks of the hall
pub serve_in_turn-requires-clause-of_this_hall : goal.serve_in_turn-requires-clause-of_this_hall
serve_in_turn-requires-clause-of_this_hall g c κs within =
    they_sit (g.P.Planning.talk c.args.planner.now) g.C.Engine.some_state g.G.Link.Link.kept g.T.Clock.told g.D.Dice.told g.G.Door.told c.in-Ok-new.hall c.in-Ok-new.desks.items c.deref_mut.result.now c.in-Ok-new.ensures.of_this_hall
    (subst (AllZip _ c.in-Ok-new.desks.items) (sym c.deref_mut.ensures.value) c.in_ok-workers.ensures.desks)

-- there are as many slots as engines
pub serve_in_turn-requires-clause-slots : goal.serve_in_turn-requires-clause-slots
serve_in_turn-requires-clause-slots g c κs within =
    omega (arith, same_count (λ (o : Object State). o.start) g.C.Engine.state c.in-Ok-new.hall.slots c.args.engines.items c.in-Ok-new.ensures.slots, c.len.ensures, c.args.engines.ok, c.in-Ok.ensures)

pub serve_in_turn-requires-clause-unused : goal.serve_in_turn-requires-clause-unused
serve_in_turn-requires-clause-unused g c κs within = subst (All (λ w. w.ended.items ≡ [])) (sym c.deref_mut.ensures.value) c.in_ok-workers.ensures.unused

pub part-parted-requires-clause-there : goal.part-parted-requires-clause-there
part-parted-requires-clause-there g c =
    let is = with_items_is c.in_ok-workers.workers c.serve_in_turn.new.workers (omega (arith, c.serve_in_turn.auto.workers, c.deref_mut.ensures.len)) in
    subst (All (λ w. IsThere w.bench (λ b. ⊤))) (sym is)
    (they_are_there (g.P.Planning.talk c.args.planner.now) g.C.Engine.some_state g.G.Link.Link.kept g.T.Clock.told g.D.Dice.told g.G.Door.told c.in-Ok-new.hall c.deref_mut.result.now c.serve_in_turn.new.workers c.serve_in_turn.ensures (omega (arith, c.serve_in_turn.auto.workers)))

pub part-parted-requires-clause-room : goal.part-parted-requires-clause-room
part-parted-requires-clause-room g c =
    let is = ap length (with_items_is c.in_ok-workers.workers c.serve_in_turn.new.workers (omega (arith, c.serve_in_turn.auto.workers, c.deref_mut.ensures.len))) in
    let many = AllZip-long _ c.args.posts.items c.in_ok-workers.workers.items c.in_ok-workers.ensures.posts in
    let same = ap length c.deref_mut.ensures.value in
    let room = c.in-Ok-with_room.ensures.room in
    (omega (arith, is, many, same, c.serve_in_turn.auto.workers, room.0, c.len-3.ensures, c.args.posts.ok), omega (arith, is, many, same, c.serve_in_turn.auto.workers, room.1, c.len-3.ensures, c.args.posts.ok))

pub close-hall-requires-clause-of_this_hall : goal.close-hall-requires-clause-of_this_hall
close-hall-requires-clause-of_this_hall g c =
    let is = with_items_is c.in_ok-workers.workers c.serve_in_turn.new.workers (omega (arith, c.serve_in_turn.auto.workers, c.deref_mut.ensures.len)) in
    their_desks_sit (g.P.Planning.talk c.args.planner.now) g.C.Engine.some_state g.G.Link.Link.kept g.T.Clock.told g.D.Dice.told g.G.Door.told c.in-Ok-new.hall c.deref_mut.result.now c.serve_in_turn.new.workers c.part-parted.result.desks.items c.serve_in_turn.ensures (omega (arith, c.serve_in_turn.auto.workers))
    (subst (λ ws. AllZip (λ w d. IsThere w.bench (λ b. d ≡ b.desk)) ws c.part-parted.result.desks.items) is c.part-parted.ensures.desks)

pub returns-clause-served : goal.returns-clause-served
returns-clause-served g c =
    let hall = c.in-Ok-new.hall in
    let posts = c.args.posts.items in
    let left = c.part-parted.result in
    let end = c.close-hall.result in
    let value = c.deref_mut.ensures.value in
    let is = with_items_is c.in_ok-workers.workers c.serve_in_turn.new.workers (omega (arith, c.serve_in_turn.auto.workers, c.deref_mut.ensures.len)) in
    let rooms = ap (λ (z : Rooms State Catalog). z.names) c.close-hall.ensures.rooms in
    they_serve (g.P.Planning.talk c.args.planner.now) g.C.Engine.some_state g.G.Link.Link.kept g.T.Clock.told g.D.Dice.told g.G.Door.told
    g.C.Engine.state (λ n. n) c.args.names (map g.C.Engine.state c.args.engines.items) hall end c.args.sessions c.in-Ok-try_from.count posts c.in-Ok-new.desks.items left.desks.items c.deref_mut.result.now c.serve_in_turn.new.workers left.left.items
    c.in-Ok-new.ensures.names.0 c.in-Ok-new.ensures.slots c.in-Ok-new.ensures.names.1 c.in-Ok-new.ensures.passes
    (c.in-Ok-new.ensures.desks ∙ ap (λ m. map (unused_desk hall) (range_with_len 0 m)) c.in-Ok-new.ensures.names.1)
    (omega (arith, c.in-Ok-try_from.ensures, c.len-2.ensures, c.args.posts.ok))
    (subst (AllZip _ posts) (sym value) c.in_ok-workers.ensures.posts)
    (subst (AllZip _ c.in-Ok-new.desks.items) (sym value) c.in_ok-workers.ensures.desks)
    (ap (map (λ w. w.left)) value ∙ c.in_ok-workers.ensures.shares)
    c.serve_in_turn.ensures (omega (arith, c.serve_in_turn.auto.workers))
    (subst (λ ws. AllZip (λ w l. (l.door ≡ w.door) × (l.ended ≡ w.ended) × (l.left ≡ w.left) × (l.state ≡ w.state)) ws left.left.items) is c.part-parted.ensures.left)
    (subst (λ ws. AllZip (λ w d. IsThere w.bench (λ b. d ≡ b.desk)) ws left.desks.items) is c.part-parted.ensures.desks)
    c.close-hall.ensures.desks c.close-hall.ensures.rooms c.close-hall.ensures.of_this_hall
    (record {
      names = c.close-hall.ensures.names_state ∙ ap (λ (z : Object Catalog). replay catalogue_machine z.start end.names.history) (sym rooms);
      slots = subst (λ m. All (λ (f : Closing g.row.C.Denot Order State). g.C.Engine.state f.engine ≡ replay m f.object.start f.history) end.slots) (g.met.C.TableEngine g.world.𝓛 g.world.𝓜 g.world.𝓡 ((λ s x. x), (λ x. x), (λ x. x), λ x. x)).is_machine c.close-hall.ensures.states;
      names_of_desks = subst (λ (z : Object Catalog). AllBelow z.passes end.names.history) (sym rooms) c.close-hall.ensures.names_numbers;
      of_desks = c.close-hall.ensures.numbers;
    })
