use Rattle.std.proofs.Common.{inl, [], cond, refl, sym, ap, ◌∙◌}
use Rattle.reql_session_spec.specs.Requests.{Client, Compile, Waited, Info}
use Rattle.reql_session_spec.specs.Bodies as texts
use Rattle.reql_session_spec.specs.Books.{opened}
use Rattle.reql_session_spec.specs.Tasks.{Planning, at, begin, refuse}
use Rattle.reql_session_api.specs.Meant.{asked_of}
use Rattle.reql_open_cursors.specs.Kept.{books_of}
use Rattle.reql_session.specs.Settling.{working}
use Rattle.reql_session.proofs.Begun.{either_as}
use Rattle.reql_session.proofs.Turned.{not_waiting}
use Rattle.reql_session.proofs.beginning.begin.Goals as goal

pub returns-in-Unreadable-clause-begun : goal.returns-in-Unreadable-clause-begun
returns-in-Unreadable-clause-begun g c =
    either_as (g.P.Planning.talk c.args.planner.now) _ _ (working g.C.Engine.some_state c.args.desk.now (books_of c.args.shelf.now) (g.T.Clock.told c.args.clock.now) (g.D.Dice.told c.args.dice.now)) (working g.C.Engine.some_state c.args.desk.now (books_of c.args.shelf.now) (g.T.Clock.told c.args.clock.now) (g.D.Dice.told c.args.dice.now)) c.args.token _ _ c.refuse_client.result (ap (λ q. begin (g.P.Planning.talk c.args.planner.now) (books_of c.args.shelf.now) c.args.token (asked_of q)) (sym c.in-Unreadable.is))
    (inl (c.refuse_client.ensures (g.P.Planning.talk c.args.planner.now) (working g.C.Engine.some_state c.args.desk.now (books_of c.args.shelf.now) (g.T.Clock.told c.args.clock.now) (g.D.Dice.told c.args.dice.now)) (sym c.limits-limits.ensures)))

pub returns-then-is_open-clause-begun : goal.returns-then-is_open-clause-begun
returns-then-is_open-clause-begun g c =
    let k = (g.P.Planning.talk c.args.planner.now) in
    let b = books_of c.args.shelf.now in
    let w = (working g.C.Engine.some_state c.args.desk.now (books_of c.args.shelf.now) (g.T.Clock.told c.args.clock.now) (g.D.Dice.told c.args.dice.now)) in
    let in_use = Client (texts.in_use c.args.token) in
    either_as k _ _ w w c.args.token (refuse k b c.args.token c.in-Unplanned.noreply in_use) _ c.refuse_in_use.result
    (ap (λ z. cond z (refuse k b c.args.token c.in-Unplanned.noreply in_use) (refuse k b c.args.token c.in-Unplanned.noreply (Compile c.in-Unplanned.why))) (sym c.if-is_open.true ∙ c.is_open.ensures) ∙ ap (λ q. begin (g.P.Planning.talk c.args.planner.now) (books_of c.args.shelf.now) c.args.token (asked_of q)) (sym c.in-Unplanned.is))
    (inl (c.refuse_in_use.ensures k w (sym c.limits-limits.ensures)))

pub returns-else-is_open-clause-begun : goal.returns-else-is_open-clause-begun
returns-else-is_open-clause-begun g c =
    let k = (g.P.Planning.talk c.args.planner.now) in
    let b = books_of c.args.shelf.now in
    let w = (working g.C.Engine.some_state c.args.desk.now (books_of c.args.shelf.now) (g.T.Clock.told c.args.clock.now) (g.D.Dice.told c.args.dice.now)) in
    let in_use = Client (texts.in_use c.args.token) in
    either_as k _ _ w w c.args.token (refuse k b c.args.token c.in-Unplanned.noreply (Compile c.in-Unplanned.why)) _ c.refuse_compile.result
    (ap (λ z. cond z (refuse k b c.args.token c.in-Unplanned.noreply in_use) (refuse k b c.args.token c.in-Unplanned.noreply (Compile c.in-Unplanned.why))) (sym c.if-is_open.false ∙ c.is_open.ensures) ∙ ap (λ q. begin (g.P.Planning.talk c.args.planner.now) (books_of c.args.shelf.now) c.args.token (asked_of q)) (sym c.in-Unplanned.is))
    (inl (c.refuse_compile.ensures k w (sym c.limits-limits.ensures)))

pub returns-then-is_open-2-clause-begun : goal.returns-then-is_open-2-clause-begun
returns-then-is_open-2-clause-begun g c =
    let k = (g.P.Planning.talk c.args.planner.now) in
    let b = books_of c.args.shelf.now in
    let w = (working g.C.Engine.some_state c.args.desk.now (books_of c.args.shelf.now) (g.T.Clock.told c.args.clock.now) (g.D.Dice.told c.args.dice.now)) in
    let in_use = Client (texts.in_use c.args.token) in
    either_as k _ _ w w c.args.token (refuse k b c.args.token c.in-Start.noreply in_use) _ c.refuse_in_use-then-is_open-2.result
    (ap (λ z. cond z (refuse k b c.args.token c.in-Start.noreply in_use) (at b (Planning c.args.token c.in-Start.plan c.in-Start.noreply (opened b) [] []))) (sym c.if-is_open-2.true ∙ c.is_open-in-Start.ensures) ∙ ap (λ q. begin (g.P.Planning.talk c.args.planner.now) (books_of c.args.shelf.now) c.args.token (asked_of q)) (sym c.in-Start.is))
    (inl (c.refuse_in_use-then-is_open-2.ensures k w (sym c.limits-limits.ensures)))

pub returns-else-is_open-2-clause-keeps : goal.returns-else-is_open-2-clause-keeps
returns-else-is_open-2-clause-keeps g c =
    let b = books_of c.args.shelf.now in
    let off = sym c.is_open-in-Start.ensures ∙ c.if-is_open-2.false in
    c.start.ensures.keeps [] off (not_waiting _ c.args.token b off c.requires.keeps) c.requires.keeps

pub returns-else-is_open-2-clause-begun : goal.returns-else-is_open-2-clause-begun
returns-else-is_open-2-clause-begun g c =
    let k = (g.P.Planning.talk c.args.planner.now) in
    let b = books_of c.args.shelf.now in
    let w = (working g.C.Engine.some_state c.args.desk.now (books_of c.args.shelf.now) (g.T.Clock.told c.args.clock.now) (g.D.Dice.told c.args.dice.now)) in
    let v = working g.C.Engine.some_state c.start.new.desk (books_of c.start.new.shelf) (g.T.Clock.told c.start.new.clock) (g.D.Dice.told c.start.new.dice) in
    let in_use = Client (texts.in_use c.args.token) in
    either_as k _ _ w v c.args.token (at b (Planning c.args.token c.in-Start.plan c.in-Start.noreply (opened b) [] [])) _ c.start.result
    (ap (λ z. cond z (refuse k b c.args.token c.in-Start.noreply in_use) (at b (Planning c.args.token c.in-Start.plan c.in-Start.noreply (opened b) [] []))) (sym c.if-is_open-2.false ∙ c.is_open-in-Start.ensures) ∙ ap (λ q. begin (g.P.Planning.talk c.args.planner.now) (books_of c.args.shelf.now) c.args.token (asked_of q)) (sym c.in-Start.is))
    (inl c.start.ensures.started)

pub returns-in-Continue-clause-begun : goal.returns-in-Continue-clause-begun
returns-in-Continue-clause-begun g c =
    either_as (g.P.Planning.talk c.args.planner.now) _ _ (working g.C.Engine.some_state c.args.desk.now (books_of c.args.shelf.now) (g.T.Clock.told c.args.clock.now) (g.D.Dice.told c.args.dice.now)) (working g.C.Engine.some_state c.go_on.new.desk (books_of c.go_on.new.shelf) (g.T.Clock.told c.args.clock.now) (g.D.Dice.told c.args.dice.now)) c.args.token _ _ c.go_on.result (ap (λ q. begin (g.P.Planning.talk c.args.planner.now) (books_of c.args.shelf.now) c.args.token (asked_of q)) (sym c.in-Continue.is))
    (c.go_on.ensures.continued (g.P.Planning.talk c.args.planner.now) (g.T.Clock.told c.args.clock.now) (g.D.Dice.told c.args.dice.now) (sym c.limits-limits.ensures))

pub returns-in-Stop-clause-begun : goal.returns-in-Stop-clause-begun
returns-in-Stop-clause-begun g c =
    either_as (g.P.Planning.talk c.args.planner.now) _ _ (working g.C.Engine.some_state c.args.desk.now (books_of c.args.shelf.now) (g.T.Clock.told c.args.clock.now) (g.D.Dice.told c.args.dice.now)) (working g.C.Engine.some_state c.stop.new.desk (books_of c.stop.new.shelf) (g.T.Clock.told c.args.clock.now) (g.D.Dice.told c.args.dice.now)) c.args.token _ _ c.stop.result (ap (λ q. begin (g.P.Planning.talk c.args.planner.now) (books_of c.args.shelf.now) c.args.token (asked_of q)) (sym c.in-Stop.is))
    (inl (c.stop.ensures.stopped (g.P.Planning.talk c.args.planner.now) (g.T.Clock.told c.args.clock.now) (g.D.Dice.told c.args.dice.now)))

pub returns-in-NoreplyWait-clause-begun : goal.returns-in-NoreplyWait-clause-begun
returns-in-NoreplyWait-clause-begun g c =
    either_as (g.P.Planning.talk c.args.planner.now) _ _ (working g.C.Engine.some_state c.args.desk.now (books_of c.args.shelf.now) (g.T.Clock.told c.args.clock.now) (g.D.Dice.told c.args.dice.now)) (working g.C.Engine.some_state c.args.desk.now (books_of c.args.shelf.now) (g.T.Clock.told c.args.clock.now) (g.D.Dice.told c.args.dice.now)) c.args.token _ _ c.tell_fixed.result (ap (λ q. begin (g.P.Planning.talk c.args.planner.now) (books_of c.args.shelf.now) c.args.token (asked_of q)) (sym c.in-NoreplyWait.is))
    (inl (c.tell_fixed.ensures (g.P.Planning.talk c.args.planner.now) (working g.C.Engine.some_state c.args.desk.now (books_of c.args.shelf.now) (g.T.Clock.told c.args.clock.now) (g.D.Dice.told c.args.dice.now)) Waited (sym c.limits-limits.ensures) refl c.waited.ensures))

pub returns-in-ServerInfo-clause-begun : goal.returns-in-ServerInfo-clause-begun
returns-in-ServerInfo-clause-begun g c =
    either_as (g.P.Planning.talk c.args.planner.now) _ _ (working g.C.Engine.some_state c.args.desk.now (books_of c.args.shelf.now) (g.T.Clock.told c.args.clock.now) (g.D.Dice.told c.args.dice.now)) (working g.C.Engine.some_state c.args.desk.now (books_of c.args.shelf.now) (g.T.Clock.told c.args.clock.now) (g.D.Dice.told c.args.dice.now)) c.args.token _ _ c.tell_fixed-in-ServerInfo.result (ap (λ q. begin (g.P.Planning.talk c.args.planner.now) (books_of c.args.shelf.now) c.args.token (asked_of q)) (sym c.in-ServerInfo.is))
    (inl (c.tell_fixed-in-ServerInfo.ensures (g.P.Planning.talk c.args.planner.now) (working g.C.Engine.some_state c.args.desk.now (books_of c.args.shelf.now) (g.T.Clock.told c.args.clock.now) (g.D.Dice.told c.args.dice.now)) Info (sym c.limits-limits.ensures) refl c.info.ensures))
