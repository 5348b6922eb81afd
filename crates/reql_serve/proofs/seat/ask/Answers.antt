use Rattle.std.proofs.Common.{◌<◌, length, refl, sym, ap, ◌∙◌, arith, None, Some}
use Rattle.reql_serve.proofs.Seated.{serves, share_served, wants_memory, client_came, nobody_came, taken_no_more, nobody_sits, sits_so}
use Rattle.reql_serve.proofs.seat.ask.Goals as goal

pub returns-then-worker-eq0 : goal.returns-then-worker-eq0
returns-then-worker-eq0 g c =
    serves _ _ _ _ _ _ _ _ _ _ c.args.worker.now c.stop.new.worker None None
    (λ o h. share_served _ _ _ _ _ _ _ _ _ _ o c.args.worker.now c.stop.new.worker c.requires.ready h (omega (arith, c.if-worker-eq0.true)) c.stop.ensures)

pub returns-in_default : goal.returns-in_default
returns-in_default g c =
    let s = c.stop-in_default.ensures in
    serves _ _ _ _ _ _ _ _ _ _ c.args.worker.now c.stop-in_default.new.worker None None
    (λ o h. wants_memory _ _ _ _ _ _ _ _ _ _ o c.args.worker.now c.stop-in_default.new.worker c.requires.ready h s.still s.left (ap (λ x. x.items) s.ended ∙ c.reserve.ensures.items) (omega (arith, c.if-worker-eq0.false)) s.state s.bench)

pub unreachable-requires : goal.unreachable-requires
unreachable-requires g c = nobody_sits c.args.ground.now.hall.now c.args.worker.now.bench c.requires.of_this_hall (sym c.take.ensures.value ∙ c.in_default-take.is)

pub invite-requires-clause-of_this_hall : goal.invite-requires-clause-of_this_hall
invite-requires-clause-of_this_hall g c = sits_so c.args.ground.now.hall.now c.args.worker.now.bench c.in-Some.bench c.requires.of_this_hall (sym c.take.ensures.value ∙ c.in-Some.is)

pub returns-in-Client : goal.returns-in-Client
returns-in-Client g c =
    let e = c.in-Client.ensures in
    let room : length c.reserve.new.self.items < c.reserve.new.self.cap = omega (arith, c.in-Ok.ensures.ok, c.reserve.new.self.ok) in
    let share : 0 < c.args.worker.now.left = omega (arith, c.if-worker-eq0.false) in
    serves _ _ _ _ _ _ _ _ _ _ c.args.worker.now _ None (Some c.in-Client.sitting)
    (λ o h. client_came _ _ _ _ _ _ _ _ _ _ o c.args.worker.now _ c.in-Some.bench c.in-Client.sitting c.requires.ready (sym c.take.ensures.value ∙ c.in-Some.is) h e.0 e.1 e.2 refl c.reserve.ensures.items room share refl c.take.ensures.after)

pub returns-in-Nobody : goal.returns-in-Nobody
returns-in-Nobody g c =
    let e = c.in-Nobody.ensures in
    serves _ _ _ _ _ _ _ _ _ _ c.args.worker.now _ None None
    (λ o h. nobody_came _ _ _ _ _ _ _ _ _ _ o c.args.worker.now _ c.in-Some.bench c.in-Nobody.bench c.requires.ready (sym c.take.ensures.value ∙ c.in-Some.is) h e.0 e.1 refl c.reserve.ensures.items refl refl)

pub returns-in-Over : goal.returns-in-Over
returns-in-Over g c =
    let e = c.in-Over.ensures in
    let s = c.stop-in-Over.ensures in
    serves _ _ _ _ _ _ _ _ _ _ c.args.worker.now c.stop-in-Over.new.worker None None
    (λ o h. taken_no_more _ _ _ _ _ _ _ _ _ _ o c.args.worker.now c.stop-in-Over.new.worker c.in-Some.bench c.in-Over.bench c.in-Over.state c.requires.ready (sym c.take.ensures.value ∙ c.in-Some.is) h e.0 e.1 (s.still ∙ e.2) s.left (ap (λ x. x.items) s.ended ∙ c.reserve.ensures.items) (omega (arith, c.if-worker-eq0.false)) s.state s.bench)
