use Rattle.std.proofs.Common.{refl, ap, ◌∙◌, length}
use Rattle.reql_wire.specs.Greeting.{Listening}
use Rattle.reql_turns.proofs.Greeted.{idle_greeting, more_greeting, whole_greeting, called_greeting, wrong_greeting, lost_greeting, broken_greeting, over_greeting}
use Rattle.reql_turns.proofs.Frames.{whole_room}
use Rattle.reql_turns.proofs.greeting.hear_more.Goals as goal

pub returns-in-Idle : goal.returns-in-Idle
returns-in-Idle g c = λ k. idle_greeting k _ _ c.args.ears.now _ refl refl c.in-Idle.ensures.hears.1 c.in-Idle.ensures.hears.2 c.hear.ensures.limit c.in-Idle.ensures.hears.0

pub returns-in-More : goal.returns-in-More
returns-in-More g c = λ k. more_greeting k _ _ (length c.args.buf.now) c.args.ears.now _ (whole_room _ c.requires.room) refl refl c.hear.ensures.key c.hear.ensures.limit c.in-More.ensures.hears

pub returns-in-Accepted : goal.returns-in-Accepted
returns-in-Accepted g c = λ k. whole_greeting k _ _ (length c.args.buf.now) c.args.ears.now _ (whole_room _ c.requires.room) refl c.hear.ensures.key c.hear.ensures.limit c.in-Accepted.ensures.hears

pub returns-in-Called : goal.returns-in-Called
returns-in-Called g c = λ k. called_greeting k _ _ (length c.args.buf.now) c.args.ears.now _ (whole_room _ c.requires.room) refl refl c.hear.ensures.key c.hear.ensures.limit c.in-Called.ensures.hears

pub returns-in-Refused : goal.returns-in-Refused
returns-in-Refused g c = λ k. wrong_greeting k _ _ (length c.args.buf.now) c.args.ears.now _ c.in-Refused.fault (whole_room _ c.requires.room) refl c.hear.ensures.key c.hear.ensures.limit c.in-Refused.ensures.hears

pub returns-in-Lost : goal.returns-in-Lost
returns-in-Lost g c = λ k. lost_greeting k _ _ (length c.args.buf.now) c.args.ears.now c.args.ears.now (whole_room _ c.requires.room) c.in-Lost.ensures.hears

pub returns-in-Over : goal.returns-in-Over
returns-in-Over g c = λ k.
    let same = c.in-Over.ensures.hears.1 in
    over_greeting k _ _ c.args.ears.now c.args.ears.now c.held.result c.end_of.result c.end_of.ensures (c.held.ensures.waiting (rw same c.requires.short) ∙ ap (λ (z : Listening). length z.heard) same) c.in-Over.ensures.hears.0

pub returns-in-Failed : goal.returns-in-Failed
returns-in-Failed g c = λ k. broken_greeting k _ _ c.args.ears.now c.args.ears.now c.in-Failed.ensures.hears.0
