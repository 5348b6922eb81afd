use Rattle.std.proofs.Common.{◌∙◌, option_map, refl, sym, ap}
use Rattle.serde_json.specs.View.{view}
use Rattle.reql_client.specs.Calls.{Asks}
use Rattle.reql_client.specs.Listening.{Hears}
use Rattle.reql_client.specs.Reading.{json_of}
use Rattle.reql_client.proofs.Called.{said_as, unsent_as, answered, unanswered}
use Rattle.reql_client.proofs.client.Client.ask.Goals as goal

pub returns-in_default : goal.returns-in_default
unfolding Asks
returns-in_default g c = tt

pub returns-in-Err : goal.returns-in-Err
unfolding Asks
returns-in-Err g c = tt

pub returns-in-Memory : goal.returns-in-Memory
unfolding Asks
returns-in-Memory g c = tt

pub returns-then-not-send_all : goal.returns-then-not-send_all
unfolding Asks
returns-then-not-send_all g c = rw (← c.self.view_is) (unsent_as _ _ _ _ (c.deref.ensures.value ∙ c.in-Ok.ensures) c.if-not-send_all.ensures)

pub returns-in-TooLong : goal.returns-in-TooLong
unfolding Asks Hears
returns-in-TooLong g c = rw (← c.self.view_is) (record { mid = g.L.Link.tape c.send_all.new.link; says = said_as _ _ _ _ (c.deref.ensures.value ∙ c.in-Ok.ensures) c.if-not-send_all.ensures; hears = c.in-TooLong.ensures.hears })

pub returns-in-Ended : goal.returns-in-Ended
unfolding Asks Hears
returns-in-Ended g c = rw (← c.self.view_is) (record { mid = g.L.Link.tape c.send_all.new.link; says = said_as _ _ _ _ (c.deref.ensures.value ∙ c.in-Ok.ensures) c.if-not-send_all.ensures; hears = c.in-Ended.ensures.hears })

pub returns-in-ReadFault : goal.returns-in-ReadFault
unfolding Asks Hears
returns-in-ReadFault g c = rw (← c.self.view_is) (record { mid = g.L.Link.tape c.send_all.new.link; says = said_as _ _ _ _ (c.deref.ensures.value ∙ c.in-Ok.ensures) c.if-not-send_all.ensures; hears = c.in-ReadFault.ensures.hears })

pub returns-in-Worn : goal.returns-in-Worn
unfolding Asks Hears
returns-in-Worn g c = rw (← c.self.view_is) (record { mid = g.L.Link.tape c.send_all.new.link; says = said_as _ _ _ _ (c.deref.ensures.value ∙ c.in-Ok.ensures) c.if-not-send_all.ensures; hears = c.in-Worn.ensures.hears })

pub returns-in-Ok-Some : goal.returns-in-Ok-Some
unfolding Asks Hears
returns-in-Ok-Some g c = rw (← c.self.view_is) (
  record { mid = g.L.Link.tape c.send_all.new.link; says = said_as _ _ _ _ (c.deref.ensures.value ∙ c.in-Ok.ensures) c.if-not-send_all.ensures; hears = answered _ _ _ _ _ _ c.in-Body.body _ (view c.in-Ok-Some.value) c.in-Body.ensures.hears (ap json_of (sym c.as_slice.ensures) ∙ sym c.in-Ok-Some.ensures ∙ ap (option_map view) c.in-Ok-Some.field-0-is) },
  c.in-Body.ensures.limit,
  refl,
)

pub returns-in-Ok-None : goal.returns-in-Ok-None
unfolding Asks Hears
returns-in-Ok-None g c = rw (← c.self.view_is) (
    record { mid = g.L.Link.tape c.send_all.new.link; says = said_as _ _ _ _ (c.deref.ensures.value ∙ c.in-Ok.ensures) c.if-not-send_all.ensures; hears = unanswered _ _ _ _ _ _ c.in-Body.body _ c.in-Body.ensures.hears (ap json_of (sym c.as_slice.ensures) ∙ sym c.in-Ok-None.ensures ∙ ap (option_map view) c.in-Ok-None.field-0-is) }
    )
