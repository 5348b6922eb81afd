use Rattle.std.proofs.Common.{[], refl, ap, ◌∙◌}
use Rattle.reql_session_spec.specs.Books.{opened}
use Rattle.reql_session_spec.specs.Tasks.{Planning, at}
use Rattle.reql_session_api.specs.Meant.{answered_of, arms_of}
use Rattle.reql_plan_driver.specs.Walking.{tools}
use Rattle.reql_open_cursors.specs.Kept.{books_of}
use Rattle.reql_session.specs.Settling.{working}
use Rattle.reql_session.proofs.Keeping.{still_after}
use Rattle.reql_session.proofs.Opened.{course_wanted}
use Rattle.reql_session.proofs.Started.{still_ended, begun, first_stage, reaches_end, same_noreply, ends_next, ends_points, starts_ends, starts_denied}
use Rattle.reql_session.proofs.starting.start.Goals as goal

pub returns-in_default-clause-started : goal.returns-in_default-clause-started
returns-in_default-clause-started g c =
    course_wanted (g.P.Planning.talk c.args.planner.now) (g.L.Link.tape c.args.link.now) (g.L.Link.tape c.give_up.new.link) (working g.C.Engine.some_state c.args.desk.now (books_of c.args.shelf.now) (g.T.Clock.told c.args.clock.now) (g.D.Dice.told c.args.dice.now)) (working g.C.Engine.some_state c.give_up.new.desk (books_of c.give_up.new.shelf) (g.T.Clock.told c.args.clock.now) (g.D.Dice.told c.args.dice.now))
    (books_of c.args.shelf.now) (books_of c.args.shelf.now) c.args.token (begun c.args.plan c.args.noreply (opened (books_of c.args.shelf.now))) c.args.noreply (arms_of c.as_slice.result.now) [] c.give_up.result refl refl (ap arms_of (c.as_slice.ensures.value ∙ c.new-met.ensures.opened))
    (c.give_up.ensures.settled (g.P.Planning.talk c.args.planner.now) (g.T.Clock.told c.args.clock.now) (g.D.Dice.told c.args.dice.now))

pub returns-in-Ends-clause-started : goal.returns-in-Ends-clause-started
returns-in-Ends-clause-started g c =
    starts_ends (g.P.Planning.talk c.args.planner.now) g.C.Engine.some_state (g.L.Link.tape c.args.link.now) (g.L.Link.tape c.tell_changes.new.link) (g.L.Link.tape c.end_course.new.link) (working g.C.Engine.some_state c.end_course.new.desk (books_of c.end_course.new.shelf) (g.T.Clock.told c.follow-reached.new.clock) (g.D.Dice.told c.follow-reached.new.dice))
    (tools c.args.desk.now (g.T.Clock.told c.args.clock.now) (g.D.Dice.told c.args.dice.now)) (tools c.follow-reached.new.desk (g.T.Clock.told c.follow-reached.new.clock) (g.D.Dice.told c.follow-reached.new.dice)) (g.P.Planner.state c.begin-course.result) (g.P.Planner.state c.follow-reached.new.course) c.new-met.result c.follow-reached.new.met c.follow-reached.result c.in-Ends.to (books_of c.saw_names.new.self) (books_of c.args.shelf.now) c.args.token
    (at (books_of c.args.shelf.now) (Planning c.args.token c.args.plan c.args.noreply (opened (books_of c.args.shelf.now)) [] [])) c.end_course.result c.in-Ends.is c.follow-reached.ensures.follows
    (first_stage (books_of c.args.shelf.now) c.args.token c.args.plan c.args.noreply c.in-Ok.open (g.P.Planner.state c.begin-course.result) c.new-met.result c.begin-course.ensures c.in-Ok.ensures c.new-met.ensures.names c.new-met.ensures.opened) c.tell_changes.ensures c.saw_names.ensures
    (c.end_course.ensures.ended (g.P.Planning.talk c.args.planner.now) (g.P.Planner.state c.follow-reached.new.course) (g.T.Clock.told c.follow-reached.new.clock) (g.D.Dice.told c.follow-reached.new.dice) (same_noreply (g.P.Planning.talk c.args.planner.now) (g.P.Planner.state c.begin-course.result) (g.P.Planner.state c.follow-reached.new.course) c.args.plan c.args.noreply c.in-Ok.open c.begin-course.ensures c.follow-reached.ensures.request)
    (reaches_end (g.P.Planning.talk c.args.planner.now) (g.P.Planner.state c.begin-course.result) (g.P.Planner.state c.follow-reached.new.course) c.args.plan c.args.noreply c.in-Ok.open (answered_of c.in-Ends.to) c.limits-limits.result.now c.follow-reached.new.met.points.items c.batch.result c.lesser-batch.result
    c.begin-course.ensures c.follow-reached.ensures.request c.limits-limits.ensures c.batch.ensures c.lesser-batch.ensures
    (ends_next (g.P.Planning.talk c.args.planner.now) g.C.Engine.some_state (tools c.args.desk.now (g.T.Clock.told c.args.clock.now) (g.D.Dice.told c.args.dice.now)) (tools c.follow-reached.new.desk (g.T.Clock.told c.follow-reached.new.clock) (g.D.Dice.told c.follow-reached.new.dice)) (g.P.Planner.state c.begin-course.result) (g.P.Planner.state c.follow-reached.new.course) c.new-met.result c.follow-reached.new.met c.follow-reached.result c.in-Ends.to c.in-Ends.is c.follow-reached.ensures.follows) (ends_points (g.P.Planning.talk c.args.planner.now) g.C.Engine.some_state (tools c.args.desk.now (g.T.Clock.told c.args.clock.now) (g.D.Dice.told c.args.dice.now)) (tools c.follow-reached.new.desk (g.T.Clock.told c.follow-reached.new.clock) (g.D.Dice.told c.follow-reached.new.dice)) (g.P.Planner.state c.begin-course.result) (g.P.Planner.state c.follow-reached.new.course) c.new-met.result c.follow-reached.new.met c.follow-reached.result c.in-Ends.to c.in-Ends.is c.follow-reached.ensures.follows)))

pub returns-clause-keeps : goal.returns-clause-keeps
returns-clause-keeps g c = λ rest.
    still_ended _ rest c.args.token c.follow-reached.new.met.names (books_of c.saw_names.new.self) (books_of c.args.shelf.now) (books_of c.give_up-in-Denied.new.shelf) c.saw_names.ensures
    (λ o w kept. still_after _ rest (books_of c.saw_names.new.self) (books_of c.give_up-in-Denied.new.shelf) c.args.token (arms_of c.as_slice-in-Denied.result.now) c.give_up-in-Denied.ensures.books w kept)

pub returns-clause-started : goal.returns-clause-started
returns-clause-started g c =
    starts_denied (g.P.Planning.talk c.args.planner.now) g.C.Engine.some_state (g.L.Link.tape c.args.link.now) (g.L.Link.tape c.tell_changes.new.link) (g.L.Link.tape c.give_up-in-Denied.new.link) (working g.C.Engine.some_state c.give_up-in-Denied.new.desk (books_of c.give_up-in-Denied.new.shelf) (g.T.Clock.told c.follow-reached.new.clock) (g.D.Dice.told c.follow-reached.new.dice))
    (tools c.args.desk.now (g.T.Clock.told c.args.clock.now) (g.D.Dice.told c.args.dice.now)) (tools c.follow-reached.new.desk (g.T.Clock.told c.follow-reached.new.clock) (g.D.Dice.told c.follow-reached.new.dice)) (g.P.Planner.state c.begin-course.result) (g.P.Planner.state c.follow-reached.new.course) c.new-met.result c.follow-reached.new.met c.follow-reached.result (books_of c.saw_names.new.self) (books_of c.args.shelf.now) c.args.token c.args.noreply (arms_of c.as_slice-in-Denied.result.now)
    (at (books_of c.args.shelf.now) (Planning c.args.token c.args.plan c.args.noreply (opened (books_of c.args.shelf.now)) [] [])) c.give_up-in-Denied.result c.in-Denied.is c.follow-reached.ensures.follows
    (first_stage (books_of c.args.shelf.now) c.args.token c.args.plan c.args.noreply c.in-Ok.open (g.P.Planner.state c.begin-course.result) c.new-met.result c.begin-course.ensures c.in-Ok.ensures c.new-met.ensures.names c.new-met.ensures.opened) (same_noreply (g.P.Planning.talk c.args.planner.now) (g.P.Planner.state c.begin-course.result) (g.P.Planner.state c.follow-reached.new.course) c.args.plan c.args.noreply c.in-Ok.open c.begin-course.ensures c.follow-reached.ensures.request) c.tell_changes.ensures c.saw_names.ensures (ap arms_of c.as_slice-in-Denied.ensures.value)
    (c.give_up-in-Denied.ensures.settled (g.P.Planning.talk c.args.planner.now) (g.T.Clock.told c.follow-reached.new.clock) (g.D.Dice.told c.follow-reached.new.dice))
