use Rattle.std.proofs.Common.{◌∙◌, ap, map, replicate, IfOk}
use Rattle.reql_catalog.specs.Machine.{opening}
use Rattle.reql_table_spec.specs.Limits.{usual_limits}
use Rattle.reql_table_spec.specs.Machine.{unused}
use Rattle.reql_query_session_spec.specs.Told.{keys_by, talk}
use Rattle.reql_core.specs.Core.{state_of}
use Rattle.reql_open_feed.specs.Open.{held_in}
use Rattle.reql_serve.specs.Working.{outside}
use Rattle.reql_serve.specs.Many.{ServesMany, at_end}
use Rattle.reql_words.specs.Words.{named}
use denote.Param.Send.{sendable}
use Rattle.reql_run.proofs.Sends.{engine_send, engine_view_send, engine_course_send, engine_plan_send}
use Rattle.reql_run.proofs.Served.{moved}
use Rattle.reql_run.proofs.Starting.{all_unused}
use Rattle.reql_run.proofs.listening.serve_posts.Goals as goal

pub serve_many-requires-clause-slots_unused : goal.serve_many-requires-clause-slots_unused
serve_many-requires-clause-slots_unused g c κs within = all_unused (state_of held_in) usual_limits.feeds usual_limits.tail c.in-Ok.start.engines.items usual_limits.slots c.in-Ok.ensures.engines

pub returns-clause-served : goal.returns-clause-served
returns-clause-served g c =
    moved (λ k w l n es. IfOk c.serve_many.result (λ many. ServesMany (talk (keys_by k w) l) (unused 0 0) g.G.Link.Link.kept (state_of held_in) (λ n. n) n es
    (map (λ p. outside (g.T.Clock.told p.clock) (g.D.Dice.told p.dice) (g.G.Door.told p.door)) c.args.posts.items) c.args.sessions
    (map (λ w. at_end (g.G.Door.told w.door) w.ended.items w.left w.state) many.workers.items) many.hall))
    _ c.args.key.now _ c.args.password.now _ usual_limits _ (opening (map named c.args.tables.now) usual_limits.slots) _ (replicate usual_limits.slots (unused usual_limits.feeds usual_limits.tail))
    (ap (λ p. p.key.items) c.new-planner.ensures ∙ c.in-Ok.ensures.key) (ap (λ p. p.password.items) c.new-planner.ensures ∙ c.in-Ok.ensures.password) (ap (λ p. p.limits) c.new-planner.ensures ∙ c.in-Ok.ensures.limits) c.in-Ok.ensures.names c.in-Ok.ensures.engines
    c.serve_many.ensures.served

pub returns-clause-back : goal.returns-clause-back
returns-clause-back g c = c.serve_many.ensures.back

pub serve_many-requires-send-C : goal.serve_many-requires-send-C
serve_many-requires-send-C g c κs within = let s = engine_send in search sendable

pub serve_many-requires-send-C-View : goal.serve_many-requires-send-C-View
serve_many-requires-send-C-View g c κs within = let s = engine_view_send in search sendable

pub serve_many-requires-send-P-Course : goal.serve_many-requires-send-P-Course
serve_many-requires-send-P-Course g c κs within = let s = engine_course_send in search sendable

pub serve_many-requires-send-P-Plan : goal.serve_many-requires-send-P-Plan
serve_many-requires-send-P-Plan g c κs within = let s = engine_plan_send in search sendable
