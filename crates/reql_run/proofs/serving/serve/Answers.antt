use Rattle.std.proofs.Common.{arith, ◌∙◌, ap, map, replicate, IfOk}
use Rattle.std.proofs.lemmas.Grind.{common_steps}
use Rattle.reql_catalog.specs.Machine.{opening}
use Rattle.reql_table_spec.specs.Limits.{usual_limits}
use Rattle.reql_table_spec.specs.Machine.{unused}
use Rattle.reql_query_session_spec.specs.Told.{keys_by, talk}
use Rattle.reql_core.specs.Core.{state_of}
use Rattle.reql_open_feed.specs.Open.{held_in}
use Rattle.reql_serve.specs.Serving.{ServesOne}
use Rattle.reql_words.specs.Words.{named}
use Rattle.reql_run.proofs.Served.{moved}
use Rattle.reql_run.proofs.Starting.{all_unused}
use Rattle.reql_run.proofs.serving.serve.Goals as goal

pub serve_one-requires-clause-slots_unused : goal.serve_one-requires-clause-slots_unused
serve_one-requires-clause-slots_unused g c = all_unused (state_of held_in) usual_limits.feeds usual_limits.tail c.in-Ok.start.engines.items usual_limits.slots c.in-Ok.ensures.engines

pub returns-clause-served : goal.returns-clause-served
returns-clause-served g c =
    moved (λ k w l n es. IfOk c.serve_one.result (λ ended. ServesOne (talk (keys_by k w) l) (unused 0 0) (state_of held_in) (λ n. n) n es (g.T.Clock.told c.args.clock) (g.D.Dice.told c.args.dice) (g.L.Link.kept ended.session.tape) ended.session.end ended.session.turns ended.hall))
    _ c.args.key.now _ c.args.password.now _ usual_limits _ (opening (map named c.args.tables.now) usual_limits.slots) _ (replicate usual_limits.slots (unused usual_limits.feeds usual_limits.tail))
    (ap (λ p. p.key.items) c.new-planner.ensures ∙ c.in-Ok.ensures.key) (ap (λ p. p.password.items) c.new-planner.ensures ∙ c.in-Ok.ensures.password) (ap (λ p. p.limits) c.new-planner.ensures ∙ c.in-Ok.ensures.limits) c.in-Ok.ensures.names c.in-Ok.ensures.engines
    c.serve_one.ensures.served

pub returns-clause-back : goal.returns-clause-back
returns-clause-back g c = c.serve_one.ensures.back
