use Rattle.std.proofs.Common.{ap, ◌∙◌, take, drop}
use Rattle.reql_load.specs.Script.{rounds}
use Rattle.reql_load.specs.Writing.{with_all}
use Rattle.reql_load.proofs.Rounds.{rounds_on, some_left}
use Rattle.reql_load.proofs.sessions.put_rounds.Goals as goal

pub loop-rest-preserved : goal.loop-rest-preserved
loop-rest-preserved c =
    rounds_on c.args.seed c.loop-rest.writer c.put_round.new.writer (with_all c.args.writer.now (rounds c.args.seed c.args.docs.now)) c.loop-rest.rest.now c.split.result.0.now c.split.result.1.now
    (some_left c.loop-rest.rest.now c.is_empty.result c.is_empty.ensures c.loop-rest-test.true)
    (c.split.ensures.front ∙ ap (λ n. take n c.loop-rest.rest.now) c.per_round.ensures.value) (c.split.ensures.back ∙ ap (λ n. drop n c.loop-rest.rest.now) c.per_round.ensures.value)
    c.in_ok-put_round.ensures c.loop-rest.invariant
