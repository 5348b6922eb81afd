use Rattle.std.proofs.Common.{[], take, drop, sym, arith, length-drop}
use Rattle.std.proofs.lemmas.List.{take-append-drop}
use Rattle.reql_outside.proofs.Moving.{sent_more, and_nothing, send_failed_first}
use Rattle.reql_outside.proofs.sending.send_all.Goals as goal

pub loop-sent-preserved : goal.loop-sent-preserved
loop-sent-preserved g c = record {
  within = omega (arith, c.in-Sent.ensures.fits);
  moves = sent_more _ _ _ c.args.piece.now c.loop-sent.sent c.in-Sent.n c.loop-sent.invariant.within c.loop-sent.invariant.moves c.in-Sent.ensures.told;
}

pub returns-in-Failed : goal.returns-in-Failed
returns-in-Failed g c = (
  take c.loop-sent.sent c.args.piece.now,
  drop c.loop-sent.sent c.args.piece.now,
  sym (take-append-drop c.loop-sent.sent c.args.piece.now),
  omega (arith, length-drop c.loop-sent.sent c.args.piece.now, c.loop-sent-test.true),
  and_nothing _ _ _ [] _ 0 (send_failed_first _ _ _ _ _ _ c.loop-sent.invariant.moves) c.in-Failed.ensures.told,
)
