use Rattle.reql_turns.proofs.Frames.{framed, received_so, long_so, poor_so}
use Rattle.reql_turns.proofs.turn.go_on.Goals as goal

pub returns-in-Ok-Some-clause-goes : goal.returns-in-Ok-Some-clause-goes
returns-in-Ok-Some-clause-goes g c = λ e.
    let t = rw c.in-Ok-Some.field-0-is at c.in-Ok-Some.ensures in
    framed (g.H.Handler.talk c.args.handler.now) _ _ _ _ c.args.feeder.now.held c.take.new.self.held c.args.feeder.now.limit c.in-Ok-Some.frame c.handle.result e t.1 t.2 (rw c.expects.ensures.still at (c.handle.ensures.handled c.take.new.self.held))

pub returns-in-Ok-None-clause-goes : goal.returns-in-Ok-None-clause-goes
returns-in-Ok-None-clause-goes g c = λ e.
    let t = rw c.in-Ok-None.field-0-is at c.in-Ok-None.ensures in
    received_so (g.H.Handler.talk c.args.handler.now) _ _ _ c.args.feeder.now c.take.new.self c.receive_frame.new.feeder.held c.receive_frame.result e t c.receive_frame.ensures.receives

pub returns-in-Err-TooLong-clause-goes : goal.returns-in-Err-TooLong-clause-goes
returns-in-Err-TooLong-clause-goes g c = λ e.
    let t = rw c.in-Err-TooLong.field-0-is at c.in-Err-TooLong.ensures in
    rw c.in-Err-TooLong.len-is (long_so (g.H.Handler.talk c.args.handler.now) _ _ c.args.feeder.now.held c.args.feeder.now.limit c.in-Err-TooLong.len e t.1)

pub returns-in-Err-Memory-clause-goes : goal.returns-in-Err-Memory-clause-goes
returns-in-Err-Memory-clause-goes g c = λ e.
    let t = rw c.in-Err-Memory.field-0-is at c.in-Err-Memory.ensures in
    poor_so (g.H.Handler.talk c.args.handler.now) _ _ c.args.feeder.now.held c.args.feeder.now.limit e t.0
