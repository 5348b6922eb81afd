use Rattle.std.proofs.Common.{◌∙◌, ◌++◌, take, ap, subst, arith}
use Rattle.std.specs.Io.KnownBytes.{Appends}
use Rattle.std.proofs.KnownBytes.{Appends-trans}
use Rattle.reql_outside.proofs.Moving.{rest_whole, take_further}
use Rattle.reql_outside.proofs.stream.write_on.Goals as goal

pub loop-written-preserved : goal.loop-written-preserved
loop-written-preserved g c =
    let piece = c.args.piece.now in
    let written = c.loop-written.written in
    record {
      within = omega (arith, c.in-Some.ensures.room);
      bytes = subst (Appends (g.W.Write.contents c.args.output.now) (g.W.Write.contents c.write_some.new.output))
          (ap (λ rest. take written piece ++ take c.in-Some.n rest) (rest_whole piece written) ∙ take_further piece written c.in-Some.n c.loop-written.invariant.within)
          (Appends-trans _ _ _ _ _ c.loop-written.invariant.bytes c.in-Some.ensures.bytes);
    }
