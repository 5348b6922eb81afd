use Rattle.std.proofs.Common.{take, ap, ◌∙◌, refl}
use Rattle.reql_outside.specs.Played.{Played}
use Rattle.reql_outside.proofs.Playing.{left_taken}
use Rattle.reql_outside.proofs.memory.MemLinkLink.recv.Goals as goal

pub returns-in-Ok-clause-plays : goal.returns-in-Ok-clause-plays
returns-in-Ok-clause-plays c = (
  rw c.skip.ensures (left_taken c.load.new.self c.in-Ok.n c.args.self.now.left (take c.in-Ok.n c.give.new.buf)
      (c.in-Piece.ensures.1 ∙ ap (λ (p : Played). p.left) c.self.view_is)
      (c.in-Ok.ensures.given ∙ ap (take c.in-Ok.n) c.piece.ensures)),
  rw (← c.self.view_is) refl,
)
