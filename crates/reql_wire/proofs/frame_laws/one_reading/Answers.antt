use Rattle.std.proofs.Common.{◌≡◌, ◌-◌, ◌^◌, sym, ◌∙◌, ap, arith}
use Rattle.reql_wire.specs.Frames.{Whole, front}
use Rattle.reql_wire.proofs.Fronts.{front_spelling}
use Rattle.reql_wire.proofs.frame_laws.one_reading.Goals as goal

pub returns : goal.returns
returns c = λ f g a b fits gits e.
    let same : Whole f a ≡ Whole g b = sym (front_spelling (2 ^ 32 - 1) f a (omega arith) fits) ∙ ap (front (2 ^ 32 - 1)) e ∙ front_spelling (2 ^ 32 - 1) g b (omega arith) gits in
    (cc, cc)
