use Rattle.std.specs.Prelude.{◌≡◌, ◌<◌, [], ◌∷◌, length}
use Rattle.reql_outside.specs.Plays.{Quiet, Broken, Scripted, left_of}
use Rattle.reql_outside.specs.declared.script.Turn.{Turn}
use Rattle.reql_outside.specs.declared.script.Turn.TheVariants as turn

-- what came next, and what is then left
abbrev pub Turns : Scripted → Scripted → Turn → Type 0
Turns old new turn.Piece = (0 < length new.piece) × (left_of new ≡ left_of old)
Turns old new turn.Idle = left_of old ≡ Quiet ∷ left_of new
Turns old new turn.Fail = left_of old ≡ Broken ∷ left_of new
Turns old new turn.End = (left_of old ≡ []) × (left_of new ≡ [])
