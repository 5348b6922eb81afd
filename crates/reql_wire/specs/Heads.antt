use Rattle.std.specs.Prelude.{◌≡◌, ℕ, ◌≤◌, List, ◌++◌, drop, length}
use Rattle.reql_wire.specs.Frames.{Fits, NoFrame, Over, spelling, Front, More, Whole, TooLong}
use Rattle.reql_wire.specs.declared.reading.Head.{Head}
use Rattle.reql_wire.specs.declared.reading.Head.TheVariants as head

-- what the reader of one front found
abbrev pub Finds : List ℕ → Head → Front → Type 0
Finds bytes head.More f = f ≡ More
Finds bytes (head.Whole token body used) f =
    (used ≤ length bytes)
    × (f ≡ Whole (record { token = token; body = body.now }) (drop used bytes))
Finds bytes (head.TooLong len) f = f ≡ TooLong len

-- a frame that was found is spelled there, and none where none was found
abbrev pub Spells : ℕ → List ℕ → Head → Type 0
Spells limit bytes (head.Whole token body used) =
    (bytes ≡ spelling (record { token = token; body = body.now }) ++ drop used bytes)
    × Fits limit (record { token = token; body = body.now })
Spells limit bytes head.More = NoFrame limit bytes
Spells limit bytes (head.TooLong len) = Over limit bytes len
