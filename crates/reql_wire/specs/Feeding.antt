use Rattle.std.specs.Prelude.{◌≡◌, ℕ, ◌<◌, ◌≤◌, ◌^◌, List, ◌++◌, length, Option, Some, None, Result, Ok, Err}
use Rattle.reql_wire.specs.Frames.{Fits, spelling, More, Whole, TooLong, front, NoFrame, HoldsFrame, Over}
use Rattle.reql_wire.specs.declared.frame.Frame.{Frame}
use Rattle.reql_wire.specs.declared.frame.WireFault.{WireFault}
use Rattle.reql_wire.specs.declared.frame.WireFault.TheVariants as fault
use Rattle.reql_wire.specs.declared.writing.FrameFault.{FrameFault}
use Rattle.reql_wire.specs.declared.writing.FrameFault.TheVariants as out

-- the longest body that a feeder takes, and the bytes that it holds
pub record Holding : Type 0 where
  pub limit : ℕ
  pub held : List ℕ

-- what take answers, by the front of the bytes and by the frames that they spell
abbrev pub Takes : Holding → Holding → Result (Option Frame) WireFault → Type 0
Takes old new (Ok (Some f)) =
    (front old.limit old.held ≡ Whole f new.held)
    × (old.held ≡ spelling f ++ new.held) × Fits old.limit f
    × (new.limit ≡ old.limit)
Takes old new (Ok None) =
    (front old.limit old.held ≡ More) × NoFrame old.limit old.held × (new ≡ old)
Takes old new (Err (fault.TooLong len)) =
    (front old.limit old.held ≡ TooLong len) × Over old.limit old.held len × (new ≡ old)
Takes old new (Err fault.Memory) = HoldsFrame old.limit old.held × (new ≡ old)

-- what put_frame does: it appends the spelling of the frame, or changes nothing
abbrev pub PutsFrame : List ℕ → List ℕ → ℕ → List ℕ → Result Unit FrameFault → Type 0
PutsFrame old new token body (Ok x) =
    (length body < 2 ^ 32) × (new ≡ old ++ spelling (record { token = token; body = body }))
PutsFrame old new token body (Err (out.TooLong len)) =
    (2 ^ 32 ≤ length body) × (len ≡ length body) × (new ≡ old)
PutsFrame old new token body (Err out.Memory) = (length body < 2 ^ 32) × (new ≡ old)
