-- What a net tells of itself.
use Rattle.std.specs.Prelude.{◌≡◌, ℕ, ℤ, Bool, true, List, Option, Some, None}
use Rattle.reql_outside.specs.Source.{Source}
use Rattle.reql_outside.specs.Tape.{counted}
use Rattle.reql_net.specs.Doors.{DoorTold, untouched}
use Rattle.reql_net.specs.declared.net.NetFault.{NetFault}
use Rattle.reql_net.specs.declared.net.NetFault.TheVariants as fault
use Rattle.reql_net.specs.declared.net.Post.{Post}

-- how often it was asked, the port and the number of posts of the last time, how many it gave then, how often it failed, and
-- whether the dice and clocks of its posts are sound, which no call changes
pub record NetTold : Type 0 where
  pub asked : ℕ
  pub last : Option (ℕ × ℕ)
  pub gave : ℕ
  pub faults : ℕ
  pub sound : Bool

-- the first four of these, as a net counts them
pub record Asking : Type 0 where
  pub asked : ℕ
  pub last : Option (ℕ × ℕ)
  pub gave : ℕ
  pub faults : ℕ

abbrev pub told_of : Asking → Bool → NetTold
told_of a sound = record { asked = a.asked; last = a.last; gave = a.gave; faults = a.faults; sound = sound }

-- a net before its first call
abbrev pub unasked : Bool → NetTold
unasked sound = record { asked = 0; last = None; gave = 0; faults = 0; sound = sound }

-- one call, which gave so many posts and failed so often
abbrev pub asks : NetTold → ℕ → ℕ → ℕ → ℕ → NetTold
asks old port n gave failed = record old { asked = counted old.asked 1; last = Some (port, n); gave = gave; faults = counted old.faults failed }

-- one call that gave none: it failed, or not
abbrev pub Counts : NetTold → NetTold → ℕ → ℕ → NetFault → Type 0
Counts old new port n fault.Failed = new ≡ asks old port n 0 1
Counts old new port n fault.Memory = new ≡ asks old port n 0 0

-- the door of a post has given nothing
abbrev pub IsUntouched : {R D T : Type 0} → (R → DoorTold) → Post R D T → Type 0
IsUntouched told post = told post.door ≡ untouched

-- the dice and the clock of a post never fail
abbrev pub IsSound : {R D T : Type 0} → (D → Source (List ℕ)) → (T → Source ℤ) → Post R D T → Type 0
IsSound rolled told post = ((rolled post.dice).sound ≡ true) × ((told post.clock).sound ≡ true)
