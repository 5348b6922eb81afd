use Rattle.std.specs.Prelude.{◌≡◌, ◌==◌, ℕ, ◌⊎◌, false, List, [], ◌∷◌, ◌++◌, length, map, take, min}
use Rattle.std.specs.List.{list_any}
use Rattle.reql_outside.specs.Tape.{counted}
use Rattle.reql_outside.specs.Plays.{Byte, Quiet, Broken}
use Rattle.reql_outside.specs.Played.{Played}
use Rattle.reql_outside.specs.declared.link.Recv.{Recv}
use Rattle.reql_outside.specs.declared.link.Recv.TheVariants as recv
use Rattle.reql_outside.specs.declared.link.Sending.{Sending}
use Rattle.reql_outside.specs.declared.link.Sending.TheVariants as sending

-- one recv: what it gave is the script's front, and is then gone; Failed is the script's, or want
-- of memory, and then the script stays
abbrev pub PlaysOn : Played → Played → List ℕ → Recv → Type 0
PlaysOn old new buf (recv.Got n) =
    (old.left ≡ map Byte (take n buf) ++ new.left)
    × (new ≡ record old { tape = new.tape; left = new.left })
PlaysOn old new buf recv.Idle =
    (old.left ≡ Quiet ∷ new.left) × (new ≡ record old { tape = new.tape; left = new.left })
PlaysOn old new buf recv.End = (old.left ≡ []) × (new ≡ record old { tape = new.tape })
PlaysOn old new buf recv.Failed =
    ((old.left ≡ Broken ∷ new.left) ⊎ (old.left ≡ new.left))
    × (new ≡ record old { tape = new.tape; left = new.left })

-- one send: it takes what it may, and not where it is to fail
abbrev pub Answers : Played → Played → List ℕ → Sending → Type 0
Answers old new piece (sending.Sent n) =
    (list_any (λ k. k == old.calls) old.send_fails ≡ false)
    × (n ≡ min (length piece) old.most)
    × (new ≡ record old { tape = new.tape; calls = counted old.calls 1 })
Answers old new piece sending.Failed =
    new ≡ record old { tape = new.tape; calls = counted old.calls 1 }
