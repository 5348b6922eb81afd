-- A script that is being written, and what requests make of it.
use Rattle.std.specs.Prelude.{ℕ, suc, List, [], ◌∷◌, ◌++◌}
use Rattle.reql_wire.specs.Frames.{spelling}
use Rattle.reql_wire.specs.Greeting.{greeting_by}
use Rattle.reql_load.specs.Script.{Request, under, next, frame}

-- the bytes so far, and the next of the tokens that rise
pub record Written : Type 0 where
  pub bytes : List ℕ
  pub token : ℕ

abbrev pub greeted : Written
greeted = record { bytes = greeting_by []; token = 3 }

abbrev pub with_request : Written → Request → Written
with_request w (under n body) = record { bytes = w.bytes ++ spelling (frame n body); token = w.token }
with_request w (next body) = record { bytes = w.bytes ++ spelling (frame w.token body); token = suc w.token }

abbrev pub with_all : Written → List Request → Written
with_all w [] = w
with_all w (r ∷ rs) = with_all (with_request w r) rs
