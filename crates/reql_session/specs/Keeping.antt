-- What a session keeps true of what it holds open.
use Rattle.std.specs.Prelude.{ℕ, List, ◌++◌, flat_map}
use Rattle.reql_session_spec.specs.Requests.{Arm}
use Rattle.reql_session_spec.specs.Books.{Books, Open}
use Rattle.reql_open_cursors.specs.Apart.{IsApart}
use Rattle.reql_open_cursors.specs.Quiet.{AllQuiet}
use Rattle.reql_open_cursors.specs.There.{AllThere}

-- A token has one thing open at most; who waits, or is still to be visited, is apart from the others and has a feed with nothing
-- left; and the slots of all arms are there.
pub record Keeps (slots : ℕ) (rest : List ℕ) (b : Books) : Type 0 where
  pub apart : IsApart b
  pub quiet : AllQuiet b.feeds (b.waiting ++ rest)
  pub there : AllThere slots b.feeds

-- the arms of open feeds, in order
abbrev pub arms_open : List Open → List Arm
arms_open fs = flat_map (λ (f : Open). f.arms) fs
