-- A list of terms with another term at a place, seen as what its terms say.
use Rattle.std.proofs.Common.{◌≡◌, ℕ, List, map, set}
use Rattle.std.proofs.lemmas.List.{map-set}
use Rattle.reql_term.specs.View.{form_of}
use Rattle.reql_term.specs.declared.term.Term.{Term}

pub set_seen : (ts : List Term) (i : ℕ) (t : Term) → map form_of (set ts i t) ≡ set (map form_of ts) i (form_of t)
set_seen ts i t = map-set form_of ts i t
