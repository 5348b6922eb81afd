-- The items of a batch that a table gave, as a session keeps them.
use Rattle.std.specs.Prelude.{ℕ, nat_eq, nat_lt, List, [], ◌∷◌, ◌++◌, cond, take, drop, Some, Bool, true, false, ◌&&◌}
use Rattle.reql_datum.specs.Plain.{Plain}
use Rattle.reql_datum.specs.declared.point.Point.{Point}
use Rattle.reql_session_spec.specs.Requests.{Arm, Shown, Batch, stamped}
use Rattle.reql_session_spec.specs.Books.{Books, Open, with_left}
use Rattle.reql_session_spec.specs.Tasks.{Talk, Next, skipped_item, change_items, tell}
use Rattle.reql_session_api.specs.declared.answered.Arm as coded

-- how many items tell what was left out
abbrev pub skips : ℕ → ℕ
skips skipped = cond (nat_eq skipped 0) 0 1

-- the item that tells it, and the changes, of the arm at this place
abbrev pub items_of : ℕ → Arm → ℕ → ℕ → List (ℕ × Plain) → List Shown
items_of at arm skipped last items = skipped_item at arm skipped last ++ change_items at arm items

-- whether there are no arms
abbrev pub is_none_of : List Arm → Bool
is_none_of [] = true
is_none_of (arm ∷ arms) = false

-- whether the slots of arms are below a number
abbrev pub are_below : ℕ → List coded.Arm → Bool
are_below n [] = true
are_below n (a ∷ rest) = nat_lt a.slot n && are_below n rest

-- what tells how many were left out and the first changes are told, so many as there are in a batch; the others are left
module _ {PL : Type 0} (k : Talk PL) where
  abbrev pub tells_items : Books → ℕ → Open → ℕ → List Point → List Shown → List Shown → Next PL
  tells_items b token f batch points skip changes =
      tell k b token (Batch f.notes (skip ++ take batch changes) (Some (stamped b.names points))) (with_left token (drop batch changes) b) f.arms (Some f.arms)
