-- What one change does to a limit feed's list: at most one element leaves, and at most one comes.
use Rattle.std.specs.Prelude.{◌≡◌, ◌≤◌, ℕ, List, length, Option, Some, None, false}
use Rattle.std.specs.List.{insert}
use Rattle.reql_rules.specs.Types.{is_null}
use Rattle.reql_term.specs.Views.{Entry}
use Rattle.reql_feed_spec.specs.Items.{stands_in}

abbrev pub with_one : Option (ℕ × Entry) → List Entry → List Entry
with_one None es = es
with_one (Some p) es = insert es p.0 p.1

-- an element that stands within a list, and not at all in another
abbrev pub IsApart : Option (ℕ × Entry) → List Entry → List Entry → Type 0
IsApart None kept fs = Unit {0}
IsApart (Some p) kept fs = (p.0 ≤ length kept) × (stands_in p.1 fs ≡ false) × (is_null p.1.1.1 ≡ false)

-- both lists are one list with an element put in, or none
pub record IsOneMove (es fs : List Entry) : Type 0 where
  pub kept : List Entry
  pub out : Option (ℕ × Entry)
  pub into : Option (ℕ × Entry)
  pub before : es ≡ with_one out kept
  pub after : fs ≡ with_one into kept
  pub out_apart : IsApart out kept fs
  pub into_apart : IsApart into kept es
