-- What a feed tells of one change: the difference of its value before and after (changefeed documentation).
use Rattle.std.specs.Prelude.{ℕ, suc, List, [], ◌∷◌, Option, Some, None, option_map, Bool, ◌&&◌, cond, if◌then◌else◌}
use Rattle.std.specs.List.{list_any}
use Rattle.reql_datum.specs.Plain.{Plain}
use Rattle.reql_term.specs.Views.{Entry}
use Rattle.reql_rules.specs.Types.{same, is_null}
use Rattle.reql_bag.specs.Bag.{less_all}

-- what left and what came, in a limit feed with their places; each may be absent
pub record Difference : Type 0 where
  pub old : Option Plain
  pub new : Option Plain
  pub old_at : Option ℕ
  pub new_at : Option ℕ

abbrev pub of_values : Option Plain → Option Plain → Difference
of_values old new = record { old = old; new = new; old_at = None; new_at = None }

-- null is absence
abbrev pub present : Plain → Option Plain
present v = cond (is_null v) None (Some v)

-- point: the document before and after, where they differ
abbrev pub point_items : Plain → Plain → List Difference
point_items v w = cond (same v w) [] (of_values (present v) (present w) ∷ [])

-- two lists in pairs, the shorter one padded with absence
abbrev pub paired : List Plain → List Plain → List Difference
paired [] [] = []
paired [] (n ∷ ns) = of_values None (Some n) ∷ paired [] ns
paired (o ∷ os) [] = of_values (Some o) None ∷ paired os []
paired (o ∷ os) (n ∷ ns) = of_values (Some o) (Some n) ∷ paired os ns

-- range: what left and what came, counted with repeats
abbrev pub range_items : List Plain → List Plain → List Difference
range_items vs ws = paired (less_all vs ws) (less_all ws vs)

-- elements of a limit feed are told apart by their index value, their primary key and their document
abbrev pub same_entry : Entry → Entry → Bool
same_entry e f = same e.0 f.0 && same e.1.0 f.1.0 && same e.1.1 f.1.1

abbrev pub stands_in : Entry → List Entry → Bool
stands_in e fs = list_any (same_entry e) fs

-- the first of es that does not stand in fs, with its place; the places of es begin at i
abbrev pub gone : ℕ → List Entry → List Entry → Option (ℕ × Entry)
gone i [] fs = None
gone i (e ∷ es) fs = if stands_in e fs then gone (suc i) es fs else Some (i, e)

abbrev pub document_of : ℕ × Entry → Plain
document_of p = p.1.1.1

abbrev pub moved : Option (ℕ × Entry) → Option (ℕ × Entry) → Difference
moved old new = record { old = option_map document_of old; new = option_map document_of new; old_at = option_map (λ p. p.0) old; new_at = option_map (λ p. p.0) new }

abbrev pub moves : Option (ℕ × Entry) → Option (ℕ × Entry) → List Difference
moves None None = []
moves None (Some n) = moved None (Some n) ∷ []
moves (Some o) new = moved (Some o) new ∷ []

-- limit: the element that left with its place before, and the one that came with its place after
abbrev pub limit_items : List Entry → List Entry → List Difference
limit_items es fs = moves (gone 0 es fs) (gone 0 fs es)
