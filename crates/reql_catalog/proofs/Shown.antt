-- The names of a map's rows, and walks over slots.
use Rattle.std.proofs.Common.{◌≡◌, ℕ, ◌+◌, List, [], ◌∷◌, ◌++◌, drop, map, Bool, true, false, cond, if◌then◌else◌, refl, ap, ◌∙◌, append_assoc}
use Rattle.std.specs.Map.{keys_of}
use Rattle.reql_datum.specs.Plain.{text}
use Rattle.reql_catalog.specs.Catalog.{holds, slots_from}
use Rattle.reql_catalog.specs.declared.map.Row.{Row}
use Rattle.reql_catalog.specs.declared.slot.Slot.{Slot}

pub names_shown : {V : Type 0} (rs : List (Row V)) → map text (keys_of (map (λ (r : Row V). (r.name, r.value)) rs)) ≡ map (λ (r : Row V). text r.name) rs
names_shown [] = refl
names_shown (r ∷ rs) = ap (λ t. text r.name ∷ t) (names_shown rs)

found_at : (b : Bool) (p : ℕ) (before after all : List ℕ) → before ++ cond b (p ∷ after) after ≡ all → (if b then before ++ p ∷ [] else before) ++ after ≡ all
found_at true p before after all h = append_assoc before (p ∷ []) after ∙ h
found_at false p before after all h = h

-- one slot more
pub slots_on : (db : List ℕ) (p : ℕ) (ss : List Slot) (s : Slot) (before found all : List ℕ) → drop p ss ≡ s ∷ drop (p + 1) ss → found ≡ (if holds db s then before ++ p ∷ [] else before)
    → before ++ slots_from p db (drop p ss) ≡ all → found ++ slots_from (p + 1) db (drop (p + 1) ss) ≡ all
slots_on db p ss s before found all is now so_far = rw now (found_at (holds db s) p before (slots_from (p + 1) db (drop (p + 1) ss)) all (rw is at so_far))
