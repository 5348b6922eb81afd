-- What stands before the results of an answer.
use Rattle.std.specs.Prelude.{ℕ, List, [], ◌∷◌, ◌++◌, map, Bool, true, false, cond, codes, decimal}
use Rattle.serde_json.specs.Data as json
use Rattle.serde_json.specs.Written.{comma_if}
use Rattle.reql_datum.specs.View.{plain}
use Rattle.reql_json.specs.Showing.{shown}
use Rattle.reql_session_spec.specs.Bodies.{is_united}
use Rattle.reql_session_api.specs.declared.answered.Shown.{Shown}

-- where there are no notes
abbrev pub start_text : List ℕ
start_text = codes "{\"n\":[],\"r\":"

-- numbers with a comma before each, the first one only where one stands before
abbrev pub numbers_text : Bool → List ℕ → List ℕ
numbers_text later [] = []
numbers_text later (n ∷ ns) = (comma_if later ++ decimal n) ++ numbers_text true ns

-- what an answer tells of a feed's items
abbrev pub places_of : List Shown → List ℕ
places_of xs = map (λ x. x.at) xs

abbrev pub stamps_of : List Shown → List ℕ
stamps_of xs = map (λ x. x.stamp) xs

abbrev pub items_shown : List Shown → List json.Data
items_shown xs = map (λ x. shown (plain x.item)) xs

-- the text of the members before the items
abbrev pub arms_text : List ℕ → List ℕ → List ℕ
arms_text notes places = cond (is_united notes) (codes "\"a\":[" ++ numbers_text false places ++ codes "],") []

abbrev pub front_text : List ℕ → List Shown → List ℕ
front_text notes xs =
    codes "{" ++ arms_text notes (places_of xs) ++ codes "\"f\":[" ++ numbers_text false (stamps_of xs) ++ codes "],\"n\":[" ++ numbers_text false notes
    ++ codes "],\"r\":"
