-- What was written is read back.
use Rattle.std.proofs.Common.{◌≡◌, ◌≤◌, ℕ, suc, max, List, [], ◌∷◌, ◌++◌, codes, map, Bool, true, false, cond, if◌then◌else◌, Option, Some, None, option_map, option_and_then, Ok, refl, sym, ap, ◌∙◌, subst, append_assoc, arith}
use Rattle.std.specs.List.{AllByRecursion}
use Rattle.std.specs.Result.{result_ok}
use Rattle.std.specs.Str.{IsUtf8}
use Rattle.json.proofs.Printed.Utf8.{IsUtf8-are_ascii}
use Rattle.serde_json.specs.Data.{Data, boolean, string, array, Items, no_items, item, depth, items_depth}
use Rattle.serde_json.specs.Read.{max_depth}
use Rattle.serde_json.specs.Written.{compact_text, items_text, comma_if}
use Rattle.reql_datum.specs.Kinds.{is_storable}
use Rattle.reql_datum.specs.Plain.{Plain}
use Rattle.reql_json.specs.Inverse.{in_range}
use Rattle.reql_json.specs.Reading.{document}
use Rattle.reql_json.specs.Showing.{shown, value}
use Rattle.reql_json.proofs.Back.{values_read_back}
use Rattle.reql_read.specs.Spelling.{HasText, HaveText}
use Rattle.reql_read.proofs.Bodies.{is_json}
use Rattle.reql_read.proofs.BodyText.{text_back, text_utf8}
use Rattle.reql_records.specs.Bodies.{body_of, inside, listed}
use Rattle.reql_table_records.specs.Records.{Change, Recorded, wrote, created, dropped, renamed, shut, one, flag, new_items, change_data, changes_items, tagged, data_of, text_of}
use Rattle.reql_table_records.specs.Reading.{document_in, new_in, change_in, changes_in, record_in, all_in, value_records, body_records}
use Rattle.reql_table_records.specs.Laws.{IsHeld, IsNewHeld, IsChangeHeld, CanBeWritten, ReadsBack}

-- ---- a body is the text of one array

abbrev all_data : List Recorded → Items
all_data [] = no_items
all_data (r ∷ rs) = item (data_of r) (all_data rs)

rest_text : (rs : List Recorded) → listed (map text_of rs) ++ 93 ∷ [] ≡ items_text true (all_data rs)
rest_text [] = refl
rest_text (r ∷ rs) = append_assoc (44 ∷ text_of r) (listed (map text_of rs)) (93 ∷ []) ∙ ap (λ t. 44 ∷ (text_of r ++ t)) (rest_text rs)

inside_text : (rs : List Recorded) → inside (map text_of rs) ++ 93 ∷ [] ≡ items_text false (all_data rs)
inside_text [] = refl
inside_text (r ∷ rs) = append_assoc (text_of r) (listed (map text_of rs)) (93 ∷ []) ∙ ap (λ t. text_of r ++ t) (rest_text rs)

body_text : (rs : List Recorded) → body_of (map text_of rs) ≡ compact_text (array (all_data rs))
unfolding body_of
body_text rs = ap (λ t. 91 ∷ t) (inside_text rs)

-- ---- it has a text

new_text : (new : Option Plain) → IsNewHeld new → HaveText (new_items new)
new_text None h = tt
new_text (Some d) h = (h.text, tt)

changes_text : (cs : List Change) → AllByRecursion IsChangeHeld cs → HaveText (changes_items cs)
changes_text [] h = tt
changes_text (c ∷ cs) h = ((h.0.1.text, new_text c.1 h.0.2), changes_text cs h.1)

letter : (s : List ℕ) → IsUtf8 s → (ds : Items) → HaveText ds → HasText (tagged s ds)
letter s plain ds h = (plain, h)

record_text : (r : Recorded) → CanBeWritten r → HasText (data_of r)
record_text (wrote cs) h = (IsUtf8-are_ascii (codes "w") refl, (changes_text cs h, tt))
record_text (created name multi text) h = (IsUtf8-are_ascii (codes "c") refl, (h.0, (tt, (h.1, tt))))
record_text (dropped name) h = (IsUtf8-are_ascii (codes "d") refl, (h, tt))
record_text (renamed old new) h = (IsUtf8-are_ascii (codes "r") refl, (h.0, (h.1, tt)))
record_text shut h = (IsUtf8-are_ascii (codes "x") refl, tt)

all_text : (rs : List Recorded) → AllByRecursion CanBeWritten rs → HaveText (all_data rs)
all_text [] h = tt
all_text (r ∷ rs) h = (record_text r h.0, all_text rs h.1)

-- ---- it nests no deeper than is read

new_depth : (new : Option Plain) → IsNewHeld new → items_depth (new_items new) ≤ 123
new_depth None h = omega arith
new_depth (Some d) h = let low = h.shallow in omega (arith, low)

changes_depth : (cs : List Change) → AllByRecursion IsChangeHeld cs → items_depth (changes_items cs) ≤ 124
changes_depth [] h = omega arith
changes_depth (c ∷ cs) h =
    let key = h.0.1.shallow in
    let new = new_depth c.1 h.0.2 in
    let rest = changes_depth cs h.1 in
    omega (arith, key, new, rest)

record_depth : (r : Recorded) → CanBeWritten r → depth (data_of r) ≤ 126
record_depth (wrote cs) h = let all = changes_depth cs h in omega (arith, all)
record_depth (created name multi text) h = omega arith
record_depth (dropped name) h = omega arith
record_depth (renamed old new) h = omega arith
record_depth shut h = omega arith

all_depth : (rs : List Recorded) → AllByRecursion CanBeWritten rs → items_depth (all_data rs) ≤ 126
all_depth [] h = omega arith
all_depth (r ∷ rs) h =
    let first = record_depth r h.0 in
    let rest = all_depth rs h.1 in
    omega (arith, first, rest)

-- ---- it reads as the records

shown_value : (d : Plain) → is_storable d ≡ true → value d ≡ Some (shown d)
shown_value d h = rw h refl

document_back : (d : Plain) → IsHeld d → document_in (shown d) ≡ Some d
document_back d h = ap result_ok (values_read_back d (shown d) (shown_value d h.storable) h.ranges)

new_back : (new : Option Plain) → IsNewHeld new → new_in (new_items new) ≡ Some new
new_back None h = refl
new_back (Some d) h = ap (option_map Some) (document_back d h)

change_back : (c : Change) → IsChangeHeld c → change_in (change_data c) ≡ Some c
change_back c h = rw (document_back c.0 h.1, new_back c.1 h.2) refl

changes_back : (cs : List Change) → AllByRecursion IsChangeHeld cs → changes_in (changes_items cs) ≡ Some cs
changes_back [] h = refl
changes_back (c ∷ cs) h = rw (change_back c h.0, changes_back cs h.1) refl

record_back : (r : Recorded) → CanBeWritten r → record_in (data_of r) ≡ Some r
record_back (wrote cs) h = ap (option_map wrote) (changes_back cs h)
record_back (created name multi text) h = refl
record_back (dropped name) h = refl
record_back (renamed old new) h = refl
record_back shut h = refl

all_back : (rs : List Recorded) → AllByRecursion CanBeWritten rs → all_in (all_data rs) ≡ Some rs
all_back [] h = refl
all_back (r ∷ rs) h = rw (record_back r h.0, all_back rs h.1) refl

pub reads_back : ReadsBack
reads_back rs h =
    let d = array (all_data rs) in
    let text : HasText d = all_text rs h in
    let deep = all_depth rs h in
    let low : depth d ≤ max_depth = omega (arith, deep) in
    ap body_records (body_text rs) ∙ (ap value_records (is_json (λ v. v) None (compact_text d) d (text_utf8 d text) (text_back d text low)) ∙ all_back rs h)
