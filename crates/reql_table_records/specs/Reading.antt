-- Records as they are read.
use Rattle.std.specs.Prelude.{ℕ, List, [], ◌∷◌, codes, Bool, if◌then◌else◌, cond, Option, Some, None, option_map, option_and_then}
use Rattle.std.specs.Result.{result_ok}
use Rattle.std.specs.Str.{is_utf8}
use Rattle.serde_json.specs.Data.{Data, Items, no_items, item}
use Rattle.serde_json.specs.Find.{as_str, as_bool, as_array}
use Rattle.serde_json.specs.Read as json
use Rattle.reql_datum.specs.Plain.{Plain}
use Rattle.reql_json.specs.Reading.{document}
use Rattle.reql_rules.specs.Lists.{Bytes}
use Rattle.reql_rules.specs.Types.{same_text}
use Rattle.reql_table_records.specs.Records.{Change, Recorded, wrote, created, dropped, renamed, shut}

abbrev pub document_in : Data → Option Plain
document_in d = result_ok (document d)

-- what a change leaves at its key: nothing, where nothing more is written
abbrev pub new_in : Items → Option (Option Plain)
new_in no_items = Some None
new_in (item d no_items) = option_map Some (document_in d)
new_in (item d (item e ds)) = None

abbrev pub change_parts : Items → Option Change
change_parts no_items = None
change_parts (item k ds) = option_and_then (λ key. option_map (λ new. (key, new)) (new_in ds)) (document_in k)

abbrev pub change_in : Data → Option Change
change_in d = option_and_then change_parts (as_array d)

abbrev pub changes_in : Items → Option (List Change)
changes_in no_items = Some []
changes_in (item d ds) = option_and_then (λ c. option_map (λ cs. c ∷ cs) (changes_in ds)) (change_in d)

-- ---- what follows the letter of each kind

-- one value, two of them, or three
abbrev pub only : Items → Option Data
only no_items = None
only (item d no_items) = Some d
only (item d (item e ds)) = None

abbrev pub two : Items → Option (Data × Data)
two no_items = None
two (item d ds) = option_map (λ e. (d, e)) (only ds)

abbrev pub three : Items → Option (Data × (Data × Data))
three no_items = None
three (item d ds) = option_map (λ p. (d, p)) (two ds)

abbrev pub wrote_of : Data → Option Recorded
wrote_of d = option_map wrote (option_and_then changes_in (as_array d))

abbrev pub wrote_in : Items → Option Recorded
wrote_in ds = option_and_then wrote_of (only ds)

abbrev pub created_of : Option Bytes → Option Bool → Option Bytes → Option Recorded
created_of (Some name) (Some multi) (Some text) = Some (created name multi text)
created_of name multi text = None

abbrev pub created_parts : Data × (Data × Data) → Option Recorded
created_parts p = created_of (as_str p.0) (as_bool p.1.0) (as_str p.1.1)

abbrev pub created_in : Items → Option Recorded
created_in ds = option_and_then created_parts (three ds)

abbrev pub dropped_in : Items → Option Recorded
dropped_in ds = option_map dropped (option_and_then as_str (only ds))

abbrev pub renamed_of : Option Bytes → Option Bytes → Option Recorded
renamed_of (Some old) (Some new) = Some (renamed old new)
renamed_of old new = None

abbrev pub renamed_parts : Data × Data → Option Recorded
renamed_parts p = renamed_of (as_str p.0) (as_str p.1)

abbrev pub renamed_in : Items → Option Recorded
renamed_in ds = option_and_then renamed_parts (two ds)

abbrev pub shut_in : Items → Option Recorded
shut_in no_items = Some shut
shut_in (item d ds) = None

abbrev pub tagged_in : Bytes → Items → Option Recorded
tagged_in letter ds =
    if same_text letter (codes "w") then wrote_in ds
    else if same_text letter (codes "c") then created_in ds
    else if same_text letter (codes "d") then dropped_in ds
    else if same_text letter (codes "r") then renamed_in ds
    else if same_text letter (codes "x") then shut_in ds
    else None

abbrev pub record_parts : Items → Option Recorded
record_parts no_items = None
record_parts (item d ds) = option_and_then (λ letter. tagged_in letter ds) (as_str d)

abbrev pub record_in : Data → Option Recorded
record_in d = option_and_then record_parts (as_array d)

abbrev pub all_in : Items → Option (List Recorded)
all_in no_items = Some []
all_in (item d ds) = option_and_then (λ r. option_map (λ rs. r ∷ rs) (all_in ds)) (record_in d)

-- ---- the body of a block: the JSON array of its records

abbrev pub value_records : Option Data → Option (List Recorded)
value_records v = option_and_then all_in (option_and_then as_array v)

-- the JSON value of a body in UTF-8, if it is one
abbrev pub body_value : List ℕ → Option Data
body_value body = cond (is_utf8 body) (json.read body) None

abbrev pub body_records : List ℕ → Option (List Recorded)
body_records body = value_records (body_value body)
