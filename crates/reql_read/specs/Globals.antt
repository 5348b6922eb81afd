-- The options of a whole query (the ReQL API reference, 'run').
use Rattle.std.specs.Prelude.{ℕ, List, [], ◌∷◌, codes, Bool, true, false, ◌&&◌, nat_eq, nat_le, min, if◌then◌else◌, Option, Some, None, option_and_then, Result, Ok, Err}
use Rattle.std.specs.Ordering.{is_eq}
use Rattle.serde_json.specs.Data.{Data, Items, no_items, item, Members, no_members, member}
use Rattle.serde_json.specs.Find.{as_number, as_u64, as_bool, as_str, as_array, as_object}
use Rattle.reql_datum.specs.Answer.{◌>>=◌}
use Rattle.reql_datum.specs.Members.{text_order}
use Rattle.reql_term.specs.Table.{is_among, number_of}
use Rattle.reql_term.specs.declared.op.Op.TheVariants as op
use Rattle.reql_read.specs.declared.fault.ReadFault.{ReadFault}
use Rattle.reql_read.specs.declared.fault.ReadFault.TheVariants.{BadOptarg}
use Rattle.reql_read.specs.declared.globals.Settings.{Settings}
use Rattle.reql_read.specs.declared.globals.Choice.{Choice}
use Rattle.reql_read.specs.declared.globals.Choice.TheVariants as choice

unfoldable pub is_named : List ℕ → List ℕ → Bool
is_named k name = is_eq (text_order k name)

abbrev pub usual : Settings
usual = record { db = codes "test"; array_limit = 100000; batch = 1000; noreply = false }

-- what is accepted without effect
abbrev pub accepted : List (List ℕ)
accepted =
    codes "durability" ∷ codes "read_mode" ∷ codes "min_batch_rows" ∷ codes "max_batch_bytes" ∷ codes "max_batch_seconds" ∷
    codes "first_batch_scaledown_factor" ∷ codes "identifier_format" ∷ codes "time_format" ∷ codes "group_format" ∷ codes "binary_format" ∷ []

-- the value of an option, or that it is a bad one
abbrev pub or_bad : {A : Type 0} → List ℕ → Option A → Result A ReadFault
or_bad k None = Err (BadOptarg k)
or_bad k (Some x) = Ok x

abbrev pub as_whole : Data → Option ℕ
as_whole d = option_and_then as_u64 (as_number d)

-- a database, written [14, [name]] or [14, [name], {}]
abbrev pub only : {A : Type 0} → Items → Option A → Option A
only no_items x = x
only (item d ds) x = None

abbrev pub only_text : Items → Option (List ℕ)
only_text no_items = None
only_text (item d ds) = only ds (as_str d)

abbrev pub are_none : Option Members → Bool
are_none None = false
are_none (Some no_members) = true
are_none (Some (member k d ms)) = false

abbrev pub are_no_options : Items → Bool
are_no_options no_items = true
are_no_options (item d no_items) = are_none (as_object d)
are_no_options (item d (item e ds)) = false

abbrev pub db_args : Items → Option (List ℕ)
db_args no_items = None
db_args (item args ds) = if are_no_options ds then option_and_then only_text (as_array args) else None

abbrev pub is_number : ℕ → Option ℕ → Bool
is_number n None = false
is_number n (Some k) = nat_eq k n

abbrev pub db_term : Items → Option (List ℕ)
db_term no_items = None
db_term (item n ds) = if is_number (number_of op.Db) (as_whole n) then db_args ds else None

abbrev pub db_in : Data → Option (List ℕ)
db_in d = option_and_then db_term (as_array d)

-- a number from 1 up to a limit
abbrev pub limit_of : Option ℕ → Option ℕ
limit_of None = None
limit_of (Some n) = if nat_le 1 n && nat_le n 100000000 then Some n else None

abbrev pub batch_of : Option ℕ → Option ℕ
batch_of None = None
batch_of (Some n) = if nat_le 1 n then Some (min n 1000) else None

-- a profile is not made
abbrev pub profile_of : Option Bool → Option (Unit {0})
profile_of None = None
profile_of (Some wanted) = if wanted then None else Some tt

unfoldable pub is_accepted : List ℕ → Bool
is_accepted k = is_among accepted k

unfoldable pub choice_of : List ℕ → Choice
choice_of k =
    if is_named k (codes "db") then choice.Db else (
    if is_named k (codes "noreply") then choice.Noreply else (
    if is_named k (codes "array_limit") then choice.ArrayLimit else (
    if is_named k (codes "max_batch_rows") then choice.Batch else (
    if is_named k (codes "profile") then choice.Profile else (
    if is_accepted k then choice.Accepted else choice.Unknown)))))

abbrev pub with_choice : Settings → Choice → List ℕ → Data → Result Settings ReadFault
with_choice s choice.Db k d = or_bad k (db_in d) >>= λ x. Ok (record s { db = x })
with_choice s choice.Noreply k d = or_bad k (as_bool d) >>= λ x. Ok (record s { noreply = x })
with_choice s choice.ArrayLimit k d = or_bad k (limit_of (as_whole d)) >>= λ x. Ok (record s { array_limit = x })
with_choice s choice.Batch k d = or_bad k (batch_of (as_whole d)) >>= λ x. Ok (record s { batch = x })
with_choice s choice.Profile k d = or_bad k (profile_of (as_bool d)) >>= λ x. Ok s
with_choice s choice.Accepted k d = Ok s
with_choice s choice.Unknown k d = Err (BadOptarg k)

abbrev pub with_option : Settings → List ℕ → Data → Result Settings ReadFault
with_option s k d = with_choice s (choice_of k) k d

abbrev pub settings_from : Settings → Members → Result Settings ReadFault
settings_from s no_members = Ok s
settings_from s (member k d ms) = with_option s k d >>= λ t. settings_from t ms

unfoldable pub settings_of : Members → Result Settings ReadFault
settings_of ms = settings_from usual ms
