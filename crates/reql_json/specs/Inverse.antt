-- Which documents and values stand for each other.
use Rattle.std.specs.Prelude.{◌≡◌, ℕ, List, codes, Bool, true, ◌&&◌, is_some, if◌then◌else◌, Some, unwrap_or, option_map, Ok}
use Rattle.std.specs.Ordering.{is_eq}
use Rattle.serde_json.specs.Data as json
use Rattle.serde_json.specs.Find.{of_integer, get_member}
use Rattle.reql_datum.specs.Kinds.{reserved, is_storable}
use Rattle.reql_datum.specs.Members.{text_order}
use Rattle.reql_datum.specs.Plain.{Plain, low, array, boolean, null, number, object, binary, time, text, high, Plains, no_items, item, Pairs, no_pairs, pair}
use Rattle.reql_datum.specs.Whole.{is_in}
use Rattle.reql_datum.specs.Zone.{is_zone, zone_text}
use Rattle.reql_json.specs.Literal.{are_bytes, without_line_ends, zone_in}
use Rattle.reql_json.specs.Reading.{document}
use Rattle.reql_json.specs.Showing.{value}

-- each number, byte and zone in it is in its range, as in every document
abbrev mutual
  pub in_range : Plain → Bool
  in_range low = true
  in_range (array vs) = all_in_range vs
  in_range (boolean b) = true
  in_range null = true
  in_range (number z) = is_in z
  in_range (object ms) = pairs_in_range ms
  in_range (binary s) = are_bytes s
  in_range (time t) = is_in t.0 && is_zone t.1
  in_range (text s) = true
  in_range high = true

  pub all_in_range : Plains → Bool
  all_in_range no_items = true
  all_in_range (item v vs) = in_range v && all_in_range vs

  pub pairs_in_range : Pairs → Bool
  pairs_in_range no_pairs = true
  pairs_in_range (pair k v ms) = in_range v && pairs_in_range ms

-- A whole number that isn't below 0 is held without a sign, as `serde_json` holds each that it reads.
abbrev pub signed : json.Num → json.Num
signed (json.unsigned n) = json.unsigned n
signed (json.negative z) = of_integer z
signed (json.float x) = json.float x

-- a zone as it is written: Z and -00:00 are +00:00
abbrev pub zone_spelled : List ℕ → List ℕ
zone_spelled s = unwrap_or (option_map zone_text (zone_in s)) s

-- the text at a name of a binary or a time: data has no line end
abbrev pub text_spelled : List ℕ → List ℕ → List ℕ
text_spelled k s = if is_eq (text_order (codes "data") k) then without_line_ends s else (if is_eq (text_order (codes "timezone") k) then zone_spelled s else s)

abbrev pub part : List ℕ → json.Data → json.Data
part k json.null = json.null
part k (json.boolean b) = json.boolean b
part k (json.number n) = json.number (signed n)
part k (json.string s) = json.string (text_spelled k s)
part k (json.array ds) = json.array ds
part k (json.object ms) = json.object ms

abbrev pub parts : json.Members → json.Members
parts json.no_members = json.no_members
parts (json.member k d ms) = json.member k (part k d) (parts ms)

-- A value in the one spelling that is shown: of several that are read as the same number, binary or time, the canonical one.
abbrev mutual
  pub normal : json.Data → json.Data
  normal json.null = json.null
  normal (json.boolean b) = json.boolean b
  normal (json.number n) = json.number (signed n)
  normal (json.string s) = json.string s
  normal (json.array ds) = json.array (normal_items ds)
  normal (json.object ms) = json.object (if is_some (get_member reserved ms) then parts ms else normal_members ms)

  pub normal_items : json.Items → json.Items
  normal_items json.no_items = json.no_items
  normal_items (json.item d ds) = json.item (normal d) (normal_items ds)

  pub normal_members : json.Members → json.Members
  normal_members json.no_members = json.no_members
  normal_members (json.member k d ms) = json.member k (normal d) (normal_members ms)

-- a document has a value exactly where it may be stored
abbrev pub ShowsStorable : Type 0
ShowsStorable = (p : Plain) → is_some (value p) ≡ is_storable p

-- what a document is shown as reads as that document
abbrev pub ReadsBack : Type 0
ReadsBack = (p : Plain) (d : json.Data) → value p ≡ Some d → in_range p ≡ true → document d ≡ Ok p

-- the document of a value is shown as that value
abbrev pub ShowsBack : Type 0
ShowsBack = (d : json.Data) (p : Plain) → document d ≡ Ok p → value p ≡ Some (normal d)

-- a document that was read can be read back
abbrev pub KeepsReading : Type 0
KeepsReading = (d : json.Data) (p : Plain) → document d ≡ Ok p → (in_range p ≡ true) × (is_storable p ≡ true)
