-- What was read straight from tokens: the JSON that they are, and what it stands for.
use Rattle.std.specs.Prelude.{◌≡◌, ℕ, ◌-◌, ◌≤◌, ℤ, Bool, List, [], ◌∷◌, length, codes, Option, Some, None, Ok}
use Rattle.json.specs.Token.{Token}
use Rattle.json.specs.Json.{Json, value, items, members}
use Rattle.json.specs.Json as json
use Rattle.serde_json.specs.Data.{Num, unsigned, Data, boolean, number, string, array, Items, no_items, item, Members, no_members, member}
use Rattle.serde_json.specs.Find.{as_integer}
use Rattle.serde_json.specs.Read.{number_of, of_json, of_items, of_members, max_depth}
use Rattle.reql_term.specs.Form.{Form}
use Rattle.reql_term.specs.Table as table
use Rattle.reql_term.specs.declared.op.Op.TheVariants as op
use Rattle.reql_read.specs.Apart.{asked_kind, options_in}
use Rattle.reql_read.specs.Globals.{settings_of}
use Rattle.reql_read.specs.Query.{query}
use Rattle.reql_read.specs.Reading.{read, read_all, read_named}
use Rattle.reql_read.specs.Shape.{shaped, shaped_term, shaped_all, shaped_named, ids_from, ids_of}
use Rattle.reql_read.specs.View.{asked}
use Rattle.reql_read.specs.Written.{Written, Parts, NamedParts}
use Rattle.reql_read.specs.declared.globals.Settings.{Settings}
use Rattle.reql_read.specs.declared.query.Query.{Query}

-- ---- JSON: what the tokens ts begin with, and r the tokens after it

-- the items of an array and its end
abbrev pub ItemsAre : ℕ → List Token → json.Items → List Token → Type 0
ItemsAre depth ts js r = (n : ℕ) → length ts ≤ n → items (value depth) n ts ≡ Some (js, r)

-- the members of an object and its end
abbrev pub MembersAre : ℕ → List Token → json.Members → List Token → Type 0
MembersAre depth ts js r = (n : ℕ) → length ts ≤ n → members (value depth) n ts ≡ Some (js, r)

-- ---- numbers

-- the text of a whole number
abbrev pub IsWhole : List ℕ → ℤ → Type 0
IsWhole s z = record { n : Num; is : number_of s ≡ Some n; whole : as_integer n ≡ Some z }

-- a whole number from 0
abbrev pub ReadsNumber : List Token → ℕ → List Token → Type 0
ReadsNumber ts n r = record { s : List ℕ; first : ts ≡ Token.number s ∷ r; is : number_of s ≡ Some (unsigned n) }

-- ---- terms

-- a term
abbrev pub ReadsForm : ℕ → List Token → Form → List Token → Type 0
ReadsForm depth ts f r = record {
  j : Json;
  d : Data;
  w : Written;
  tokens : value depth ts ≡ Some (j, r);
  seen : of_json j ≡ Some d;
  shape : shaped d ≡ Ok w;
  meant : read w ≡ Ok f;
}

-- the rest of an array of terms
abbrev pub ReadsForms : ℕ → List Token → List Form → List Token → Type 0
ReadsForms depth ts fs r = record {
  js : json.Items;
  ds : Items;
  ws : Parts;
  tokens : ItemsAre depth ts js r;
  seen : of_items js ≡ Some ds;
  shape : shaped_all ds ≡ Ok ws;
  meant : read_all ws ≡ Ok fs;
}

-- the arguments of a term
abbrev pub ReadsArgs : ℕ → List Token → List Form → List Token → Type 0
ReadsArgs depth ts fs r = record {
  js : json.Items;
  ds : Items;
  ws : Parts;
  tokens : value depth ts ≡ Some (json.array js, r);
  seen : of_items js ≡ Some ds;
  shape : shaped_all ds ≡ Ok ws;
  meant : read_all ws ≡ Ok fs;
}

-- members of an object are these terms by name
abbrev pub AreNamed : Members → List (List ℕ × Form) → Type 0
AreNamed ds ms = record { ws : NamedParts; shape : shaped_named ds ≡ Ok ws; meant : read_named ws ≡ Ok ms }

-- the rest of an object, with what was read of it before and with all of it
abbrev pub ReadsNamed : ℕ → List Token → List (List ℕ × Form) → List (List ℕ × Form) → List Token → Type 0
ReadsNamed depth ts before all r = record {
  js : json.Members;
  tokens : MembersAre depth ts js r;
  meant : (ds : Members) → AreNamed ds before → (es : Members) × (of_members js ds ≡ Some es) × AreNamed es all;
}

-- the optional arguments of a term, which may be left out, and its end
abbrev pub ReadsOptions : ℕ → List Token → List (List ℕ × Form) → List Token → Type 0
ReadsOptions depth ts ms r = record {
  js : json.Items;
  ds : Items;
  opts : Members;
  tokens : ItemsAre depth ts js r;
  seen : of_items js ≡ Some ds;
  options : options_in ds ≡ Ok opts;
  meant : AreNamed opts ms;
}

-- what follows the number of a term
abbrev pub ReadsNumbered : ℕ → ℕ → List Token → Form → List Token → Type 0
ReadsNumbered depth n ts f r = record {
  js : json.Items;
  ds : Items;
  w : Written;
  tokens : ItemsAre depth ts js r;
  seen : of_items js ≡ Some ds;
  shape : shaped_term (item (number (unsigned n)) ds) ≡ Ok w;
  meant : read w ≡ Ok f;
}

-- the rest of a list of ids, with those before
abbrev pub ReadsIds : ℕ → List Token → List ℕ → List ℕ → List Token → Type 0
ReadsIds depth ts before ids r = record {
  js : json.Items;
  ds : Items;
  ws : Parts;
  tokens : ItemsAre depth ts js r;
  seen : of_items js ≡ Some ds;
  shape : shaped_all ds ≡ Ok ws;
  meant : ids_from before ws ≡ Ok ids;
}

-- the parameters of a function
abbrev pub ReadsParams : ℕ → List Token → List ℕ → List Token → Type 0
ReadsParams depth ts ids r = record {
  j : Json;
  d : Data;
  w : Written;
  tokens : value depth ts ≡ Some (j, r);
  seen : of_json j ≡ Some d;
  shape : shaped d ≡ Ok w;
  meant : ids_of w ≡ Ok (ids, []);
}

-- ---- the whole query

-- a database term, as it is an option
abbrev pub database : List ℕ → Data
database name = array (item (number (unsigned (table.number_of op.Db))) (item (array (item (string name) no_items)) no_items))

abbrev pub ReadsData : ℕ → List Token → Data → List Token → Type 0
ReadsData depth ts d r = record { j : Json; tokens : value depth ts ≡ Some (j, r); seen : of_json j ≡ Some d }

-- the options of a query, where it has no others
abbrev pub quiet_option : Option Bool → Members
quiet_option None = no_members
quiet_option (Some b) = member (codes "noreply") (boolean b) no_members

abbrev pub two_options : Option (List ℕ) → Option Bool → Members
two_options None noreply = quiet_option noreply
two_options (Some name) noreply = member (codes "db") (database name) (quiet_option noreply)

-- the rest of the options, with those before and with all
abbrev pub ReadsMembers : ℕ → List Token → Members → Members → List Token → Type 0
ReadsMembers depth ts before all r = record { js : json.Members; tokens : MembersAre depth ts js r; seen : of_members js before ≡ Some all }

-- the options of a query, which may be left out, and its end
abbrev pub ReadsSettings : ℕ → List Token → Settings → List Token → Type 0
ReadsSettings depth ts s r = record {
  js : json.Items;
  ds : Items;
  opts : Members;
  tokens : ItemsAre depth ts js r;
  seen : of_items js ≡ Some ds;
  options : options_in ds ≡ Ok opts;
  meant : settings_of opts ≡ Ok s;
}

-- what follows the number of a query of a kind
abbrev pub ReadsParts : ℕ → List Token → Query → List Token → Type 0
ReadsParts kind ts q r = record { js : json.Items; ds : Items; tokens : ItemsAre (max_depth - 1) ts js r; seen : of_items js ≡ Some ds; meant : asked_kind kind ds ≡ Ok (asked q) }

abbrev pub ReadsQuery : List Token → Query → List Token → Type 0
ReadsQuery ts q r = record { j : Json; d : Data; tokens : value max_depth ts ≡ Some (j, r); seen : of_json j ≡ Some d; meant : query d ≡ Ok (asked q) }
