-- The requests of `dump` and `restore`: START (ql2.proto, QueryType) of terms.
use Rattle.std.specs.Prelude.{ℕ, ◌==◌, List, [], ◌∷◌, ◌++◌, Bool, true, codes, if◌then◌else◌}
use Rattle.serde_json.specs.Written.{comma_if}
use Rattle.reql_query.specs.declared.requests.Place.{Place}
use Rattle.reql_query.specs.declared.requests.Place.TheVariants as place

-- DB by its name, and TABLE of it by its own
unfoldable pub database_term : List ℕ → List ℕ
database_term database = codes "[14,[\"" ++ (database ++ codes "\"]]")

unfoldable pub name_and_end : List ℕ → List ℕ
name_and_end name = codes ",\"" ++ (name ++ codes "\"]]")

unfoldable pub table_term : List ℕ → List ℕ → List ℕ
table_term database name = codes "[15,[" ++ (database_term database ++ name_and_end name)

-- all documents of a table
unfoldable pub dump_body : List ℕ → List ℕ → List ℕ
dump_body database name = codes "[1," ++ (table_term database name ++ codes "]")

-- ---- the text of a JSON value as that of its term: an array becomes MAKE_ARRAY of its items, and all else stays

-- a quotation mark begins and ends a string, but behind a backslash
abbrev pub outside_next : ℕ → Place
outside_next b = if b == 34 then place.Inside else place.Outside

abbrev pub inside_next : ℕ → Place
inside_next b = if b == 92 then place.Escaped else if b == 34 then place.Outside else place.Inside

unfoldable pub next : Place → ℕ → Place
next place.Outside b = outside_next b
next place.Inside b = inside_next b
next place.Escaped b = place.Inside

abbrev pub outside_piece : ℕ → List ℕ
outside_piece b = if b == 91 then codes "[2,[" else if b == 93 then codes "]]" else b ∷ []

unfoldable pub piece : Place → ℕ → List ℕ
piece place.Outside b = outside_piece b
piece place.Inside b = b ∷ []
piece place.Escaped b = b ∷ []

abbrev pub termed : Place → List ℕ → List ℕ
termed p [] = []
termed p (b ∷ bs) = piece p b ++ termed (next p b) bs

-- ---- an insertion of documents, whose texts these are, where one with the key of another is refused

abbrev pub listed : Bool → List (List ℕ) → List ℕ
listed later [] = []
listed later (d ∷ ds) = (comma_if later ++ termed place.Outside d) ++ listed true ds

unfoldable pub insert_front : List ℕ → List ℕ → List ℕ
insert_front database name = codes "[1,[56,[" ++ (table_term database name ++ codes ",[2,[")

abbrev pub insert_back : List ℕ
insert_back = codes "]]],{\"conflict\":\"error\"}]]"
