-- What the sessions of the load send, byte for byte: a greeting without a key, and then requests as frames.
use Rattle.std.specs.Prelude.{ℕ, suc, zero, ◌+◌, ◌/◌, ◌%◌, ◌==◌, List, [], ◌∷◌, ◌++◌, length, take, drop, filter, flat_map, cond, codes, decimal}
use Rattle.std.specs.List.{join_by, range_with_len}
use Rattle.reql_wire.specs.Frames.{spellings}
use Rattle.reql_wire.specs.Greeting.{greeting_by}
use Rattle.reql_wire.specs.declared.frame.Frame.{Frame}

-- a request's body, under a token that is said or under the next of those that rise
pub data Request : Type 0 where
  under : ℕ → List ℕ → Request
  next : List ℕ → Request

abbrev pub frame : ℕ → List ℕ → Frame
frame token body = record { token = token; body = body }

-- requests as frames, where this is the next of the tokens that rise
abbrev pub framed : ℕ → List Request → List Frame
framed token [] = []
framed token (under n body ∷ rs) = frame n body ∷ framed token rs
framed token (next body ∷ rs) = frame token body ∷ framed (suc token) rs

-- the document i
unfoldable pub document : ℕ → ℕ → List ℕ
document seed i = codes "{\"id\":" ++ (decimal i ++ (codes ",\"n\":" ++ (decimal ((i + seed) % 1009) ++ codes "}")))

-- the bodies (ql2.proto: START is 1, CONTINUE 2, STOP 3; INDEX_CREATE 75, TABLE 15, CHANGES 152, BETWEEN 182, LIMIT 71, ORDER_BY 41,
-- INSERT 56, MAKE_ARRAY 2, UPDATE 53, GET 16, FUNC 69, ADD 24, BRACKET 170, VAR 10, DELETE 54)
unfoldable pub index_body : List ℕ
index_body = codes "[1,[75,[[15,[\"load\"]],\"n\"]]]"

unfoldable pub range_body : List ℕ
range_body = codes "[1,[152,[[182,[[15,[\"load\"]],0,25],{\"index\":\"n\"}]],{\"include_initial\":true}]]"

unfoldable pub limit_body : List ℕ
limit_body = codes "[1,[152,[[71,[[41,[[15,[\"load\"]]],{\"index\":\"n\"}],10]]],{\"include_initial\":true,\"include_offsets\":true}]]"

-- a document behind another
abbrev pub after_another : ℕ → ℕ → List ℕ
after_another seed i = codes "," ++ document seed i

unfoldable pub insert_body : ℕ → List ℕ → List ℕ
insert_body seed docs = codes "[1,[56,[[15,[\"load\"]],[2,[" ++ (join_by (document seed) (codes ",") docs ++ codes "]]]]]")

unfoldable pub update_body : ℕ → List ℕ
update_body i = codes "[1,[53,[[16,[[15,[\"load\"]]," ++ (decimal i ++ codes "]],[69,[[2,[1]],{\"n\":[24,[[170,[[10,[1]],\"n\"]],1]]}]]]]]")

unfoldable pub delete_body : ℕ → List ℕ
delete_body i = codes "[1,[54,[[16,[[15,[\"load\"]]," ++ (decimal i ++ codes "]]]]]")

unfoldable pub continue_body : List ℕ
continue_body = codes "[2]"

unfoldable pub stop_body : List ℕ
stop_body = codes "[3]"

-- session k of the four owns the documents i below the size with i mod 4 = k
abbrev pub owned : ℕ → ℕ → List ℕ
owned size session = filter (λ i. i % 4 == session) (range_with_len 0 size)

-- of the document i, where j = i div 4: where j mod 4 is 0 it is updated, where it is 1 deleted
abbrev pub edits : ℕ → List Request
edits i = cond (i / 4 % 4 == 0) (next (update_body i) ∷ []) (cond (i / 4 % 4 == 1) (next (delete_body i) ∷ []) [])

-- a round: two feeds begin, documents are inserted and edited, and the feeds go on and stop
abbrev pub ending : List Request
ending = under 1 continue_body ∷ under 2 continue_body ∷ under 1 stop_body ∷ under 2 stop_body ∷ []

abbrev pub round : ℕ → List ℕ → List Request
round seed docs = under 1 range_body ∷ under 2 limit_body ∷ next (insert_body seed docs) ∷ (flat_map edits docs ++ ending)

-- a list in parts of n, of which the last may be shorter
abbrev pub parts_within : ℕ → ℕ → List ℕ → List (List ℕ)
parts_within zero n xs = []
parts_within (suc more) n [] = []
parts_within (suc more) n (x ∷ xs) = take n (x ∷ xs) ∷ parts_within more n (drop n (x ∷ xs))

abbrev pub parts : ℕ → List ℕ → List (List ℕ)
parts n xs = parts_within (length xs) n xs

-- a round has up to 100 documents
unfoldable pub per_round : ℕ
per_round = 100

-- all rounds of a session, and the requests of sessions 0 to 3, or of the first one, which makes the index
abbrev pub rounds : ℕ → List ℕ → List Request
rounds seed docs = flat_map (round seed) (parts per_round docs)

abbrev pub requests : ℕ → ℕ → ℕ → List Request
requests seed size session = cond (session == 4) (under 1 index_body ∷ []) (rounds seed (owned size session))

-- what a session sends
abbrev pub script_of : ℕ → ℕ → ℕ → List ℕ
script_of seed size session = greeting_by [] ++ spellings (framed 3 (requests seed size session))
