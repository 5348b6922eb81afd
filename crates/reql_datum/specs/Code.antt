-- A plain value as a tree of numbers, and back: by it a proof tells plain values apart.
use Rattle.std.specs.Prelude.{◌≡◌, refl, ℕ, zero, suc, ℤ, pos, negsuc, List, [], ◌∷◌, Bool, true, false}
use Rattle.std.proofs.Common.{ap}
use Rattle.std.specs.Coded.{Coded, code_by, coded_list, coded×, coded_ℕ}
use base.Stored.{Gv, gnil, gnum, gcons}
use denote.Struct.Codes.{itself}
use Rattle.reql_datum.specs.Plain.{Plain, low, array, boolean, null, number, object, binary, time, text, high, Plains, no_items, item, Pairs, no_pairs, pair}

abbrev bytes_to : List ℕ → Gv
bytes_to [] = gnil
bytes_to (x ∷ xs) = gcons (gnum x) (bytes_to xs)

abbrev num_from : Gv → ℕ
num_from gnil = 0
num_from (gnum n) = n
num_from (gcons a b) = 0

abbrev bytes_from : Gv → List ℕ
bytes_from gnil = []
bytes_from (gnum n) = []
bytes_from (gcons a b) = num_from a ∷ bytes_from b

pub bytes_back : (s : List ℕ) → bytes_from (bytes_to s) ≡ s
bytes_back [] = refl
bytes_back (x ∷ xs) = ap (λ t. x ∷ t) (bytes_back xs)

abbrev leaf : ℕ → Plain
leaf zero = low
leaf (suc zero) = null
leaf (suc (suc zero)) = high
leaf (suc (suc (suc zero))) = boolean false
leaf (suc (suc (suc (suc n)))) = boolean true

abbrev inner : ℕ → Plains → Pairs → List ℕ → ℕ → ℤ × ℤ → Plain
inner zero vs ms s n t = array vs
inner (suc zero) vs ms s n t = object ms
inner (suc (suc zero)) vs ms s n t = text s
inner (suc (suc (suc zero))) vs ms s n t = number (pos n)
inner (suc (suc (suc (suc zero)))) vs ms s n t = number (negsuc n)
inner (suc (suc (suc (suc (suc zero))))) vs ms s n t = binary s
inner (suc (suc (suc (suc (suc (suc k)))))) vs ms s n t = time t

abbrev bool_to : Bool → Gv
bool_to false = gnum 3
bool_to true = gnum 4

abbrev int_to : ℤ → Gv
int_to (pos n) = gcons (gnum 3) (gnum n)
int_to (negsuc n) = gcons (gnum 4) (gnum n)

abbrev signed : ℕ → ℕ → ℤ
signed zero n = pos n
signed (suc zero) n = pos n
signed (suc (suc zero)) n = pos n
signed (suc (suc (suc zero))) n = pos n
signed (suc (suc (suc (suc k)))) n = negsuc n

abbrev int_from : Gv → ℤ
int_from gnil = pos 0
int_from (gnum n) = pos 0
int_from (gcons a b) = signed (num_from a) (num_from b)

int_back : (n : ℤ) → int_from (int_to n) ≡ n
int_back (pos n) = refl
int_back (negsuc n) = refl

abbrev moment_from : Gv → ℤ × ℤ
moment_from gnil = (pos 0, pos 0)
moment_from (gnum n) = (pos 0, pos 0)
moment_from (gcons a b) = (int_from a, int_from b)

abbrev mutual
  pub plain_to : Plain → Gv
  plain_to low = gnum 0
  plain_to null = gnum 1
  plain_to high = gnum 2
  plain_to (boolean b) = bool_to b
  plain_to (array vs) = gcons (gnum 0) (items_to vs)
  plain_to (object ms) = gcons (gnum 1) (pairs_to ms)
  plain_to (text s) = gcons (gnum 2) (bytes_to s)
  plain_to (number n) = int_to n
  plain_to (binary s) = gcons (gnum 5) (bytes_to s)
  plain_to (time t) = gcons (gnum 6) (gcons (int_to t.0) (int_to t.1))

  items_to : Plains → Gv
  items_to no_items = gnil
  items_to (item v vs) = gcons (plain_to v) (items_to vs)

  pairs_to : Pairs → Gv
  pairs_to no_pairs = gnil
  pairs_to (pair k v ms) = gcons (gcons (bytes_to k) (plain_to v)) (pairs_to ms)

abbrev mutual
  pub plain_from : Gv → Plain
  plain_from gnil = low
  plain_from (gnum n) = leaf n
  plain_from (gcons a b) = inner (num_from a) (items_from b) (pairs_from b) (bytes_from b) (num_from b) (moment_from b)

  items_from : Gv → Plains
  items_from gnil = no_items
  items_from (gnum n) = no_items
  items_from (gcons a b) = item (plain_from a) (items_from b)

  pairs_from : Gv → Pairs
  pairs_from gnil = no_pairs
  pairs_from (gnum n) = no_pairs
  pairs_from (gcons a b) = pair_from a (pairs_from b)

  pair_from : Gv → Pairs → Pairs
  pair_from gnil ms = ms
  pair_from (gnum n) ms = ms
  pair_from (gcons k v) ms = pair (bytes_from k) (plain_from v) ms

mutual
  pub plain_back : (v : Plain) → plain_from (plain_to v) ≡ v
  plain_back low = refl
  plain_back null = refl
  plain_back high = refl
  plain_back (boolean false) = refl
  plain_back (boolean true) = refl
  plain_back (array vs) = ap array (items_back vs)
  plain_back (object ms) = ap object (pairs_back ms)
  plain_back (text s) = ap text (bytes_back s)
  plain_back (number (pos n)) = refl
  plain_back (number (negsuc n)) = refl
  plain_back (binary s) = ap binary (bytes_back s)
  plain_back (time t) = λ i. time (int_back t.0 i, int_back t.1 i)

  pub items_back : (vs : Plains) → items_from (items_to vs) ≡ vs
  items_back no_items = refl
  items_back (item v vs) = λ i. item (plain_back v i) (items_back vs i)

  pub pairs_back : (ms : Pairs) → pairs_from (pairs_to ms) ≡ ms
  pairs_back no_pairs = refl
  pairs_back (pair k v ms) = λ i. pair (bytes_back k i) (plain_back v i) (pairs_back ms i)

abbrev pub plain_code : Coded Plain
plain_code = code_by Gv itself plain_to plain_from plain_back

abbrev pub list_code : Coded (List Plain)
list_code = coded_list plain_code

abbrev pub pairs_code : Coded (List (List ℕ × Plain))
pairs_code = coded_list (coded× (coded_list coded_ℕ) plain_code)
