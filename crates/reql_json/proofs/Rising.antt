-- Entries whose names rise, one after another.
use Rattle.std.proofs.Common.{◌≡◌, ℕ, List, [], ◌∷◌, ◌++◌, map, String, Global, string_bytes, Less, Greater, refl, ap, ◌∙◌}
use Rattle.std.specs.List.{AllByRecursion}
use Rattle.std.specs.List.Sorted.{IsStrictlySortedBy}
use Rattle.std.specs.Map.{keys_of}
use Rattle.std.specs.Ordering.{ordering_reverse}
use Rattle.std.specs.BTreeMap.{insert_entry}
use Rattle.std.specs.String.{string_cmp}
use Rattle.std.proofs.lemmas.Cmp.{nat_list_cmp_total}
use Rattle.serde_json.specs.declared.value.Value.{Value}
use Rattle.reql_datum.specs.Members.{text_order}

abbrev pub Entry : Type 0
Entry = String Global × Value

abbrev pub names : List Entry → List (List ℕ)
names es = map (λ e. string_bytes e.0) es

among : (P : List ℕ → Type 0) (done more : List (List ℕ)) (k : List ℕ) → AllByRecursion P (done ++ k ∷ more) → P k
among P [] more k all = all.0
among P (l ∷ ls) more k all = among P ls more k all.1

-- an entry whose name is above those before it goes last
pub put_last : {K V : Type 0} (name : K → List ℕ) (es : List (K × V)) (k : K) (v : V) (more : List (List ℕ)) → IsStrictlySortedBy text_order (map (λ e. name e.0) es ++ name k ∷ more)
    → insert_entry (λ a b. text_order (name a) (name b)) es k v ≡ es ++ (k, v) ∷ []
unfolding IsStrictlySortedBy
put_last name [] k v more up = refl
put_last name (e ∷ es) k v more up =
    let above : text_order (name k) (name e.0) ≡ Greater =
    nat_list_cmp_total.antisymm (name k) (name e.0) ∙ ap ordering_reverse (among (λ y. text_order (name e.0) y ≡ Less) (map (λ x. name x.0) es) more (name k) up.0) in
    rw above (ap (λ t. e ∷ t) (put_last name es k v more up.1))

all_named : (k : String Global) (es : List Entry) → AllByRecursion (λ y. string_cmp k y ≡ Less) (keys_of es) → AllByRecursion (λ y. text_order (string_bytes k) y ≡ Less) (names es)
all_named k [] all = tt
all_named k (e ∷ es) all = (all.0, all_named k es all.1)

pub rising_names : (es : List Entry) → IsStrictlySortedBy string_cmp (keys_of es) → IsStrictlySortedBy text_order (names es)
unfolding IsStrictlySortedBy
rising_names [] up = tt
rising_names (e ∷ es) up = (all_named e.0 es up.0, rising_names es up.1)

-- the names of what is done, and those still to come, after one more
pub names_step : {K V : Type 0} (name : K → List ℕ) (es : List (K × V)) (k : K) (v : V) (more : List (List ℕ)) → map (λ e. name e.0) (es ++ (k, v) ∷ []) ++ more ≡ map (λ e. name e.0) es ++ name k ∷ more
names_step name [] k v more = refl
names_step name (e ∷ es) k v more = ap (λ t. name e.0 ∷ t) (names_step name es k v more)
