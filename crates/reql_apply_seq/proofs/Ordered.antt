-- Directions of keys; and ORDER_BY by an index and keys, as an order of rows whose first key is the index value.
use Rattle.std.proofs.Common.{◌≡◌, ◌≤◌, refl, sym, ap, ◌∙◌, arith, rules, ℕ, ◌+◌, Bool, List, [], ◌∷◌, length, map, Option, Some, Ok, Err}
use Rattle.reql_datum.specs.Answer.{Answer, ◌>>=◌}
use Rattle.reql_datum.specs.Plain.{Plain}
use Rattle.reql_term.specs.Views.{Entry}
use Rattle.reql_rules.specs.Lists.{each}
use Rattle.reql_rules.specs.Sorting.{Keyed, keys_from, with_keys, keyed_order, elements, sorted}
use Rattle.reql_rules.proofs.Stable.{map_sorted}
use Rattle.reql_value_spec.specs.Meant.{selection, some_rows, Given, Calls}
use Rattle.reql_value_spec.specs.Orders.{is_down, key_at, entry_keyed, order_by_index}
use Rattle.reql_value_spec.specs.World.{World}
use Rattle.reql_operand.specs.Seen.{shown, all_shown}
use Rattle.reql_operand.specs.declared.value.Arg.{Arg}
use Rattle.reql_operand.specs.declared.value.Arg.TheVariants as a
use Rattle.reql_apply_seq.specs.Orders.{is_falling, row_of, row_key, document_of, rows_ordered, rows_selected, further_selected}

falling_shown : (w : World) (g : Arg) → is_down (shown w g) ≡ is_falling g
falling_shown w (a.Value v) = refl
falling_shown w (a.Function f) = refl
falling_shown w (a.Directed down k) = refl
falling_shown w (a.Late texted o) = refl

pub all_falling : (w : World) (gs : List Arg) → map is_down (all_shown w gs) ≡ map is_falling gs
all_falling w [] = refl
all_falling w (g ∷ gs) = rw (falling_shown w g, all_falling w gs) refl

selected_on : (n : ℕ) (f : List Keyed → List Plain) (r : Answer (List Keyed))
    → (r >>= λ rs. Ok (selection n some_rows (f rs))) ≡ ((r >>= λ rs. Ok (f rs)) >>= λ ds. Ok (selection n some_rows ds))
selected_on n f (Ok rs) = refl
selected_on n f (Err e) = refl

-- a row's keys after the first are those of its document
further : (calls : Calls) (ks : List Given) (i : ℕ) (e : Entry) → row_key calls ks (i + 1) (row_of e) ≡ key_at calls ks i e.1.1
further calls ks i e = search rules

shifted : (calls : Calls) (ks : List Given) (i : ℕ) (ds : List Bool) (e : Entry) → keys_from (row_key calls ks) (i + 1) ds (row_of e) ≡ keys_from (key_at calls ks) i ds e.1.1
shifted calls ks i [] e = refl
shifted calls ks i (d ∷ ds) e = rw (further calls ks i e, shifted calls ks (i + 1) ds e) refl

row_keys : (calls : Calls) (ks : List Given) (down : Bool) (ds : List Bool) (e : Entry)
    → keys_from (row_key calls ks) 0 (down ∷ ds) (row_of e) ≡ (keys_from (key_at calls ks) 0 ds e.1.1 >>= λ js. Ok (Some e.0 ∷ js))
row_keys calls ks down ds e = rw (shifted calls ks 0 ds e) refl

-- a row with its keys, as its document with them
abbrev kept : Keyed → Keyed
kept r = (r.0, document_of r.1)

kept_step : (v row : Plain) (k : Answer (List (Option Plain))) (rest : Answer (List Keyed)) (all : Answer (List Keyed)) → (rest >>= λ rs. Ok (map kept rs)) ≡ all
    → ((((k >>= λ js. Ok (Some v ∷ js)) >>= λ js. Ok (js, row)) >>= λ y. rest >>= λ ys. Ok (y ∷ ys)) >>= λ rs. Ok (map kept rs))
    ≡ ((k >>= λ js. Ok (Some v ∷ js, document_of row)) >>= λ y. all >>= λ ys. Ok (y ∷ ys))
kept_step v row (Ok js) (Ok rs) all h = rw (sym h) refl
kept_step v row (Ok js) (Err e) all h = rw (sym h) refl
kept_step v row (Err e) rest all h = refl

each_kept : (calls : Calls) (down : Bool) (ks : List Given) (es : List Entry)
    → (each (with_keys (row_key calls ks) (down ∷ map is_down ks)) (map row_of es) >>= λ rs. Ok (map kept rs)) ≡ each (entry_keyed calls ks) es
each_kept calls down ks [] = refl
each_kept calls down ks (e ∷ es) =
    rw (row_keys calls ks down (map is_down ks) e)
    (kept_step e.0 (row_of e) (keys_from (key_at calls ks) 0 (map is_down ks) e.1.1) (each (with_keys (row_key calls ks) (down ∷ map is_down ks)) (map row_of es))
    (each (entry_keyed calls ks) es) (each_kept calls down ks es))

elements_kept : (rs : List Keyed) → elements (map kept rs) ≡ map document_of (elements rs)
elements_kept [] = refl
elements_kept (r ∷ rs) = ap (λ ds. document_of r.1 ∷ ds) (elements_kept rs)

sorted_kept : (down : List Bool) (rs : List Keyed) → elements (sorted (keyed_order down) (map kept rs)) ≡ map document_of (elements (sorted (keyed_order down) rs))
sorted_kept down rs = ap elements (sym (map_sorted kept (keyed_order down) rs)) ∙ elements_kept (sorted (keyed_order down) rs)

sorted_on : (down : List Bool) (r : Answer (List Keyed))
    → ((r >>= λ rs. Ok (map kept rs)) >>= λ rs. Ok (elements (sorted (keyed_order down) rs))) ≡ ((r >>= λ rs. Ok (elements (sorted (keyed_order down) rs))) >>= λ vs. Ok (map document_of vs))
sorted_on down (Ok rs) = ap Ok (sorted_kept down rs)
sorted_on down (Err e) = refl

pub further_rows : (calls : Calls) (n : ℕ) (down : Bool) (ks : List Given) (es : List Entry) → further_selected calls n down ks es ≡ rows_selected calls n down ks es
further_rows calls n down ks es =
    let fs = down ∷ map is_down ks in
    let rows : Answer (List Keyed) = each (with_keys (row_key calls ks) fs) (map row_of es) in
    let by_rows : (each (entry_keyed calls ks) es >>= λ rs. Ok (elements (sorted (keyed_order fs) rs))) ≡ rows_ordered calls down ks es =
    ap (λ (r : Answer (List Keyed)). r >>= λ rs. Ok (elements (sorted (keyed_order fs) rs))) (sym (each_kept calls down ks es)) ∙ sorted_on fs rows in
    selected_on n (λ rs. elements (sorted (keyed_order fs) rs)) (each (entry_keyed calls ks) es)
    ∙ ap (λ (r : Answer (List Plain)). r >>= λ ds. Ok (selection n some_rows ds)) by_rows

-- where there are keys, ORDER_BY by an index goes on by them
pub further_by : (w : World) (calls : Calls) (n : ℕ) (down : Bool) (gs : List Arg) (es : List Entry) → 1 ≤ length gs
    → order_by_index calls n down (all_shown w gs) es ≡ further_selected calls n down (all_shown w gs) es
further_by w calls n down [] es some = absurd (omega (arith, some))
further_by w calls n down (g ∷ gs) es some = refl
