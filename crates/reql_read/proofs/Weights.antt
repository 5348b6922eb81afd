-- The parts of a term weigh less than the term.
use Rattle.std.proofs.Common.{◌≡◌, ℕ, zero, suc, ◌<◌, ◌≤◌, ◌+◌, length, get_or, List, [], ◌∷◌, Some, nat_eq, false, sym, Ok, refl, ap, arith}
use Rattle.std.proofs.lemmas.Bool.Decides.{nat_tests}
use Rattle.serde_json.specs.Data.{Data, null, boolean, number, string, array, object, Items, no_items, item, Members, no_members, member}
use Rattle.serde_json.specs.View.{view, items_view, members_view}
use Rattle.serde_json.specs.declared.value.Value.{Value}
use Rattle.reql_read.specs.Apart.{options_in, parts_after, parts_in, items_count}
use Rattle.reql_read.specs.Shape.{number_in, items_in, members_in}
use Rattle.reql_json.proofs.Rising.{Entry}
use Rattle.reql_read.specs.Globals.{are_none}
use Rattle.reql_read.proofs.Understood.{bound, inside}
use Rattle.reql_read.specs.Weight.{weight, items_weight, members_weight}

pub item_below : (vs : List Value) (i : ℕ) (d : Value) → i < length vs → weight (view (get_or vs i d)) < items_weight (items_view vs)
item_below [] i d h = absurd (omega arith)
item_below (v ∷ vs) zero d h = omega arith
item_below (v ∷ vs) (suc i) d h = omega (arith, item_below vs i d (omega arith))

pub items_below : (d : Data) (ds : Items) → items_in d ≡ Ok ds → items_weight ds < weight d
items_below null ds h = cc
items_below (boolean b) ds h = cc
items_below (number n) ds h = cc
items_below (string s) ds h = cc
items_below (array es) ds h = let e : es ≡ ds = cc in rw e (omega arith)
items_below (object ms) ds h = cc

members_below : (d : Data) (ms : Members) → members_in d ≡ Ok ms → members_weight ms < weight d
members_below null ms h = cc
members_below (boolean b) ms h = cc
members_below (number n) ms h = cc
members_below (string s) ms h = cc
members_below (array es) ms h = cc
members_below (object ns) ms h = let e : ns ≡ ms = cc in rw e (omega arith)

pub options_below : (ds : Items) (ms : Members) → options_in ds ≡ Ok ms → members_weight ms ≤ items_weight ds
options_below no_items no_members h = omega arith
options_below no_items (member k d ms) h = cc
options_below (item d no_items) ms h = omega (arith, members_below d ms h)
options_below (item d (item e ds)) ms h = cc

-- the parts of a term weigh less than it
after_below : (n : ℕ) (ds : Items) (p : ℕ × (Items × Members)) → parts_after n ds ≡ Ok p → items_weight p.1.0 + members_weight p.1.1 ≤ items_weight ds
after_below n no_items p h = let e = inside (n, (no_items, no_members)) p h in let l = ap (λ q. items_weight q.1.0 + members_weight q.1.1) e in omega (arith, l)
after_below n (item args ds) p h =
    let a = bound (items_in args) _ p h in
    let b = bound (options_in ds) _ p a.2 in
    let e = inside (n, (a.0, b.0)) p b.2 in
    let l = ap (λ q. items_weight q.1.0 + members_weight q.1.1) e in
    omega (arith, l, items_below args a.0 a.1, options_below ds b.0 b.1)

pub parts_below : (ds : Items) (p : ℕ × (Items × Members)) → parts_in ds ≡ Ok p → items_weight p.1.0 + members_weight p.1.1 < items_weight ds
parts_below no_items p h = cc
parts_below (item n ds) p h = let a = bound (number_in n) _ p h in omega (arith, after_below a.0 ds p a.2)

pub count_seen : (vs : List Value) → items_count (items_view vs) ≡ length vs
count_seen [] = refl
count_seen (v ∷ vs) = ap suc (count_seen vs)

not_zero : (n : ℕ) → nat_eq (suc n) 0 ≡ false
not_zero n = grind (arith, nat_tests)

pub none_seen : (es : List Entry) → are_none (Some (members_view es)) ≡ nat_eq (length es) 0
none_seen [] = refl
none_seen (e ∷ es) = sym (not_zero (length es))

-- what is left of a map weighs no more
pub left_weighs : (now left : List Entry) (e : Entry) (m : ℕ) → now ≡ e ∷ left → members_weight (members_view now) ≤ m → members_weight (members_view left) ≤ m
left_weighs now left e m is h = let j = rw is at h in omega (arith, j)

pub ruleset weights = (item_below, items_below, options_below, parts_below)
