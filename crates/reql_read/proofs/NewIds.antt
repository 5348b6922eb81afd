-- Ids that are none of those before.
use Rattle.std.proofs.Common.{◌≡◌, ℕ, suc, ◌+◌, ◌<◌, List, [], ◌∷◌, ◌++◌, length, get_or, drop, Bool, true, false, ◌&&◌, ◌||◌, not, cond, nat_eq, Result, Ok, refl, sym, ap, ◌∙◌, arith, add-one}
use Rattle.std.proofs.Math.Seq.{drop-cons}
use Rattle.std.proofs.lemmas.Bool.Decides.{nat_tests}
use Rattle.std.specs.List.{list_any}
use Rattle.std.specs.Cmp.{unsigned_tied}
use Rattle.std.specs.BTreeMap.{is_at}
use Rattle.std.specs.Ordering.{nat_cmp}
use Rattle.serde_json.specs.View.{view, items_view}
use Rattle.serde_json.specs.declared.value.Value.{Value}
use Rattle.reql_term.specs.Params.{IsNew}
use Rattle.reql_read.specs.Apart.{ids_among}
use Rattle.reql_read.specs.Shape.{is_new, number_in}
use Rattle.reql_read.specs.declared.fault.ReadFault.{ReadFault}

apart : (k id : ℕ) → nat_eq k id ≡ false → k ≡ id → ⊥
apart k id h e = grind (arith, nat_tests)

both : (a b : Bool) → (a && b) ≡ true → (a ≡ true) × (b ≡ true)
both true true h = (refl, refl)
both true false h = cc
both false b h = cc

is_false : (b : Bool) → not b ≡ true → b ≡ false
is_false true h = cc
is_false false h = refl

pub new_of : (id : ℕ) (ids : List ℕ) → is_new id ids ≡ true → IsNew id ids
new_of id [] h = tt
new_of id (k ∷ ks) h = let e = both _ _ h in (apart k id (is_false _ e.0), new_of id ks e.1)

pub fresh : (added has new : Bool) → added ≡ true → added ≡ not has → has ≡ not new → new ≡ true
fresh added true true h j k = cc
fresh added false true h j k = refl
fresh added true false h j k = cc
fresh added false false h j k = cc

swap : (b : Bool) → (not b && true) ≡ (true && not b)
swap true = refl
swap false = refl

assoc : (a b c : Bool) → (a && (b && c)) ≡ ((a && b) && c)
assoc true b c = refl
assoc false b c = refl

joined : (same new : Bool) → cond same true (not new) ≡ not (new && not same)
joined true true = refl
joined true false = refl
joined false true = refl
joined false false = refl

new_last : (x id : ℕ) (ids : List ℕ) → is_new x (ids ++ id ∷ []) ≡ (is_new x ids && not (nat_eq id x))
new_last x id [] = swap (nat_eq id x)
new_last x id (k ∷ ks) = ap (λ b. not (nat_eq k x) && b) (new_last x id ks) ∙ assoc (not (nat_eq k x)) (is_new x ks) (not (nat_eq id x))

pub seen_step : (ids : List ℕ) (id x : ℕ) (now before : Bool) → now ≡ cond (is_at (nat_cmp id) x) true before → before ≡ not (is_new x ids) → now ≡ not (is_new x (ids ++ id ∷ []))
seen_step ids id x now before is known =
    is ∙ ap (λ t. cond t true before) (unsigned_tied id x) ∙ ap (cond (nat_eq id x) true) known ∙ joined (nat_eq id x) (is_new x ids) ∙ ap not (sym (new_last x id ids))

pub ids_step : (whole : Result (List ℕ) ReadFault) (items : List Value) (i : ℕ) (v : Value) (id : ℕ) (ids new : List ℕ) → whole ≡ ids_among ids (items_view (drop i items)) → i < length items → v ≡ get_or items i v
    → number_in (view v) ≡ Ok id → is_new id ids ≡ true → new ≡ ids ++ id ∷ [] → whole ≡ ids_among new (items_view (drop (i + 1) items))
ids_step whole items i v id ids new known below here is first added =
    let split : drop i items ≡ v ∷ drop (suc i) items = drop-cons items i v below ∙ ap (λ x. x ∷ drop (suc i) items) (sym here) in
    let later = λ (xs : List ℕ). ids_among xs (items_view (drop (suc i) items)) in
    let step : ids_among ids (items_view (v ∷ drop (suc i) items)) ≡ later (ids ++ id ∷ []) = rw (is, first) refl in
    rw add-one (known ∙ ap (λ vs. ids_among ids (items_view vs)) split ∙ step ∙ ap later (sym added))

neither : (a b c : Bool) → not b ≡ c → not (a || b) ≡ (not a && c)
neither true b c h = refl
neither false b c h = h

pub none_of : (id : ℕ) (ids : List ℕ) → not (list_any (λ k. nat_eq k id) ids) ≡ is_new id ids
none_of id [] = refl
none_of id (k ∷ ks) = neither (nat_eq k id) _ _ (none_of id ks)
