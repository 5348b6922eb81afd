-- What a set of documents holds.
use Rattle.std.proofs.Common.{◌≡◌, List, [], ◌∷◌, ◌++◌, Bool, true, false, cond, ◌||◌, refl, sym, ap, ◌∙◌, Ordering, Less, Equal, Greater}
use Rattle.std.specs.Ordering.{is_eq, on, ordering_reverse}
use Rattle.std.specs.List.{list_any}
use Rattle.std.specs.BTreeSet.{BTreeSet, contains}
use Rattle.reql_datum.specs.Order.{order}
use Rattle.reql_datum.specs.Plain.{Plain}
use Rattle.reql_datum.specs.Total.{order_total}
use Rattle.reql_datum.specs.View.{plain}
use Rattle.reql_datum.specs.declared.datum.Datum.{Datum}
use Rattle.reql_rules.specs.Sets.{is_among}
use Rattle.reql_rules.specs.Types.{same}
use Rattle.reql_scalar.specs.Among.{Holds}

eq_turned : (o : Ordering) → is_eq (ordering_reverse o) ≡ is_eq o
eq_turned Less = refl
eq_turned Equal = refl
eq_turned Greater = refl

pub same_turned : (a b : Plain) → same b a ≡ same a b
same_turned a b = ap is_eq (order_total.antisymm b a) ∙ eq_turned (order a b)

or_last : (a b c : Bool) → (a || (b || c)) ≡ ((a || b) || c)
or_last true b c = refl
or_last false b c = refl

or_false : (a : Bool) → a ≡ (a || false)
or_false true = refl
or_false false = refl

among_more : (u v : Plain) (vs : List Plain) → is_among (vs ++ v ∷ []) u ≡ cond (same v u) true (is_among vs u)
among_more u v [] = at (same u v) (same v u) (same_turned v u)
  where
    at : (b c : Bool) → b ≡ c → (b || false) ≡ cond c true false
    at true c e = rw (← e) refl
    at false c e = rw (← e) refl
among_more u v (w ∷ vs) = ap (λ t. same u w || t) (among_more u v vs) ∙ at (same u w) (same v u) (is_among vs u)
  where
    at : (a b c : Bool) → (a || cond b true c) ≡ cond b true (a || c)
    at true true c = refl
    at true false c = refl
    at false b c = refl

pub holds_more : (s n : BTreeSet Datum) (d : Datum) (vs : List Plain) → ((q : Datum) → contains (on plain order) n q ≡ cond (is_eq (order (plain d) (plain q))) true (contains (on plain order) s q)) → Holds s vs → Holds n (vs ++ plain d ∷ [])
holds_more s n d vs up h = record { same = λ q. up q ∙ ap (λ t. cond (same (plain d) (plain q)) true t) (h.same q) ∙ sym (among_more (plain q) (plain d) vs) }

pub holds_none : (s : BTreeSet Datum) → s.keys ≡ [] → Holds s []
holds_none s h = record { same = λ q. ap (list_any (λ k. is_eq (order (plain q) (plain k)))) h }
