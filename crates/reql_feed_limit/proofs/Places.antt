-- Elements at places of a slice, and of what they stand for.
use Rattle.std.proofs.lemmas.Bool.Decides.{nat_tests}
use Rattle.std.proofs.Common.{◌≡◌, ◌==◌, ◌++◌, ℕ, zero, suc, ◌-◌, ◌<◌, List, [], ◌∷◌, length, get_or, map, slice_get, Bool, true, false, Some, None, Result, Ok, Err, IfOk, refl, sym, ap, ◌∙◌, arith}
use Rattle.std.specs.List.{insert, remove}
use Rattle.std.specs.Map.{keys_of}
use Rattle.std.specs.Ordering.{is_lt}
use Rattle.std.proofs.lemmas.List.{get_or-map, length-map}
use Rattle.reql_datum.specs.Plain.{Plain}
use Rattle.reql_memory.specs.Sorted.{AreRisingBy, find_by, IsHitBy, IsGapBy}
use Rattle.reql_memory.proofs.Sorted.{find_gap, find_hit}
use Rattle.reql_feed_limit.specs.Selection.{facing}
use Rattle.reql_feed_limit.specs.Edits.{with_gone}
use Rattle.reql_feed_limit.specs.Boundary.{after_all}
use Rattle.reql_feed_limit.proofs.Law.{facing_strict}
use Rattle.reql_feed_limit.proofs.Edits.{without_none}
use Rattle.reql_feed_limit.proofs.Next.{after_last}
use Rattle.reql_feed_limit.specs.declared.element.Element.{Element}
use Rattle.reql_feed_limit.specs.Seen.{seen}
use Rattle.reql_feed_limit.specs.Deciding.{Moves}

some_inside : {X : Type 0} (x y : X) → Some x ≡ Some y → x ≡ y
some_inside x y is = cc

pub from_get : {X : Type 0} (xs : List X) (i : ℕ) (x : X) → Some x ≡ slice_get xs i → (i < length xs) × (get_or xs i x ≡ x)
from_get [] i x is = let f : Some x ≡ None = is in cc
from_get (y ∷ ys) zero x is = (omega arith, some_inside y x (sym is))
from_get (y ∷ ys) (suc i) x is = let h = from_get ys i x is in (omega arith, h.1)

pub seen_at : (es : List Element) (i : ℕ) (x : Element) → i < length es → get_or es i x ≡ x → get_or (map seen es) i (seen x) ≡ seen x
seen_at es i x lt is = get_or-map seen es i x (seen x) lt ∙ ap seen is

-- after the last is after all
pub after_seen : (d : Bool) (es : List Element) (x : Element) (p : Plain) → AreRisingBy (facing d) (map seen es) → Some x ≡ slice_get es (length es - 1) → after_all (facing d) (map seen es) p ≡ is_lt (facing d (seen x).0 p)
after_seen d es x p up is =
    let h = from_get es (length es - 1) x is in
    let same = length-map es seen in
    after_last (facing d) (facing_strict d) (map seen es) (seen x) (length es - 1) p up (omega (arith, h.0, same)) (seen_at es (length es - 1) x h.0 h.1)

pub gone_gap : (d : Bool) (es : List Element) (g : Plain) (i : ℕ) → AreRisingBy (facing d) (map seen es) → IsGapBy (facing d) (keys_of (map seen es)) g i → with_gone (facing d) (Some g) (map seen es) ≡ map seen es
gone_gap d es g i up gap = without_none (facing d) (facing_strict d) (map seen es) g (find_gap (facing d) (facing_strict d).total (map seen es) g i up gap)

pub hit_absent : (d : Bool) (es : List Element) (k : Plain) (i : ℕ) (A : Type 0) → IsHitBy (facing d) (keys_of (map seen es)) k i → find_by (facing d) k (map seen es) ≡ None → A
hit_absent d [] k i A hit none = absurd hit
hit_absent d (e ∷ es) k i A hit none = let f : Some (get_or (map seen (e ∷ es)) i (seen e)).1 ≡ None = sym (find_hit (facing d) (facing_strict d).total (map seen (e ∷ es)) k i (seen e) hit) ∙ none in cc

pub if_ok_to : {A E : Type 0} {P Q : A → Type 0} → ((x : A) → P x → Q x) → (r : Result A E) → IfOk r P → IfOk r Q
if_ok_to on (Ok x) h = on x h
if_ok_to on (Err e) h = tt

pub copied_at : (es : List Element) (i : ℕ) (x y : Element) → i < length es → x ≡ get_or es i x → y ≡ x → get_or (map seen es) i (seen y) ≡ seen y
copied_at es i x y lt is same = rw same (seen_at es i x lt (sym is))

pub moves_of : (es : List Element) (from to : ℕ) (x y c : Element) → from < length es → x ≡ get_or es from x → y ≡ x → Moves (map seen es) from to (seen c) (record { left = Some (from, seen y); came = Some (to, seen c) })
moves_of es from to x y c lt is same = (seen y, copied_at es from x y lt is same, refl)

pub empty_is : (n : ℕ) → n == 0 ≡ true → n ≡ 0
empty_is n h = grind (arith, nat_tests)

pub not_empty_is : (n : ℕ) → n == 0 ≡ false → 0 < n
not_empty_is n h = grind (arith, nat_tests)

pub seen_remove : (es : List Element) (i : ℕ) → map seen (remove es i) ≡ remove (map seen es) i
seen_remove [] zero = refl
seen_remove [] (suc i) = refl
seen_remove (e ∷ es) zero = refl
seen_remove (e ∷ es) (suc i) = ap (λ t. seen e ∷ t) (seen_remove es i)

pub seen_insert : (es : List Element) (i : ℕ) (x : Element) → map seen (insert es i x) ≡ insert (map seen es) i (seen x)
seen_insert [] zero x = refl
seen_insert [] (suc i) x = refl
seen_insert (e ∷ es) zero x = refl
seen_insert (e ∷ es) (suc i) x = ap (λ t. seen e ∷ t) (seen_insert es i x)

pub seen_push : (es : List Element) (e : Element) → map seen (es ++ e ∷ []) ≡ map seen es ++ seen e ∷ []
seen_push [] e = refl
seen_push (d ∷ ds) e = ap (λ t. seen d ∷ t) (seen_push ds e)
