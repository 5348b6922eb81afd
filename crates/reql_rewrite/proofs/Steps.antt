-- One step of a loop over the parts of a term, with what is done and what is still to come.
use Rattle.std.proofs.Common.{◌≡◌, ℕ, List, [], ◌∷◌, ◌++◌, Ok, Err, refl, sym, ap, subst, ◌∙◌, append_assoc, zero, suc, ◌+◌, ◌<◌, take, drop, set, length, slice_get, Some, arith, rules}
use Rattle.std.specs.Map.{keys_of}
use Rattle.std.specs.List.{AllByRecursion}
use Rattle.std.specs.List.Sorted.{IsStrictlySortedBy}
use Rattle.std.specs.Ordering.{ordering_reverse}
use Rattle.std.specs.declared.cmp.Ordering.{Ordering}
use Rattle.std.specs.declared.cmp.Ordering.TheVariants.{Less, Equal, Greater}
use Rattle.std.proofs.lemmas.Cmp.{nat_list_cmp_total}
use Rattle.std.proofs.lemmas.List.{take_more_set, take-append-drop}
use Rattle.reql_memory.proofs.Sorted.{below_flip}
use Rattle.reql_datum.specs.Answer.{Answer, ◌>>=◌}
use Rattle.reql_datum.specs.Members.{AreRising, put, text_order}
use Rattle.reql_term.specs.Form.{Form, weight, list_weight, fields_weight, forms_of, named_of}
use Rattle.reql_rewrite.specs.Rewrite.{Saying, rewritten, all_rewritten, named_rewritten}

one_more : (i : ℕ) → i + 1 ≡ suc i
one_more i = omega arith

module _ {X : Type 0} where
  next_left : (xs : List X) (i : ℕ) (x : X) (rest : List X) → drop i xs ≡ x ∷ rest → drop (suc i) xs ≡ rest
  next_left [] zero x rest h = cc
  next_left [] (suc i) x rest h = cc
  next_left (y ∷ ys) zero x rest h = cc
  next_left (y ∷ ys) (suc i) x rest h = next_left ys i x rest h

  next_taken : (xs : List X) (i : ℕ) (x : X) (rest : List X) → drop i xs ≡ x ∷ rest → take (suc i) xs ≡ take i xs ++ x ∷ []
  next_taken [] zero x rest h = cc
  next_taken [] (suc i) x rest h = cc
  next_taken (y ∷ ys) zero x rest h = cc
  next_taken (y ∷ ys) (suc i) x rest h = ap (λ t. y ∷ t) (next_taken ys i x rest h)

  there : (xs : List X) (i : ℕ) (x : X) (rest : List X) → drop i xs ≡ x ∷ rest → i < length xs
  there [] zero x rest h = cc
  there [] (suc i) x rest h = cc
  there (y ∷ ys) zero x rest h = omega arith
  there (y ∷ ys) (suc i) x rest h = omega (arith, there ys i x rest h)

  set_left : (xs : List X) (i : ℕ) (x : X) → drop (suc i) (set xs i x) ≡ drop (suc i) xs
  set_left [] i x = refl
  set_left (y ∷ ys) zero x = refl
  set_left (y ∷ ys) (suc i) x = set_left ys i x

  -- what is left of the new list is what is left of the old
  pub left_kept : (new so all : List X) (i : ℕ) (x : X) → new ≡ so → drop i so ≡ drop i all → drop i all ≡ x ∷ drop (i + 1) all → drop (i + 1) new ≡ drop (i + 1) all
  left_kept new so all i x same left rest =
      let h : drop i new ≡ x ∷ drop (i + 1) all = rw same (left ∙ rest) in
      ap (λ n. drop n new) (one_more i) ∙ next_left new i x (drop (i + 1) all) h

  pub left_set : (new so all : List X) (i : ℕ) (x y : X) → new ≡ set so i y → drop i so ≡ drop i all → drop i all ≡ x ∷ drop (i + 1) all → drop (i + 1) new ≡ drop (i + 1) all
  left_set new so all i x y is left rest =
      ap (λ n. drop n new) (one_more i) ∙ ap (drop (suc i)) is ∙ set_left so i y ∙ next_left so i x (drop (i + 1) all) (left ∙ rest)

  pub is_there : (so all : List X) (i : ℕ) (x : X) → drop i so ≡ drop i all → drop i all ≡ x ∷ drop (i + 1) all → i < length so
  is_there so all i x left rest = there so i x (drop (i + 1) all) (left ∙ rest)

  -- at the end nothing is left
  pub all_done : (whole : Answer (List X)) (so all : List X) (i : ℕ) → whole ≡ Ok (take i so ++ []) → drop i so ≡ drop i all → drop i all ≡ [] → whole ≡ Ok so
  all_done whole so all i is left end = is ∙ ap Ok (ap (λ t. take i so ++ t) (sym (left ∙ end)) ∙ take-append-drop i so)

module _ {A X : Type 0} (f : A → X) where
  abbrev pub done_on : Answer A → Answer (List X) → List X → Answer (List X)
  done_on one later out = (one >>= λ a. later >>= λ xs. Ok (f a ∷ xs)) >>= λ xs. Ok (out ++ xs)

  later_on : (a : A) (later : Answer (List X)) (out : List X) → done_on (Ok a) later out ≡ (later >>= λ xs. Ok ((out ++ f a ∷ []) ++ xs))
  later_on a (Ok xs) out = ap Ok (sym (append_assoc out (f a ∷ []) xs))
  later_on a (Err e) out = refl

  -- a part that stays as it is
  pub step_kept : (whole later : Answer (List X)) (one : Answer A) (a : A) (new so all : List X) (i : ℕ) → whole ≡ done_on one later (take i so) → one ≡ Ok a → new ≡ so → drop i so ≡ drop i all
      → drop i all ≡ f a ∷ drop (i + 1) all → whole ≡ (later >>= λ xs. Ok (take (i + 1) new ++ xs))
  step_kept whole later one a new so all i known is same left rest =
      let taken : take (i + 1) new ≡ take i so ++ f a ∷ [] = rw same (ap (λ n. take n so) (one_more i) ∙ next_taken so i (f a) (drop (i + 1) all) (left ∙ rest)) in
      rw (known, is, taken) (later_on a later (take i so))

  -- and one that becomes another
  pub step_set : (whole later : Answer (List X)) (one : Answer A) (a : A) (new so : List X) (i : ℕ) → whole ≡ done_on one later (take i so) → one ≡ Ok a → new ≡ set so i (f a) → i < length so
      → whole ≡ (later >>= λ xs. Ok (take (i + 1) new ++ xs))
  step_set whole later one a new so i known is set_is within =
      let taken : take (i + 1) new ≡ take i so ++ f a ∷ [] = rw set_is (take_more_set so i (f a) within) in
      rw (known, is, taken) (later_on a later (take i so))

-- ---- maps: a put at a name that is there

own_reverse : (o : Ordering) → o ≡ ordering_reverse o → o ≡ Equal
own_reverse Less h = cc
own_reverse Equal h = refl
own_reverse Greater h = cc

same_key : (k : List ℕ) → text_order k k ≡ Equal
same_key k = own_reverse (text_order k k) (nat_list_cmp_total.antisymm k k)

above_later : (l : List ℕ) (ms : List (List ℕ × Form)) (i : ℕ) (k : List ℕ) (w : Form) (rest : List (List ℕ × Form)) → AllByRecursion (λ y. text_order l y ≡ Less) (keys_of ms) → drop i ms ≡ (k, w) ∷ rest → text_order l k ≡ Less
above_later l [] zero k w rest all h = cc
above_later l [] (suc i) k w rest all h = cc
above_later l (m ∷ ms) zero k w rest all h = let e : m.0 ≡ k = cc in subst (λ y. text_order l y ≡ Less) e all.0
above_later l (m ∷ ms) (suc i) k w rest all h = above_later l ms i k w rest all.1 h

pub put_set : (ms : List (List ℕ × Form)) (i : ℕ) (k : List ℕ) (v w : Form) (rest : List (List ℕ × Form)) → AreRising ms → drop i ms ≡ (k, w) ∷ rest → put k v ms ≡ set ms i (k, v)
unfolding IsStrictlySortedBy
put_set [] zero k v w rest up h = cc
put_set [] (suc i) k v w rest up h = cc
put_set (m ∷ ms) zero k v w rest up h = let e : m.0 ≡ k = cc in rw (e, same_key k) refl
put_set (m ∷ ms) (suc i) k v w rest up h = rw (below_flip text_order nat_list_cmp_total k m.0 (above_later m.0 ms i k w rest up.0 h)) (ap (λ t. m ∷ t) (put_set ms i k v w rest up.1 h))

pub put_is_set : (new so all : List (List ℕ × Form)) (i : ℕ) (k : List ℕ) (v w : Form) → new ≡ put k v so → keys_of so ≡ keys_of all → AreRising all → drop i so ≡ drop i all → drop i all ≡ (k, w) ∷ drop (i + 1) all
    → new ≡ set so i (k, v)
put_is_set new so all i k v w is names up left rest =
    is ∙ put_set so i k v w (drop (i + 1) all) (subst (IsStrictlySortedBy text_order) (sym names) up) (left ∙ rest)

keys_set : (ms : List (List ℕ × Form)) (i : ℕ) (k : List ℕ) (v w : Form) (rest : List (List ℕ × Form)) → drop i ms ≡ (k, w) ∷ rest → keys_of (set ms i (k, v)) ≡ keys_of ms
keys_set [] i k v w rest h = refl
keys_set (m ∷ ms) zero k v w rest h = cc
keys_set (m ∷ ms) (suc i) k v w rest h = ap (λ t. m.0 ∷ t) (keys_set ms i k v w rest h)

pub names_set : (new so all : List (List ℕ × Form)) (i : ℕ) (k : List ℕ) (v w : Form) → new ≡ set so i (k, v) → keys_of so ≡ keys_of all → drop i so ≡ drop i all → drop i all ≡ (k, w) ∷ drop (i + 1) all → keys_of new ≡ keys_of all
names_set new so all i k v w is names left rest = ap keys_of is ∙ keys_set so i k v w (drop (i + 1) all) (left ∙ rest) ∙ names

-- ---- the loops

module _ (rule : Saying) where
  abbrev pub Step : List Form → List Form → ℕ → Type 0
  Step ts new i = record {
    whole : all_rewritten rule (forms_of ts) ≡ (all_rewritten rule (forms_of (drop i ts)) >>= λ gs. Ok (take i new ++ gs));
    left : drop i new ≡ drop i ts;
  }

  pub kept_all : (ts so new : List Form) (i : ℕ) (f : Form) → Step ts so i → drop i ts ≡ f ∷ drop (i + 1) ts → rewritten rule f ≡ Ok f → new ≡ so → Step ts new (i + 1)
  kept_all ts so new i f known rest is same = record {
    whole = step_kept (λ x. x) _ (all_rewritten rule (forms_of (drop (i + 1) ts))) (rewritten rule f) f new so ts i (rw rest at known.whole) is same known.left rest;
    left = left_kept new so ts i f same known.left rest;
  }

  pub set_all : (ts so new : List Form) (i : ℕ) (f g : Form) → Step ts so i → drop i ts ≡ f ∷ drop (i + 1) ts → rewritten rule f ≡ Ok g → new ≡ set so i g → Step ts new (i + 1)
  set_all ts so new i f g known rest is set_is = record {
    whole = step_set (λ x. x) _ (all_rewritten rule (forms_of (drop (i + 1) ts))) (rewritten rule f) g new so i (rw rest at known.whole) is set_is (is_there so ts i f known.left rest);
    left = left_set new so ts i f g set_is known.left rest;
  }

  abbrev pub NamedStep : List (List ℕ × Form) → List (List ℕ × Form) → ℕ → Type 0
  NamedStep ms new i = record {
    whole : named_rewritten rule (named_of ms) ≡ (named_rewritten rule (named_of (drop i ms)) >>= λ ns. Ok (take i new ++ ns));
    left : drop i new ≡ drop i ms;
    names : keys_of new ≡ keys_of ms;
  }

  pub kept_named : (ms so new : List (List ℕ × Form)) (i : ℕ) (k : List ℕ) (f : Form) → NamedStep ms so i → drop i ms ≡ (k, f) ∷ drop (i + 1) ms → rewritten rule f ≡ Ok f → new ≡ so → NamedStep ms new (i + 1)
  kept_named ms so new i k f known rest is same = record {
    whole = step_kept (λ x. (k, x)) _ (named_rewritten rule (named_of (drop (i + 1) ms))) (rewritten rule f) f new so ms i (rw rest at known.whole) is same known.left rest;
    left = left_kept new so ms i (k, f) same known.left rest;
    names = ap keys_of same ∙ known.names;
  }

  pub put_named : (ms so new : List (List ℕ × Form)) (i : ℕ) (k : List ℕ) (f g : Form) → NamedStep ms so i → AreRising ms → drop i ms ≡ (k, f) ∷ drop (i + 1) ms → rewritten rule f ≡ Ok g → new ≡ put k g so → NamedStep ms new (i + 1)
  put_named ms so new i k f g known up rest is put_is =
      let set_is : new ≡ set so i (k, g) = put_is_set new so ms i k g f put_is known.names up known.left rest in record {
        whole = step_set (λ x. (k, x)) _ (named_rewritten rule (named_of (drop (i + 1) ms))) (rewritten rule f) g new so i (rw rest at known.whole) is set_is (is_there so ms i (k, f) known.left rest);
        left = left_set new so ms i (k, f) (k, g) set_is known.left rest;
        names = names_set new so ms i k g f set_is known.names known.left rest;
      }

-- a part of a term weighs less than the list that it stands in
pub form_below : (fs : List Form) (i : ℕ) (f : Form) → slice_get fs i ≡ Some f → weight f < list_weight fs
form_below [] i f h = search rules
form_below (g ∷ gs) zero f h = search rules
form_below (g ∷ gs) (suc i) f h = omega (arith, form_below gs i f h)

pub field_below : (ms : List (List ℕ × Form)) (i : ℕ) (k : List ℕ) (f : Form) → slice_get ms i ≡ Some (k, f) → weight f < fields_weight ms
field_below [] i k f h = search rules
field_below (m ∷ ms) zero k f h = search rules
field_below (m ∷ ms) (suc i) k f h = omega (arith, field_below ms i k f h)

pub ruleset steps = (is_there, form_below, field_below)
