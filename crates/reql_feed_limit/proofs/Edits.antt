-- An edited list, filtered or reversed, is the filtered or reversed list, edited.
use Rattle.std.proofs.Common.{◌≡◌, List, [], ◌∷◌, ◌++◌, reverse, Bool, true, false, cond, Option, Some, None, Ordering, Less, is_eq, refl, sym, ap, ◌∙◌}
use Rattle.std.specs.List.{filter, AllByRecursion}
use Rattle.std.specs.List.Sorted.{IsStrictlySortedBy}
use Rattle.std.specs.Map.{keys_of}
use Rattle.std.specs.Ordering.{flip_args}
use Rattle.std.proofs.lemmas.Cmp.{back_total}
use Rattle.std.proofs.lemmas.Map.Entries.{lookup-filter-keys}
use Rattle.std.proofs.lemmas.List.Kept.{IsStrictlySortedBy-filter}
use Rattle.std.proofs.lemmas.List.{reverse-append}
use Rattle.reql_memory.specs.Sorted.{AreRisingBy, find_by, put_by, without_by}
use Rattle.reql_memory.proofs.Sorted.{rising_put, rising_without, rising_rest, not_later, without_gap}
use Rattle.reql_feed_limit.specs.Edits.{edited}
use Rattle.reql_feed_limit.proofs.Maps.{Strict, same_key, eq_flip, find_put, find_without, alike}

pub back_strict : {K : Type 0} {cmp : K → K → Ordering} → Strict cmp → Strict (flip_args cmp)
back_strict strict = record { total = back_total strict.total; one = λ a b h. sym (strict.one b a h) }

keys_at : {K V : Type 0} (b : Bool) (m : K × V) (ms ns : List (K × V)) (ks : List K) → keys_of ns ≡ ks → keys_of (cond b (m ∷ ns) ns) ≡ cond b (m.0 ∷ ks) ks
keys_at true m ms ns ks h = ap (λ t. m.0 ∷ t) h
keys_at false m ms ns ks h = h

keys_filter : {K V : Type 0} (p : K → Bool) (ms : List (K × V)) → keys_of (filter (λ m. p m.0) ms) ≡ filter p (keys_of ms)
keys_filter p [] = refl
keys_filter p (m ∷ ms) = keys_at (p m.0) m ms (filter (λ l. p l.0) ms) (filter p (keys_of ms)) (keys_filter p ms)

put_kept : {V : Type 0} (a b : Bool) (x y : Option V) → (b ≡ true → a ≡ true) → cond a (cond b x y) None ≡ cond b x (cond a y None)
put_kept true true x y h = refl
put_kept true false x y h = refl
put_kept false true x y h = let f = h refl in cc
put_kept false false x y h = refl

put_lost : {V : Type 0} (a b : Bool) (x y : Option V) → (b ≡ true → a ≡ false) → cond a (cond b x y) None ≡ cond a y None
put_lost true true x y h = let f = h refl in cc
put_lost true false x y h = refl
put_lost false true x y h = refl
put_lost false false x y h = refl

gone_both : {V : Type 0} (a b : Bool) (y : Option V) → cond a (cond b None y) None ≡ cond b None (cond a y None)
gone_both true true y = refl
gone_both true false y = refl
gone_both false true y = refl
gone_both false false y = refl

abbrev or_else : {V : Type 0} → Option V → Option V → Option V
or_else None g = g
or_else (Some x) g = Some x

or_cond : {V : Type 0} (b : Bool) (x : V) (f g : Option V) → or_else (cond b (Some x) f) g ≡ cond b (Some x) (or_else f g)
or_cond true x f g = refl
or_cond false x f g = refl

first_or_last : {V : Type 0} (b : Bool) (x : V) (f : Option V) → (b ≡ true → f ≡ None) → or_else f (cond b (Some x) None) ≡ cond b (Some x) f
first_or_last true x None h = refl
first_or_last true x (Some y) h = let f = h refl in cc
first_or_last false x None h = refl
first_or_last false x (Some y) h = refl

pub reverse_cons : {X : Type 0} (x : X) (xs : List X) → reverse (x ∷ xs) ≡ reverse xs ++ x ∷ []
reverse_cons x xs = reverse-append (x ∷ []) xs

put_two : {V : Type 0} (a b : Bool) (x y z : Option V) → (a ≡ true → b ≡ true → ⊥) → cond a x (cond b y z) ≡ cond b y (cond a x z)
put_two true true x y z h = absurd (h refl refl)
put_two true false x y z h = refl
put_two false b x y z h = refl

put_undone : {V : Type 0} (b : Bool) (x f : Option V) → (b ≡ true → f ≡ None) → cond b None (cond b x f) ≡ f
put_undone true x f h = sym (h refl)
put_undone false x f h = refl

both_at : {K : Type 0} (cmp : K → K → Ordering) (strict : Strict cmp) (p k q : K) → (p ≡ k → ⊥) → is_eq (cmp q p) ≡ true → is_eq (cmp q k) ≡ true → ⊥
both_at cmp strict p k q ne here there = ne (sym (same_key cmp strict q p here) ∙ same_key cmp strict q k there)

module _ {K : Type 0} (cmp : K → K → Ordering) (strict : Strict cmp) {V : Type 0} where
  pub rising_filter : (p : K → Bool) (ms : List (K × V)) → AreRisingBy cmp ms → AreRisingBy cmp (filter (λ m. p m.0) ms)
  rising_filter p ms up = rw (keys_filter p ms) (IsStrictlySortedBy-filter cmp p (keys_of ms) up)

  pub find_filter : (p : K → Bool) (q : K) (ms : List (K × V)) → find_by cmp q (filter (λ m. p m.0) ms) ≡ cond (p q) (find_by cmp q ms) None
  find_filter p q ms = lookup-filter-keys (λ k. is_eq (cmp q k)) p (p q) (λ k h. ap p (sym (same_key cmp strict q k h))) ms

  pub filter_put : (p : K → Bool) (k : K) (v : V) (ms : List (K × V)) → AreRisingBy cmp ms → p k ≡ true → filter (λ m. p m.0) (put_by cmp k v ms) ≡ put_by cmp k v (filter (λ m. p m.0) ms)
  filter_put p k v ms up h =
      alike cmp strict _ _ (rising_filter p (put_by cmp k v ms) (rising_put cmp strict.total k v ms up)) (rising_put cmp strict.total k v (filter (λ m. p m.0) ms) (rising_filter p ms up))
      (λ q. find_filter p q (put_by cmp k v ms) ∙ ap (λ t. cond (p q) t None) (find_put cmp strict ms k v q)
      ∙ put_kept (p q) (is_eq (cmp q k)) (Some v) (find_by cmp q ms) (λ here. ap p (same_key cmp strict q k here) ∙ h)
      ∙ ap (λ t. cond (is_eq (cmp q k)) (Some v) t) (sym (find_filter p q ms)) ∙ sym (find_put cmp strict (filter (λ m. p m.0) ms) k v q))

  pub filter_put_out : (p : K → Bool) (k : K) (v : V) (ms : List (K × V)) → AreRisingBy cmp ms → p k ≡ false → filter (λ m. p m.0) (put_by cmp k v ms) ≡ filter (λ m. p m.0) ms
  filter_put_out p k v ms up h =
      alike cmp strict _ _ (rising_filter p (put_by cmp k v ms) (rising_put cmp strict.total k v ms up)) (rising_filter p ms up)
      (λ q. find_filter p q (put_by cmp k v ms) ∙ ap (λ t. cond (p q) t None) (find_put cmp strict ms k v q)
      ∙ put_lost (p q) (is_eq (cmp q k)) (Some v) (find_by cmp q ms) (λ here. ap p (same_key cmp strict q k here) ∙ h)
      ∙ sym (find_filter p q ms))

  pub filter_without : (p : K → Bool) (k : K) (ms : List (K × V)) → AreRisingBy cmp ms → filter (λ m. p m.0) (without_by cmp k ms) ≡ without_by cmp k (filter (λ m. p m.0) ms)
  filter_without p k ms up =
      alike cmp strict _ _ (rising_filter p (without_by cmp k ms) (rising_without cmp strict.total k ms up)) (rising_without cmp strict.total k (filter (λ m. p m.0) ms) (rising_filter p ms up))
      (λ q. find_filter p q (without_by cmp k ms) ∙ ap (λ t. cond (p q) t None) (find_without cmp strict ms k q up)
      ∙ gone_both (p q) (is_eq (cmp q k)) (find_by cmp q ms)
      ∙ ap (λ t. cond (is_eq (cmp q k)) None t) (sym (find_filter p q ms)) ∙ sym (find_without cmp strict (filter (λ m. p m.0) ms) k q (rising_filter p ms up)))

  pub rising_edited : (gone : Option K) (come : Option (K × V)) (ms : List (K × V)) → AreRisingBy cmp ms → AreRisingBy cmp (edited cmp gone come ms)
  rising_edited None None ms up = up
  rising_edited (Some g) None ms up = rising_without cmp strict.total g ms up
  rising_edited None (Some c) ms up = rising_put cmp strict.total c.0 c.1 ms up
  rising_edited (Some g) (Some c) ms up = rising_put cmp strict.total c.0 c.1 (without_by cmp g ms) (rising_without cmp strict.total g ms up)

  -- a key that isn't there goes
  pub without_none : (ms : List (K × V)) (k : K) → find_by cmp k ms ≡ None → without_by cmp k ms ≡ ms
  without_none ms k h = without_gap cmp strict.total ms k h

  -- edits at two keys change places
  pub put_put : (p k : K) (v w : V) (ms : List (K × V)) → AreRisingBy cmp ms → (p ≡ k → ⊥) → put_by cmp p v (put_by cmp k w ms) ≡ put_by cmp k w (put_by cmp p v ms)
  put_put p k v w ms up ne =
      alike cmp strict _ _ (rising_put cmp strict.total p v (put_by cmp k w ms) (rising_put cmp strict.total k w ms up)) (rising_put cmp strict.total k w (put_by cmp p v ms) (rising_put cmp strict.total p v ms up))
      (λ q. find_put cmp strict (put_by cmp k w ms) p v q ∙ ap (cond (is_eq (cmp q p)) (Some v)) (find_put cmp strict ms k w q)
      ∙ put_two (is_eq (cmp q p)) (is_eq (cmp q k)) (Some v) (Some w) (find_by cmp q ms) (both_at cmp strict p k q ne)
      ∙ ap (cond (is_eq (cmp q k)) (Some w)) (sym (find_put cmp strict ms p v q)) ∙ sym (find_put cmp strict (put_by cmp p v ms) k w q))

  pub put_without : (p k : K) (v : V) (ms : List (K × V)) → AreRisingBy cmp ms → (p ≡ k → ⊥) → put_by cmp p v (without_by cmp k ms) ≡ without_by cmp k (put_by cmp p v ms)
  put_without p k v ms up ne =
      alike cmp strict _ _ (rising_put cmp strict.total p v (without_by cmp k ms) (rising_without cmp strict.total k ms up)) (rising_without cmp strict.total k (put_by cmp p v ms) (rising_put cmp strict.total p v ms up))
      (λ q. find_put cmp strict (without_by cmp k ms) p v q ∙ ap (cond (is_eq (cmp q p)) (Some v)) (find_without cmp strict ms k q up)
      ∙ put_two (is_eq (cmp q p)) (is_eq (cmp q k)) (Some v) None (find_by cmp q ms) (both_at cmp strict p k q ne)
      ∙ ap (cond (is_eq (cmp q k)) None) (sym (find_put cmp strict ms p v q)) ∙ sym (find_without cmp strict (put_by cmp p v ms) k q (rising_put cmp strict.total p v ms up)))

  -- what is put where nothing was, and goes again, has changed nothing
  pub without_put : (p : K) (v : V) (ms : List (K × V)) → AreRisingBy cmp ms → find_by cmp p ms ≡ None → without_by cmp p (put_by cmp p v ms) ≡ ms
  without_put p v ms up none =
      alike cmp strict _ _ (rising_without cmp strict.total p (put_by cmp p v ms) (rising_put cmp strict.total p v ms up)) up
      (λ q. find_without cmp strict (put_by cmp p v ms) p q (rising_put cmp strict.total p v ms up) ∙ ap (cond (is_eq (cmp q p)) None) (find_put cmp strict ms p v q)
      ∙ put_undone (is_eq (cmp q p)) (Some v) (find_by cmp q ms) (λ here. rw (same_key cmp strict q p here) none))

  -- ---- reversed
  all_last : (P : K → Type 0) (ms : List (K × V)) (m : K × V) → AllByRecursion P (keys_of ms) → P m.0 → AllByRecursion P (keys_of (ms ++ m ∷ []))
  all_last P [] m all h = (h, tt)
  all_last P (n ∷ ns) m all h = (all.0, all_last P ns m all.1 h)

  all_reverse : (P : K → Type 0) (ms : List (K × V)) → AllByRecursion P (keys_of ms) → AllByRecursion P (keys_of (reverse ms))
  all_reverse P [] all = tt
  all_reverse P (m ∷ ms) all = rw (reverse_cons m ms) (all_last P (reverse ms) m (all_reverse P ms all.1) all.0)

  rising_last : (ms : List (K × V)) (m : K × V) → AreRisingBy cmp ms → AllByRecursion (λ k. cmp k m.0 ≡ Less) (keys_of ms) → AreRisingBy cmp (ms ++ m ∷ [])
  unfolding IsStrictlySortedBy
  rising_last [] m up all = (tt, tt)
  rising_last (n ∷ ns) m up all = (all_last (λ k. cmp n.0 k ≡ Less) ns m up.0 all.0, rising_last ns m up.1 all.1)

  find_last : (q : K) (ms : List (K × V)) (m : K × V) → find_by cmp q (ms ++ m ∷ []) ≡ or_else (find_by cmp q ms) (cond (is_eq (cmp q m.0)) (Some m.1) None)
  find_last q [] m = refl
  find_last q (n ∷ ns) m = ap (cond (is_eq (cmp q n.0)) (Some n.1)) (find_last q ns m) ∙ sym (or_cond (is_eq (cmp q n.0)) n.1 (find_by cmp q ns) (cond (is_eq (cmp q m.0)) (Some m.1) None))

module _ {K : Type 0} (cmp : K → K → Ordering) (strict : Strict cmp) {V : Type 0} where
  pub rising_reverse : (ms : List (K × V)) → AreRisingBy cmp ms → AreRisingBy (flip_args cmp) (reverse ms)
  unfolding IsStrictlySortedBy
  rising_reverse [] up = tt
  rising_reverse (m ∷ ms) up =
      rw (reverse_cons m ms) (rising_last (flip_args cmp) (back_strict strict) (reverse ms) m (rising_reverse ms up.1) (all_reverse cmp strict (λ k. cmp m.0 k ≡ Less) ms up.0))

  pub find_reverse : (ms : List (K × V)) (q : K) → AreRisingBy cmp ms → find_by (flip_args cmp) q (reverse ms) ≡ find_by cmp q ms
  find_reverse [] q up = refl
  find_reverse (m ∷ ms) q up =
      ap (find_by (flip_args cmp) q) (reverse_cons m ms) ∙ find_last (flip_args cmp) (back_strict strict) q (reverse ms) m
      ∙ ap (λ t. or_else t (cond (is_eq (cmp m.0 q)) (Some m.1) None)) (find_reverse ms q (rising_rest cmp strict.total m ms up))
      ∙ ap (λ b. or_else (find_by cmp q ms) (cond b (Some m.1) None)) (eq_flip cmp strict m.0 q)
      ∙ first_or_last (is_eq (cmp q m.0)) m.1 (find_by cmp q ms) (λ here. rw (same_key cmp strict q m.0 here) (not_later cmp strict.total m.0 m.1 ms up))

  pub reverse_put : (k : K) (v : V) (ms : List (K × V)) → AreRisingBy cmp ms → reverse (put_by cmp k v ms) ≡ put_by (flip_args cmp) k v (reverse ms)
  reverse_put k v ms up =
      alike (flip_args cmp) (back_strict strict) _ _ (rising_reverse (put_by cmp k v ms) (rising_put cmp strict.total k v ms up)) (rising_put (flip_args cmp) (back_total strict.total) k v (reverse ms) (rising_reverse ms up))
      (λ q. find_reverse (put_by cmp k v ms) q (rising_put cmp strict.total k v ms up) ∙ find_put cmp strict ms k v q
      ∙ ap (λ t. cond (is_eq (cmp q k)) (Some v) t) (sym (find_reverse ms q up)) ∙ ap (λ b. cond b (Some v) (find_by (flip_args cmp) q (reverse ms))) (eq_flip cmp strict q k)
      ∙ sym (find_put (flip_args cmp) (back_strict strict) (reverse ms) k v q))

  pub reverse_without : (k : K) (ms : List (K × V)) → AreRisingBy cmp ms → reverse (without_by cmp k ms) ≡ without_by (flip_args cmp) k (reverse ms)
  reverse_without k ms up =
      alike (flip_args cmp) (back_strict strict) _ _ (rising_reverse (without_by cmp k ms) (rising_without cmp strict.total k ms up)) (rising_without (flip_args cmp) (back_total strict.total) k (reverse ms) (rising_reverse ms up))
      (λ q. find_reverse (without_by cmp k ms) q (rising_without cmp strict.total k ms up) ∙ find_without cmp strict ms k q up
      ∙ ap (λ t. cond (is_eq (cmp q k)) None t) (sym (find_reverse ms q up)) ∙ ap (λ b. cond b None (find_by (flip_args cmp) q (reverse ms))) (eq_flip cmp strict q k)
      ∙ sym (find_without (flip_args cmp) (back_strict strict) (reverse ms) k q (rising_reverse ms up)))

  pub reverse_edited : (gone : Option K) (come : Option (K × V)) (ms : List (K × V)) → AreRisingBy cmp ms → reverse (edited cmp gone come ms) ≡ edited (flip_args cmp) gone come (reverse ms)
  reverse_edited None None ms up = refl
  reverse_edited (Some g) None ms up = reverse_without g ms up
  reverse_edited None (Some c) ms up = reverse_put c.0 c.1 ms up
  reverse_edited (Some g) (Some c) ms up = reverse_put c.0 c.1 (without_by cmp g ms) (rising_without cmp strict.total g ms up) ∙ ap (put_by (flip_args cmp) c.0 c.1) (reverse_without g ms up)
