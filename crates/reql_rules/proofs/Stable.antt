-- A stable sort is `sorted`: a list in order whose elements that tie stand as before is the only one.
use Rattle.std.proofs.Common.{◌≡◌, ℕ, zero, ◌+◌, ◌<◌, length, slice_index_or, refl, sym, ap, subst, ◌∙◌, suc, arith, Bool, true, false, not, ◌&&◌, List, [], ◌∷◌, add-one}
use Rattle.std.specs.Prelude.{cond, if◌then◌else◌, map}
use Rattle.std.specs.declared.cmp.Ordering.{Ordering}
use Rattle.std.specs.Ordering.{is_lt}
use Rattle.std.specs.Cmp.{IsStrictWeakOrder}
use Rattle.std.specs.List.{filter}
use Rattle.std.specs.List.Sorted.{IsSortedBy, IsStableBy, ties}
use Rattle.reql_rules.specs.Sorting.{sorted, into_place}

false-true : {G : Type 0} → false ≡ true → G
false-true e = absurd (let f : false ≡ true = e in cc)

module _ {X : Type 0} where
  no_cons : {G : Type 0} {x : X} {xs : List X} → x ∷ xs ≡ [] → G
  no_cons {x = x} {xs = xs} e = absurd (let f : x ∷ xs ≡ [] = e in cc)

  same_front : {x y : X} {xs ys : List X} → x ∷ xs ≡ y ∷ ys → x ≡ y
  same_front {x = x} {y = y} {xs = xs} {ys = ys} e = let f : x ∷ xs ≡ y ∷ ys = e in cc

  same_rest : {x y : X} {xs ys : List X} → x ∷ xs ≡ y ∷ ys → xs ≡ ys
  same_rest {x = x} {y = y} {xs = xs} {ys = ys} e = let f : x ∷ xs ≡ y ∷ ys = e in cc

untied : (a b : Bool) → not a && not b ≡ true → (a ≡ false) × (b ≡ false)
untied false false e = (refl, refl)
untied false true e = false-true e
untied true false e = false-true e
untied true true e = false-true e

module _ {X : Type 0} (cmp : X → X → Ordering) (weak : IsStrictWeakOrder (λ x y. is_lt (cmp x y))) where
  abbrev pub lt : X → X → Bool
  lt x y = is_lt (cmp x y)

  -- none of a list is below x
  abbrev pub Least : X → List X → Type 0
  Least x [] = Unit {0}
  Least x (y ∷ ys) = (lt y x ≡ false) × Least x ys

  abbrev pub Rising : List X → Type 0
  Rising [] = Unit {0}
  Rising (x ∷ xs) = Least x xs × Rising xs

  lower : (x y : X) (zs : List X) → lt y x ≡ false → Least y zs → Least x zs
  lower x y [] h l = tt
  lower x y (z ∷ zs) h l = (weak.chain z y x l.0 h, lower x y zs h l.1)

  tail_sorted : (x : X) (xs : List X) → IsSortedBy lt (x ∷ xs) → IsSortedBy lt xs
  tail_sorted x xs h k d a b = let p = h (suc k) d (omega arith) (omega arith) in rw add-one (rw add-one at p)

  next_least : (x y : X) (ys : List X) → IsSortedBy lt (x ∷ y ∷ ys) → lt y x ≡ false
  next_least x y ys h = h 0 x (omega arith) (omega arith)

  rising_from : (xs : List X) → IsSortedBy lt xs → Rising xs
  rising_from [] h = tt
  rising_from (x ∷ []) h = (tt, tt)
  rising_from (x ∷ y ∷ ys) h =
      let r = rising_from (y ∷ ys) (tail_sorted x (y ∷ ys) h) in
      let l = next_least x y ys h in
      ((l, lower x y ys l r.0), r)

  -- x ties itself
  unless_below : (x : X) (b : Bool) → lt x x ≡ b → lt x x ≡ false
  unless_below x false e = e
  unless_below x true e = weak.one_way x x e

  same_tie : (x : X) → ties lt x x ≡ true
  same_tie x = rw (unless_below x (lt x x) refl) refl

  apart : (y z w : X) (b : Bool) → lt y w ≡ b → lt y z ≡ true → lt w z ≡ false → ties lt y w ≡ false
  apart y z w true e h g = rw e refl
  apart y z w false e h g = false-true (sym (weak.chain y w z e g) ∙ h)

  none : (y z : X) (ws : List X) → lt y z ≡ true → Least z ws → filter (ties lt y) ws ≡ []
  none y z [] h l = refl
  none y z (w ∷ ws) h l = rw (apart y z w (lt y w) refl h l.0) (none y z ws h l.1)

  keeps_front : (x : X) (ys : List X) → filter (ties lt x) (x ∷ ys) ≡ x ∷ filter (ties lt x) ys
  keeps_front x ys = rw (same_tie x) refl

  least_itself : (z : X) (zs : List X) → Least z zs → Least z (z ∷ zs)
  least_itself z zs l = (unless_below z (lt z z) refl, l)

  tie_front : (y z : X) (zs : List X) → lt y z ≡ false → lt z y ≡ false → filter (ties lt y) (z ∷ zs) ≡ z ∷ filter (ties lt y) zs
  tie_front y z zs e f = rw (e, f) refl

  heads : (y z : X) (ys zs : List X) (b c : Bool) → lt y z ≡ b → lt z y ≡ c → Least y ys → Least z zs
      → filter (ties lt y) (y ∷ ys) ≡ filter (ties lt y) (z ∷ zs) → filter (ties lt z) (y ∷ ys) ≡ filter (ties lt z) (z ∷ zs) → y ≡ z
  heads y z ys zs true c e f l m p q = no_cons (sym (keeps_front y ys) ∙ p ∙ none y z (z ∷ zs) e (least_itself z zs m))
  heads y z ys zs false true e f l m p q = no_cons (sym (keeps_front z zs) ∙ sym q ∙ none z y (y ∷ ys) f (least_itself y ys l))
  heads y z ys zs false false e f l m p q = same_front (sym (keeps_front y ys) ∙ p ∙ tie_front y z zs e f)

  tails : (y : X) (us ws : List X) (b : Bool) → cond b (y ∷ us) us ≡ cond b (y ∷ ws) ws → us ≡ ws
  tails y us ws true e = same_rest e
  tails y us ws false e = e

  pub unique : (ys zs : List X) → Rising ys → Rising zs → ((x : X) → filter (ties lt x) ys ≡ filter (ties lt x) zs) → ys ≡ zs
  unique [] [] r s same = refl
  unique [] (z ∷ zs) r s same = no_cons (sym (keeps_front z zs) ∙ sym (same z))
  unique (y ∷ ys) [] r s same = no_cons (sym (keeps_front y ys) ∙ same y)
  unique (y ∷ ys) (z ∷ zs) r s same =
      let h : y ≡ z = heads y z ys zs (lt y z) (lt z y) refl refl r.0 s.0 (same y) (same z) in
      let e : ys ≡ zs = unique ys zs r.1 s.1 (λ x. tails y (filter (ties lt x) ys) (filter (ties lt x) zs) (ties lt x y)
      (subst (λ w. filter (ties lt x) (y ∷ ys) ≡ filter (ties lt x) (w ∷ zs)) (sym h) (same x))) in
      cc

  least_into : (x y : X) (ys : List X) → lt y x ≡ false → Least x ys → Least x (into_place cmp y ys)
  least_into x y [] h l = (h, tt)
  least_into x y (z ∷ zs) h l = elim (lt z y) as (λ b. Least x (if b then z ∷ into_place cmp y zs else y ∷ z ∷ zs)) [ true ↦ (l.0, least_into x y zs h l.1) | false ↦ (h, l) ]

  rising_step : (x y : X) (ys : List X) (b : Bool) → lt y x ≡ b → Rising (y ∷ ys) → Rising (into_place cmp x ys) → Rising (if b then y ∷ into_place cmp x ys else x ∷ y ∷ ys)
  rising_step x y ys true e r s = (least_into y x ys (weak.one_way y x e) r.0, s)
  rising_step x y ys false e r s = ((e, lower x y ys e r.0), r)

  rising_into : (x : X) (ys : List X) → Rising ys → Rising (into_place cmp x ys)
  rising_into x [] r = (tt, tt)
  rising_into x (y ∷ ys) r = rising_step x y ys (lt y x) refl r (rising_into x ys r.1)

  pub rising_sorted : (xs : List X) → Rising (sorted cmp xs)
  rising_sorted [] = tt
  rising_sorted (x ∷ xs) = rising_into x (sorted cmp xs) (rising_sorted xs)

  -- an element that goes behind one that is below it doesn't tie with it
  not_both : (w x y : X) (b c : Bool) → ties lt w x ≡ b → ties lt w y ≡ c → lt y x ≡ true → b ≡ true → c ≡ true → ⊥
  not_both w x y b c e f h p q = false-true (sym (weak.chain y w x (untied (lt w y) (lt y w) (f ∙ q)).1 (untied (lt w x) (lt x w) (e ∙ p)).0) ∙ h)

  swapped : (x y : X) (us : List X) (b c : Bool) → (b ≡ true → c ≡ true → ⊥)
      → cond c (y ∷ cond b (x ∷ us) us) (cond b (x ∷ us) us) ≡ cond b (x ∷ cond c (y ∷ us) us) (cond c (y ∷ us) us)
  swapped x y us true true h = absurd (h refl refl)
  swapped x y us true false h = refl
  swapped x y us false true h = refl
  swapped x y us false false h = refl

  ties_step : (w x y : X) (ys : List X) (b : Bool) → lt y x ≡ b → filter (ties lt w) (into_place cmp x ys) ≡ filter (ties lt w) (x ∷ ys)
      → filter (ties lt w) (if b then y ∷ into_place cmp x ys else x ∷ y ∷ ys) ≡ filter (ties lt w) (x ∷ y ∷ ys)
  ties_step w x y ys true e i = ap (λ us. cond (ties lt w y) (y ∷ us) us) i ∙ swapped x y (filter (ties lt w) ys) (ties lt w x) (ties lt w y) (not_both w x y (ties lt w x) (ties lt w y) refl refl e)
  ties_step w x y ys false e i = refl

  ties_into : (w x : X) (ys : List X) → filter (ties lt w) (into_place cmp x ys) ≡ filter (ties lt w) (x ∷ ys)
  ties_into w x [] = refl
  ties_into w x (y ∷ ys) = ties_step w x y ys (lt y x) refl (ties_into w x ys)

  stable : (w : X) (xs : List X) → filter (ties lt w) (sorted cmp xs) ≡ filter (ties lt w) xs
  stable w [] = refl
  stable w (x ∷ xs) = ties_into w x (sorted cmp xs) ∙ ap (λ us. cond (ties lt w x) (x ∷ us) us) (stable w xs)

  sorted_at : (xs : List X) → Rising xs → (k : ℕ) (d : X) → k + 1 < length xs → lt (slice_index_or xs (k + 1) d) (slice_index_or xs k d) ≡ false
  sorted_at [] r k d h = absurd (omega arith)
  sorted_at (x ∷ []) r k d h = absurd (omega arith)
  sorted_at (x ∷ y ∷ ys) r zero d h = r.0.0
  sorted_at (x ∷ y ∷ ys) r (suc k) d h = let p = sorted_at (y ∷ ys) r.1 k d (omega arith) in rw add-one (rw add-one at p)

  pub sorts : (xs : List X) → IsSortedBy lt (sorted cmp xs)
  sorts xs k d low high = sorted_at (sorted cmp xs) (rising_sorted xs) k d high

  pub keeps_ties : (xs : List X) → IsStableBy lt xs (sorted cmp xs)
  keeps_ties xs x = stable x xs

  -- what a stable sort ensures
  pub is_sorted : (xs ys : List X) → IsSortedBy lt ys → IsStableBy lt xs ys → ys ≡ sorted cmp xs
  is_sorted xs ys s t = unique ys (sorted cmp xs) (rising_from ys s) (rising_sorted xs) (λ x. t x ∙ sym (stable x xs))

module _ {A B : Type 0} (f : A → B) (cmp : B → B → Ordering) where
  map_step : (x y : A) (ys : List A) (b : Bool) → map f (into_place (λ u v. cmp (f u) (f v)) x ys) ≡ into_place cmp (f x) (map f ys)
      → map f (if b then y ∷ into_place (λ u v. cmp (f u) (f v)) x ys else x ∷ y ∷ ys) ≡ (if b then f y ∷ into_place cmp (f x) (map f ys) else f x ∷ f y ∷ map f ys)
  map_step x y ys true i = ap (λ us. f y ∷ us) i
  map_step x y ys false i = refl

  map_into : (x : A) (ys : List A) → map f (into_place (λ u v. cmp (f u) (f v)) x ys) ≡ into_place cmp (f x) (map f ys)
  map_into x [] = refl
  map_into x (y ∷ ys) = map_step x y ys (is_lt (cmp (f y) (f x))) (map_into x ys)

  -- a sort by what f sees
  pub map_sorted : (xs : List A) → map f (sorted (λ u v. cmp (f u) (f v)) xs) ≡ sorted cmp (map f xs)
  map_sorted [] = refl
  map_sorted (x ∷ xs) = map_into x (sorted (λ u v. cmp (f u) (f v)) xs) ∙ ap (into_place cmp (f x)) (map_sorted xs)
