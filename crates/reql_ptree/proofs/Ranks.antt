-- The pairs of a node by their places, and a range from a place in it on.
use Rattle.std.proofs.Common.{◌≡◌, ℕ, zero, suc, ◌+◌, ◌-◌, ◌<◌, ◌≤◌, min, List, [], ◌∷◌, ◌++◌, length, take, drop, map, reverse, slice_get, Bool, true, false, not, ◌&&◌, Option, Some, None, Ordering, Less, Equal, Greater, refl, sym, ap, ◌∙◌, subst, arith, length-append}
use Rattle.std.specs.List.{AllByRecursion, filter, count_by}
use Rattle.std.specs.List.Sorted.{IsStrictlySortedBy}
use Rattle.std.specs.Map.{keys_of}
use Rattle.std.specs.Ordering.{ordering_reverse}
use Rattle.std.proofs.lemmas.List.{reverse-append, length-reverse, length-take, drop_all, drop-append-le}
use Rattle.reql_datum.specs.Plain.{Plain}
use Rattle.reql_datum.specs.Order.{order}
use Rattle.reql_datum.specs.Total.{order_total}
use Rattle.reql_ptree.specs.Next.{is_behind, behind, IsCut}
use Rattle.reql_ptree.specs.Pairs.{AreRising}
use Rattle.reql_ptree.specs.Range.{lies_within, range_of}
use Rattle.reql_ptree.specs.Side.{IsNodeOf, node_pairs}
use Rattle.reql_ptree.specs.Tall.{digits, least, tall}
use Rattle.reql_ptree.proofs.Tall.{reach, digits_below}
use Rattle.reql_ptree.proofs.Nearby.{NoneBehind, none_rising}
use Rattle.reql_ptree.proofs.Found.{count_cut}
use Rattle.reql_ptree.proofs.Ranges.{filter_none, filter_same, and_false}
use Rattle.reql_ptree.specs.declared.side.Node.{Node}

abbrev Pairs : Type 0
Pairs = List (Plain × Plain)

get_left : (a b : Pairs) (i : ℕ) → i < length a → slice_get (a ++ b) i ≡ slice_get a i
get_left [] b i h = absurd (omega arith)
get_left (x ∷ a) b zero h = refl
get_left (x ∷ a) b (suc i) h = get_left a b i (omega arith)

get_right : (a b : Pairs) (i j : ℕ) → i ≡ length a + j → slice_get (a ++ b) i ≡ slice_get b j
get_right [] b i j e = let f : i ≡ j = omega arith in ap (slice_get b) f
get_right (x ∷ a) b zero j e = absurd (omega arith)
get_right (x ∷ a) b (suc i) j e = get_right a b i j (omega arith)

module _ {d : Pairs × ℕ} {n : Node} (at : IsNodeOf d n) (i : ℕ) where
  whole : slice_get d.0 i ≡ slice_get (n.left.0 ++ (n.chunk ++ n.right.0)) i
  whole = ap (λ ms. slice_get ms i) at.pairs

  sizes : length d.0 ≡ length n.left.0 + (length n.chunk + length n.right.0)
  sizes = omega (arith, ap length at.pairs, length-append n.left.0 (n.chunk ++ n.right.0), length-append n.chunk n.right.0)

  pub place_left : i < length n.left.0 → slice_get d.0 i ≡ slice_get n.left.0 i
  place_left h = whole ∙ get_left n.left.0 (n.chunk ++ n.right.0) i h

  pub place_here : (j : ℕ) → i ≡ length n.left.0 + j → i < length d.0 - length n.right.0 → slice_get d.0 i ≡ slice_get n.chunk j
  place_here j e h = whole ∙ get_right n.left.0 (n.chunk ++ n.right.0) i j e ∙ get_left n.chunk n.right.0 j (omega (arith, e, h, sizes))

  pub place_right : (j : ℕ) → i ≡ (length d.0 - length n.right.0) + j → slice_get d.0 i ≡ slice_get n.right.0 j
  place_right j e =
      whole ∙ get_right n.left.0 (n.chunk ++ n.right.0) i (length n.chunk + j) (omega (arith, e, sizes))
      ∙ get_right n.chunk n.right.0 (length n.chunk + j) j refl

  pub right_fits : length n.right.0 ≤ length d.0
  right_fits = omega (arith, sizes)

digits_one : 1 ≤ digits 1
unfolding digits
digits_one = omega arith

-- a way down and one pair
pub reach_pair : (h n : ℕ) → 0 < h → least h ≤ n → h + 1 ≤ tall n
reach_pair h n some grown = omega (arith, reach h 1 n some (omega (arith, grown)) (omega arith) (omega arith), digits_one)

equal_self : (o : Ordering) → o ≡ ordering_reverse o → o ≡ Equal
equal_self Less h = cc
equal_self Equal h = refl
equal_self Greater h = cc

order_self : (k : Plain) → order k k ≡ Equal
order_self k = equal_self (order k k) (order_total.antisymm k k)

behind_self : (m : Plain × Plain) (at : Bool) → behind m.0 at m ≡ at
behind_self m at = rw (order_self m.0) refl

behind_before : (x m : Plain) (at : Bool) → order x m ≡ Less → is_behind at (order m x) ≡ true
behind_before x m at h = let f : order m x ≡ Greater = order_total.antisymm m x ∙ ap ordering_reverse h in rw f refl

some_same : (x m : Plain × Plain) → Some x ≡ Some m → x ≡ m
some_same x m e = cc

-- a key that stands after another is above it
later : (x : Plain) (ms : Pairs) (p : ℕ) (m : Plain × Plain) → slice_get ms p ≡ Some m → AllByRecursion (λ y. order x y ≡ Less) (keys_of ms) → order x m.0 ≡ Less
later x [] zero m g all = absurd (cc)
later x [] (suc p) m g all = absurd (cc)
later x (y ∷ ms) zero m g all = subst (λ (n : Plain × Plain). order x n.0 ≡ Less) (some_same y m g) all.0
later x (y ∷ ms) (suc p) m g all = later x ms p m g all.1

none_later : (x : Plain) (at : Bool) (ms : Pairs) → AllByRecursion (λ y. order x y ≡ Less) (keys_of ms) → NoneBehind x at ms
none_later x at [] all = tt
none_later x at (m ∷ ms) all = (rw (all.0) refl, none_later x at ms all.1)

module _ (k : Plain) (at : Bool) where
  record Cuts (ms : Pairs) : Type 0 where
    pub place : ℕ
    pub is : IsCut k at ms place

  cuts_at : (b : Bool) (m : Plain × Plain) (ms : Pairs) → behind k at m ≡ b → AreRising (m ∷ ms) → Cuts ms → Cuts (m ∷ ms)
  cuts_at true m ms h up rest = record { place = suc rest.place; is = (h, rest.is) }
  cuts_at false m ms h up rest = record { place = zero; is = none_rising k at (m ∷ ms) up h }

  cuts : (ms : Pairs) → AreRising ms → Cuts ms
  unfolding IsStrictlySortedBy
  cuts [] up = record { place = zero; is = tt }
  cuts (m ∷ ms) up = cuts_at (behind k at m) m ms refl up (cuts ms up.1)

  -- the number of keys behind is the place of the cut
  cut_found : (ms : Pairs) (n : ℕ) → AreRising ms → n ≡ count_by (behind k at) ms → IsCut k at ms n
  cut_found ms n up e = let c = cuts ms up in subst (IsCut k at ms) (sym (e ∙ count_cut k at ms c.place c.is)) c.is

module _ (l : Plain) (lo : Bool) (h : Plain) (ho : Bool) where
  abbrev inside : Pairs → List Plain
  inside ms = range_of l lo h ho ms

  keep : (x : Plain × Plain) (xs : Pairs) → behind l lo x ≡ false → behind h (not ho) x ≡ true → inside (x ∷ xs) ≡ x.1 ∷ inside xs
  keep x xs a b = rw (a, b) refl

  skip_low : (x : Plain × Plain) (xs : Pairs) → behind l lo x ≡ true → inside (x ∷ xs) ≡ inside xs
  skip_low x xs a = rw a refl

  skip_high : (x : Plain × Plain) (xs : Pairs) → behind h (not ho) x ≡ false → inside (x ∷ xs) ≡ inside xs
  skip_high x xs b = rw (and_false (not (behind l lo x)) (behind h (not ho) x) b) refl

  none_inside : (ms : Pairs) → NoneBehind h (not ho) ms → inside ms ≡ []
  none_inside [] all = refl
  none_inside (x ∷ xs) all = skip_high x xs all.0 ∙ none_inside xs all.1

  -- not more than lie before the high end, and just as many where all are past the low one
  few_at : (b : Bool) (x : Plain × Plain) (xs : Pairs) (e : ℕ) → behind l lo x ≡ b → behind h (not ho) x ≡ true → length (inside xs) ≤ e → length (inside (x ∷ xs)) ≤ suc e
  few_at true x xs e a b less = omega (arith, ap length (skip_low x xs a), less)
  few_at false x xs e a b less = omega (arith, ap length (keep x xs a b), less)

  few_inside : (ms : Pairs) (e : ℕ) → IsCut h (not ho) ms e → length (inside ms) ≤ e
  few_inside ms zero c = omega (arith, ap length (none_inside ms c))
  few_inside [] (suc e) c = absurd c
  few_inside (x ∷ xs) (suc e) c = few_at (behind l lo x) x xs e refl c.0 (few_inside xs e c.1)

  all_inside : (ms : Pairs) (e : ℕ) → NoneBehind l lo ms → IsCut h (not ho) ms e → length (inside ms) ≡ e
  all_inside ms zero a c = ap length (none_inside ms c)
  all_inside [] (suc e) a c = absurd c
  all_inside (x ∷ xs) (suc e) a c = omega (arith, ap length (keep x xs a.0 c.0), all_inside xs e a.1 c.1)

  -- nor more than stand past the low end
  left_at : (b : Bool) (x : Plain × Plain) (xs : Pairs) → behind h (not ho) x ≡ b → behind l lo x ≡ false → length (inside (x ∷ xs)) ≤ length (inside xs) + 1
  left_at true x xs b a = omega (arith, ap length (keep x xs a b))
  left_at false x xs b a = omega (arith, ap length (skip_high x xs b))

  left_inside : (ms : Pairs) (b : ℕ) → IsCut l lo ms b → length (inside ms) + b ≤ length ms
  left_inside [] zero c = omega arith
  left_inside [] (suc b) c = absurd c
  left_inside (x ∷ xs) zero c = omega (arith, left_at (behind h (not ho) x) x xs refl c.0, left_inside xs zero c.1)
  left_inside (x ∷ xs) (suc b) c = omega (arith, ap length (skip_low x xs c.0), left_inside xs b c.1)

both_same : (l : Plain) (lo : Bool) (k h : Plain) (ho : Bool) (ms : Pairs) → NoneBehind l lo ms → NoneBehind k false ms → AllByRecursion (λ m. lies_within l lo h ho m ≡ lies_within k false h ho m) ms
both_same l lo k h ho [] a b = tt
both_same l lo k h ho (x ∷ xs) a b = (ap (λ t. not t && behind h (not ho) x) (a.0 ∙ sym b.0), both_same l lo k h ho xs a.1 b.1)

both_inside : (l : Plain) (lo : Bool) (k h : Plain) (ho : Bool) (ms : Pairs) → NoneBehind l lo ms → NoneBehind k false ms → range_of l lo h ho ms ≡ range_of k false h ho ms
both_inside l lo k h ho ms a b = ap (map (λ (m : Plain × Plain). m.1)) (filter_same (lies_within l lo h ho) (lies_within k false h ho) ms (both_same l lo k h ho ms a b))

module _ (l : Plain) (lo : Bool) (h : Plain) (ho : Bool) where
  -- from the first on
  from_first : (x : Plain × Plain) (xs : Pairs) → AreRising (x ∷ xs) → NoneBehind l lo (x ∷ xs) → range_of l lo h ho (x ∷ xs) ≡ range_of x.0 false h ho (x ∷ xs)
  from_first x xs up a = both_inside l lo x.0 h ho (x ∷ xs) a (none_rising x.0 false (x ∷ xs) up (behind_self x false))

  -- from a later one on
  from_later : (b : Bool) (x : Plain × Plain) (xs : Pairs) (f : ℕ) (m : Plain × Plain) → behind h (not ho) x ≡ b → AreRising (x ∷ xs) → behind l lo x ≡ false → behind m.0 false x ≡ true
      → drop f (range_of l lo h ho xs) ≡ range_of m.0 false h ho xs → drop (suc f) (range_of l lo h ho (x ∷ xs)) ≡ range_of m.0 false h ho (x ∷ xs)
  from_later true x xs f m b up a past rest = ap (drop (suc f)) (keep l lo h ho x xs a b) ∙ rest ∙ sym (skip_low m.0 false h ho x xs past)
  from_later false x xs f m b up a past rest =
      let none : NoneBehind h (not ho) (x ∷ xs) = none_rising h (not ho) (x ∷ xs) up b in
      ap (drop (suc f)) (none_inside l lo h ho (x ∷ xs) none) ∙ sym (none_inside m.0 false h ho (x ∷ xs) none)

  from_cut : (ms : Pairs) (b f p : ℕ) (m : Plain × Plain) → AreRising ms → IsCut l lo ms b → p ≡ b + f → slice_get ms p ≡ Some m → drop f (range_of l lo h ho ms) ≡ range_of m.0 false h ho ms
  unfolding IsStrictlySortedBy
  from_cut [] b f zero m up c e g = absurd (cc)
  from_cut [] b f (suc p) m up c e g = absurd (cc)
  from_cut (x ∷ xs) (suc b) f zero m up c e g = absurd (omega arith)
  from_cut (x ∷ xs) (suc b) f (suc p) m up c e g =
      ap (drop f) (skip_low l lo h ho x xs c.0) ∙ from_cut xs b f p m up.1 c.1 (omega arith) g
      ∙ sym (skip_low m.0 false h ho x xs (behind_before x.0 m.0 false (later x.0 xs p m g up.0)))
  from_cut (x ∷ xs) zero zero zero m up c e g =
      subst (λ (k : Plain × Plain). range_of l lo h ho (x ∷ xs) ≡ range_of k.0 false h ho (x ∷ xs)) (some_same x m g) (from_first x xs up c)
  from_cut (x ∷ xs) zero zero (suc p) m up c e g = absurd (omega arith)
  from_cut (x ∷ xs) zero (suc f) zero m up c e g = absurd (omega arith)
  from_cut (x ∷ xs) zero (suc f) (suc p) m up c e g =
      from_later (behind h (not ho) x) x xs f m refl up c.0 (behind_before x.0 m.0 false (later x.0 xs p m g up.0)) (from_cut xs zero f p m up.1 c.1 (omega arith) g)

  -- back from the last of them
  back_first : (b : Bool) (x : Plain × Plain) (xs : Pairs) (f : ℕ) → behind l lo x ≡ b → AreRising (x ∷ xs) → behind h (not ho) x ≡ true → IsCut h (not ho) xs f
      → drop f (reverse (range_of l lo h ho (x ∷ xs))) ≡ reverse (range_of l lo x.0 false (x ∷ xs))
  unfolding IsStrictlySortedBy
  back_first true x xs f a up b c =
      ap (λ t. drop f (reverse t)) (skip_low l lo h ho x xs a)
      ∙ drop_all f (reverse (range_of l lo h ho xs)) (omega (arith, length-reverse (range_of l lo h ho xs), few_inside l lo h ho xs f c))
      ∙ sym (ap reverse (skip_low l lo x.0 false x xs a ∙ none_inside l lo x.0 false xs (none_later x.0 true xs up.0)))
  back_first false x xs f a up b c =
      let rest = range_of l lo h ho xs in
      let as_many : length (reverse rest) ≡ f = length-reverse rest ∙ all_inside l lo h ho xs f (none_rising l lo (x ∷ xs) up a).1 c in
      ap (λ t. drop f (reverse t)) (keep l lo h ho x xs a b)
      ∙ ap (drop f) (reverse-append (x.1 ∷ []) rest)
      ∙ drop-append-le f (reverse rest) (x.1 ∷ []) (omega (arith, as_many))
      ∙ ap (λ t. t ++ (x.1 ∷ [])) (drop_all f (reverse rest) (omega (arith, as_many)))
      ∙ sym (ap reverse (keep l lo x.0 false x xs a (behind_self x true) ∙ ap (λ t. x.1 ∷ t) (none_inside l lo x.0 false xs (none_later x.0 true xs up.0))))

  back_later : (b : Bool) (x : Plain × Plain) (xs : Pairs) (e f : ℕ) (m : Plain × Plain) → behind l lo x ≡ b → AreRising (x ∷ xs) → behind h (not ho) x ≡ true → IsCut h (not ho) xs e → f ≤ e → behind m.0 true x ≡ true
      → drop f (reverse (range_of l lo h ho xs)) ≡ reverse (range_of l lo m.0 false xs) → drop f (reverse (range_of l lo h ho (x ∷ xs))) ≡ reverse (range_of l lo m.0 false (x ∷ xs))
  back_later true x xs e f m a up b c less past rest =
      ap (λ t. drop f (reverse t)) (skip_low l lo h ho x xs a) ∙ rest ∙ sym (ap reverse (skip_low l lo m.0 false x xs a))
  back_later false x xs e f m a up b c less past rest =
      let tail = range_of l lo h ho xs in
      let as_many : length (reverse tail) ≡ e = length-reverse tail ∙ all_inside l lo h ho xs e (none_rising l lo (x ∷ xs) up a).1 c in
      ap (λ t. drop f (reverse t)) (keep l lo h ho x xs a b)
      ∙ ap (drop f) (reverse-append (x.1 ∷ []) tail)
      ∙ drop-append-le f (reverse tail) (x.1 ∷ []) (omega (arith, as_many, less))
      ∙ ap (λ t. t ++ (x.1 ∷ [])) rest
      ∙ sym (ap reverse (keep l lo m.0 false x xs a past) ∙ reverse-append (x.1 ∷ []) (range_of l lo m.0 false xs))

  back_cut : (ms : Pairs) (e p f : ℕ) (m : Plain × Plain) → AreRising ms → IsCut h (not ho) ms e → e ≡ suc (p + f) → slice_get ms p ≡ Some m → drop f (reverse (range_of l lo h ho ms)) ≡ reverse (range_of l lo m.0 false ms)
  unfolding IsStrictlySortedBy
  back_cut ms zero p f m up c q g = absurd (omega arith)
  back_cut [] (suc e) p f m up c q g = absurd c
  back_cut (x ∷ xs) (suc e) zero f m up c q g =
      let same : e ≡ f = omega arith in
      subst (λ (k : Plain × Plain). drop f (reverse (range_of l lo h ho (x ∷ xs))) ≡ reverse (range_of l lo k.0 false (x ∷ xs))) (some_same x m g)
      (back_first (behind l lo x) x xs f refl up c.0 (subst (IsCut h (not ho) xs) same c.1))
  back_cut (x ∷ xs) (suc e) (suc p) f m up c q g =
      back_later (behind l lo x) x xs e f m refl up c.0 c.1 (omega arith) (behind_before x.0 m.0 true (later x.0 xs p m g up.0)) (back_cut xs e p f m up.1 c.1 (omega arith) g)

take_none : (n : ℕ) → take {A = Plain} n [] ≡ []
take_none zero = refl
take_none (suc n) = refl

pub as_many_back : (n : ℕ) (vs : List Plain) → length (take n (reverse vs)) ≡ length (take n vs)
as_many_back n vs = length-take n (reverse vs) ∙ ap (min n) (length-reverse vs) ∙ sym (length-take n vs)

get_none : (ms : Pairs) (p : ℕ) → slice_get ms p ≡ None → length ms ≤ p
get_none [] p g = omega arith
get_none (x ∷ xs) zero g = absurd (cc)
get_none (x ∷ xs) (suc p) g = omega (arith, get_none xs p g)

module _ (l : Plain) (lo : Bool) (h : Plain) (ho : Bool) (ms : Pairs) (up : AreRising ms) (n from most : ℕ) where
  -- the values from a place of a range on are those from the key there on
  pub from_there : n ≡ count_by (behind l lo) ms → (place : ℕ) (m : Plain × Plain) → place ≡ n + from → slice_get ms place ≡ Some m
      → take most (range_of m.0 false h ho ms) ≡ take most (drop from (range_of l lo h ho ms))
  from_there e place m f g = ap (take most) (sym (from_cut l lo h ho ms n from place m up (cut_found l lo ms n up e) f g))

  pub from_past : n ≡ count_by (behind l lo) ms → length ms ≤ n + from → [] ≡ take most (drop from (range_of l lo h ho ms))
  from_past e past =
      sym (ap (take most) (drop_all from (range_of l lo h ho ms) (omega (arith, past, left_inside l lo h ho ms n (cut_found l lo ms n up e)))) ∙ take_none most)

  pub from_none : n ≡ count_by (behind l lo) ms → (place : ℕ) → place ≡ n + from → slice_get ms place ≡ None → [] ≡ take most (drop from (range_of l lo h ho ms))
  from_none e place f g = from_past e (omega (arith, f, get_none ms place g))

  -- and against the order those to the key there
  pub back_there : n ≡ count_by (behind h (not ho)) ms → (place : ℕ) (m : Plain × Plain) → n ≡ suc (place + from) → slice_get ms place ≡ Some m
      → take most (reverse (range_of l lo m.0 false ms)) ≡ take most (drop from (reverse (range_of l lo h ho ms)))
  back_there e place m f g = ap (take most) (sym (back_cut l lo h ho ms n place from m up (cut_found h (not ho) ms n up e) f g))

  pub back_past : n ≡ count_by (behind h (not ho)) ms → n ≤ from → [] ≡ take most (drop from (reverse (range_of l lo h ho ms)))
  back_past e past =
      sym (ap (take most) (drop_all from (reverse (range_of l lo h ho ms)) (omega (arith, past, length-reverse (range_of l lo h ho ms), few_inside l lo h ho ms n (cut_found h (not ho) ms n up e)))) ∙ take_none most)

  -- the place is there
  fits_cut : (k : Plain) (at : Bool) (xs : Pairs) (e : ℕ) → IsCut k at xs e → e ≤ length xs
  fits_cut k at xs zero c = omega arith
  fits_cut k at [] (suc e) c = absurd c
  fits_cut k at (x ∷ xs) (suc e) c = omega (arith, fits_cut k at xs e c.1)

  pub back_none : n ≡ count_by (behind h (not ho)) ms → (place : ℕ) → place < n → slice_get ms place ≡ None → ⊥
  back_none e place less g = absurd (omega (arith, less, get_none ms place g, fits_cut h (not ho) ms n (cut_found h (not ho) ms n up e)))
