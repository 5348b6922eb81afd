-- A list of entries with one entry put in: between bounds, in the reverse, sorted, and cut to its first n.
use Rattle.std.proofs.Common.{◌≡◌, ◌≤◌, ◌+◌, ℕ, zero, suc, List, [], ◌∷◌, ◌++◌, length, take, reverse, Option, Some, None, Bool, true, false, ◌&&◌, ◌||◌, if◌then◌else◌, refl, sym, ap, subst, ◌∙◌, arith, append_assoc, ◌⊎◌, inl, inr}
use Rattle.std.specs.Cmp.{IsTotalOrder, IsStrictWeakOrder, then_total, on_total}
use Rattle.std.specs.List.{insert, filter}
use Rattle.std.specs.Ordering.{is_lt}
use Rattle.std.proofs.lemmas.List.{reverse-append}
use Rattle.std.proofs.lemmas.List.Elements.{filter-append}
use Rattle.std.proofs.lemmas.List.Sorted.{ranks_by}
use Rattle.reql_datum.specs.Plain.{Plain, null}
use Rattle.reql_datum.specs.Total.{order_total}
use Rattle.reql_rules.specs.Sorting.{into_place, sorted}
use Rattle.reql_rules.specs.Types.{same, is_null}
use Rattle.reql_rules.proofs.Stable.{Least, Rising, rising_sorted}
use Rattle.reql_term.specs.Views.{Document, Entry, entry_order, directed}
use Rattle.reql_bag.specs.Bag.{one}
use Rattle.reql_bag.proofs.Bags.{same_or, one_itself, one_other}
use Rattle.reql_feed_spec.specs.Items.{same_entry, stands_in}
use Rattle.reql_feed_spec.specs.Moves.{IsOneMove}
use Rattle.reql_feed_spec.proofs.Folds.{null_is}
use Rattle.reql_feed_spec.proofs.Points.{same_flip}

entries_total : IsTotalOrder entry_order
entries_total = then_total (on_total (λ (e : Entry). e.0) order_total) (on_total (λ (e : Entry). e.1.0) order_total)

pub weak : IsStrictWeakOrder (λ (x y : Entry). is_lt (entry_order x y))
weak = ranks_by entries_total (λ (e : Entry). e)

-- ---- with an entry put in
pub record Put (x : Entry) (ks es : List Entry) : Type 0 where
  pub front : List Entry
  pub back : List Entry
  pub small : ks ≡ front ++ back
  pub big : es ≡ front ++ x ∷ back

abbrev pub Near : Option Entry → List Entry → List Entry → Type 0
Near None ks es = es ≡ ks
Near (Some x) ks es = Put x ks es

-- between bounds
abbrev pub kept : (Entry → Bool) → Option Entry → Option Entry
kept w None = None
kept w (Some x) = if w x then Some x else None

filter_at : (b : Bool) (x : Entry) (fr ba ks es : List Entry) → ks ≡ fr ++ ba → es ≡ fr ++ (if b then x ∷ ba else ba) → Near (if b then Some x else None) ks es
filter_at true x fr ba ks es h g = record { front = fr; back = ba; small = h; big = g }
filter_at false x fr ba ks es h g = g ∙ sym h

pub near_filter : (w : Entry → Bool) (o : Option Entry) (ks es : List Entry) → Near o ks es → Near (kept w o) (filter w ks) (filter w es)
near_filter w None ks es h = ap (filter w) h
near_filter w (Some x) ks es p =
    filter_at (w x) x (filter w p.front) (filter w p.back) (filter w ks) (filter w es)
    (ap (filter w) p.small ∙ filter-append w p.front p.back)
    (ap (filter w) p.big ∙ filter-append w p.front (x ∷ p.back))

-- in the reverse
pub near_directed : (down : Bool) (o : Option Entry) (ks es : List Entry) → Near o ks es → Near o (directed down ks) (directed down es)
near_directed false o ks es h = h
near_directed true None ks es h = ap reverse h
near_directed true (Some x) ks es p = record {
  front = reverse p.back;
  back = reverse p.front;
  small = ap reverse p.small ∙ reverse-append p.front p.back;
  big = ap reverse p.big ∙ reverse-append p.front (x ∷ p.back) ∙ ap (λ t. t ++ reverse p.front) (reverse-append (x ∷ []) p.back) ∙ append_assoc (reverse p.back) (x ∷ []) (reverse p.front);
}

-- ---- sorted
put_later : (y x : Entry) (ks es : List Entry) → Put x ks es → Put x (y ∷ ks) (y ∷ es)
put_later y x ks es p = record { front = y ∷ p.front; back = p.back; small = ap (λ t. y ∷ t) p.small; big = ap (λ t. y ∷ t) p.big }

into_put_at : (b : Bool) (e y : Entry) (ys rest : List Entry) → Put e ys rest → Put e (y ∷ ys) (if b then y ∷ rest else e ∷ y ∷ ys)
into_put_at true e y ys rest p = put_later y e ys rest p
into_put_at false e y ys rest p = record { front = []; back = y ∷ ys; small = refl; big = refl }

into_put : (e : Entry) (ks : List Entry) → Put e ks (into_place entry_order e ks)
into_put e [] = record { front = []; back = []; small = refl; big = refl }
into_put e (y ∷ ys) = into_put_at (is_lt (entry_order y e)) e y ys (into_place entry_order e ys) (into_put e ys)

stays_first : (x e : Entry) (ba : List Entry) → Least entry_order weak e ba → is_lt (entry_order e x) ≡ false → into_place entry_order x ba ≡ x ∷ ba
stays_first x e [] l h = refl
stays_first x e (b ∷ bs) l h = rw (weak.chain b e x l.0 h) refl

first_at : (b : Bool) (x e : Entry) (ba : List Entry) → is_lt (entry_order e x) ≡ b → Least entry_order weak e ba → Put e (into_place entry_order x ba) (if b then e ∷ into_place entry_order x ba else x ∷ e ∷ ba)
first_at true x e ba is l = record { front = []; back = into_place entry_order x ba; small = refl; big = refl }
first_at false x e ba is l = record { front = x ∷ []; back = ba; small = stays_first x e ba l is; big = refl }

later_at : (b : Bool) (x e f : Entry) (fr ba small big : List Entry) → Put e small big → Put e (if b then f ∷ small else x ∷ f ∷ (fr ++ ba)) (if b then f ∷ big else x ∷ f ∷ (fr ++ e ∷ ba))
later_at true x e f fr ba small big p = put_later f e small big p
later_at false x e f fr ba small big p = record { front = x ∷ f ∷ fr; back = ba; small = refl; big = refl }

put_into : (x e : Entry) (fr ba : List Entry) → Least entry_order weak e ba → Put e (into_place entry_order x (fr ++ ba)) (into_place entry_order x (fr ++ e ∷ ba))
put_into x e [] ba l = first_at (is_lt (entry_order e x)) x e ba refl l
put_into x e (f ∷ fr) ba l = later_at (is_lt (entry_order f x)) x e f fr ba (into_place entry_order x (fr ++ ba)) (into_place entry_order x (fr ++ e ∷ ba)) (put_into x e fr ba l)

least_after : (e : Entry) (fr ba : List Entry) → Rising entry_order weak (fr ++ e ∷ ba) → Least entry_order weak e ba
least_after e [] ba r = r.0
least_after e (f ∷ fr) ba r = least_after e fr ba r.1

pub sorted_put : (xs : List Entry) (e : Entry) (ys : List Entry) → Put e (sorted entry_order (xs ++ ys)) (sorted entry_order (xs ++ e ∷ ys))
sorted_put [] e ys = into_put e (sorted entry_order ys)
sorted_put (x ∷ xs) e ys =
    let p = sorted_put xs e ys in
    let up : Rising entry_order weak (p.front ++ e ∷ p.back) = subst (Rising entry_order weak) p.big (rising_sorted entry_order weak (xs ++ e ∷ ys)) in
    let q = put_into x e p.front p.back (least_after e p.front p.back up) in
    record {
      front = q.front;
      back = q.back;
      small = ap (into_place entry_order x) p.small ∙ q.small;
      big = ap (into_place entry_order x) p.big ∙ q.big;
    }

-- ---- how often a part of the documents stands
module _ (g : Document → Plain) (k : Plain) where
  abbrev pub held : List Entry → ℕ
  held [] = 0
  held (e ∷ es) = one k (g e.1) + held es

  pub held_append : (es fs : List Entry) → held (es ++ fs) ≡ held es + held fs
  held_append [] fs = omega arith
  held_append (e ∷ es) fs = omega (arith, held_append es fs)

  held_keep : (b : Bool) (e : Entry) (es rest : List Entry) → held rest ≤ held es → held (if b then e ∷ rest else rest) ≤ held (e ∷ es)
  held_keep true e es rest h = omega (arith, h)
  held_keep false e es rest h = omega (arith, h)

  pub held_filter : (w : Entry → Bool) (es : List Entry) → held (filter w es) ≤ held es
  held_filter w [] = omega arith
  held_filter w (e ∷ es) = held_keep (w e) e es (filter w es) (held_filter w es)

  held_reverse : (es : List Entry) → held (reverse es) ≡ held es
  held_reverse [] = refl
  held_reverse (e ∷ es) = ap held (reverse-append (e ∷ []) es) ∙ omega (arith, held_append (reverse es) (e ∷ []), held_reverse es)

  pub held_directed : (down : Bool) (es : List Entry) → held (directed down es) ≡ held es
  held_directed true es = held_reverse es
  held_directed false es = refl

  held_into_at : (b : Bool) (e y : Entry) (ys rest : List Entry) → held rest ≡ one k (g e.1) + held ys → held (if b then y ∷ rest else e ∷ y ∷ ys) ≡ one k (g e.1) + held (y ∷ ys)
  held_into_at true e y ys rest h = omega (arith, h)
  held_into_at false e y ys rest h = refl

  held_into : (e : Entry) (es : List Entry) → held (into_place entry_order e es) ≡ one k (g e.1) + held es
  held_into e [] = refl
  held_into e (y ∷ ys) = held_into_at (is_lt (entry_order y e)) e y ys (into_place entry_order e ys) (held_into e ys)

  pub held_sorted : (es : List Entry) → held (sorted entry_order es) ≡ held es
  held_sorted [] = refl
  held_sorted (e ∷ es) = omega (arith, held_into e (sorted entry_order es), held_sorted es)

  pub held_take : (n : ℕ) (es : List Entry) → held (take n es) ≤ held es
  held_take zero es = omega arith
  held_take (suc n) [] = omega arith
  held_take (suc n) (e ∷ es) = omega (arith, held_take n es)

  pub held_insert : (es : List Entry) (i : ℕ) (x : Entry) → held (insert es i x) ≡ one k (g x.1) + held es
  held_insert es zero x = refl
  held_insert [] (suc i) x = refl
  held_insert (e ∷ es) (suc i) x = omega (arith, held_insert es i x)

abbrev pub key : Document → Plain
key m = m.0

abbrev pub doc : Document → Plain
doc m = m.1

-- ---- what does not stand in a list
pub not_same : (a b : Plain) → one a b ≡ 0 → same a b ≡ false
not_same a b h = elim (same_or a b) [ inl e ↦ absurd (let t : one a b ≡ 1 = rw e (one_itself b) in omega (arith, t, h)) | inr ne ↦ ne ]

one_flip : (a b : Plain) → one a b ≡ 0 → one b a ≡ 0
one_flip a b h = one_other b a (same_flip a b (not_same a b h))

middle_false : (a b c : Bool) → b ≡ false → a && b && c ≡ false
middle_false true true c h = absurd (cc (h))
middle_false true false c h = refl
middle_false false b c h = refl

pub other_key : (x y : Entry) → one x.1.0 y.1.0 ≡ 0 → same_entry x y ≡ false
other_key x y h = middle_false (same x.0 y.0) (same x.1.0 y.1.0) (same x.1.1 y.1.1) (not_same x.1.0 y.1.0 h)

pub stands_not : (x : Entry) (fs : List Entry) → held key x.1.0 fs ≡ 0 → stands_in x fs ≡ false
stands_not x [] h = refl
stands_not x (f ∷ fs) h = rw (other_key x f (omega (arith, h)), stands_not x fs (omega (arith, h))) refl

pub stands_put : (x y : Entry) (ks : List Entry) (i : ℕ) → same_entry x y ≡ false → stands_in x ks ≡ false → stands_in x (insert ks i y) ≡ false
stands_put x y ks zero h g = rw (h, g) refl
stands_put x y [] (suc i) h g = rw h refl
stands_put x y (k ∷ ks) (suc i) h g = let parts = or_false (same_entry x k) (stands_in x ks) g in rw (parts.0, stands_put x y ks i h parts.1) refl
  where
    or_false : (a b : Bool) → a || b ≡ false → (a ≡ false) × (b ≡ false)
    or_false false b r = (refl, r)
    or_false true b r = absurd (cc (r))

no_null_at : (b : Bool) (v : Plain) → is_null v ≡ b → one null v ≡ 0 → b ≡ false
no_null_at true v is h = absurd (let e : v ≡ null = null_is v is in let t : one null v ≡ 1 = rw e (one_itself null) in omega (arith, t, h))
no_null_at false v is h = refl

pub is_no_null : (v : Plain) → one null v ≡ 0 → is_null v ≡ false
is_no_null v h = no_null_at (is_null v) v refl h

-- ---- the first n
pub record At (x : Entry) (core es : List Entry) : Type 0 where
  pub at : ℕ
  pub within : at ≤ length core
  pub is : es ≡ insert core at x

at_later : (f x : Entry) (core es : List Entry) → At x core es → At x (f ∷ core) (f ∷ es)
at_later f x core es p = record { at = suc p.at; within = omega (arith, p.within); is = ap (λ t. f ∷ t) p.is }

take_put : (m : ℕ) (x : Entry) (fr ba : List Entry) → At x (take m (fr ++ ba)) (take (suc m) (fr ++ x ∷ ba)) ⊎ (take (suc m) (fr ++ x ∷ ba) ≡ take (suc m) (fr ++ ba))
take_put m x [] ba = inl record { at = 0; within = omega arith; is = refl }
take_put zero x (f ∷ fr) ba = inr refl
take_put (suc m) x (f ∷ fr) ba =
    elim (take_put m x fr ba) [
      | inl p ↦ inl (at_later f x (take m (fr ++ ba)) (take (suc m) (fr ++ x ∷ ba)) p)
      | inr e ↦ inr (ap (λ t. f ∷ t) e)
    ]

pub record Last (core es : List Entry) : Type 0 where
  pub last : Entry
  pub put : At last core es

take_more : (m : ℕ) (ks : List Entry) → (take (suc m) ks ≡ take m ks) ⊎ Last (take m ks) (take (suc m) ks)
take_more zero [] = inl refl
take_more (suc m) [] = inl refl
take_more zero (k ∷ ks) = inr record { last = k; put = record { at = 0; within = omega arith; is = refl } }
take_more (suc m) (k ∷ ks) =
    elim (take_more m ks) [
      | inl e ↦ inl (ap (λ t. k ∷ t) e)
      | inr p ↦ inr record { last = p.last; put = at_later k p.last (take m ks) (take (suc m) ks) p.put }
    ]

-- ---- one move
pub no_move : (es fs : List Entry) → es ≡ fs → IsOneMove es fs
no_move es fs e = record { kept = es; out = None; into = None; before = refl; after = sym e; out_apart = tt; into_apart = tt }

turned : (es fs : List Entry) → IsOneMove es fs → IsOneMove fs es
turned es fs m = record { kept = m.kept; out = m.into; into = m.out; before = m.after; after = m.before; out_apart = m.into_apart; into_apart = m.out_apart }

-- an entry of a document that is not among those of a list, and is no null
abbrev pub Away : List Entry → Option Entry → Type 0
Away ks None = Unit {0}
Away ks (Some x) = (held key x.1.0 ks ≡ 0) × (is_null x.1.1 ≡ false)

abbrev pub Differ : Option Entry → Option Entry → Type 0
Differ None p = Unit {0}
Differ (Some x) None = Unit {0}
Differ (Some x) (Some y) = (same_entry x y ≡ false) × (same_entry y x ≡ false)

-- a list in which each key stands once at most, and no null
pub record Single (ks : List Entry) : Type 0 where
  pub once : (k : Plain) → held key k ks ≤ 1
  pub full : held doc null ks ≡ 0

-- of two lists with the first n, this one has an entry of its own
exchange_at : (core E F : List Entry) (x y : Entry) (a : At x core E) (b : At y core F) → stands_in x F ≡ false → stands_in y E ≡ false → is_null x.1.1 ≡ false → is_null y.1.1 ≡ false → IsOneMove E F
exchange_at core E F x y a b h g n m = record {
  kept = core;
  out = Some (a.at, x);
  into = Some (b.at, y);
  before = a.is;
  after = b.is;
  out_apart = (a.within, h, n);
  into_apart = (b.within, g, m);
}

both_own : (m : ℕ) (ks E F : List Entry) (x y : Entry) → At x (take m ks) E → At y (take m ks) F → Away ks (Some x) → Away ks (Some y) → Differ (Some x) (Some y) → IsOneMove E F
both_own m ks E F x y a b p q d =
    let core : List Entry = take m ks in
    let no_x : stands_in x core ≡ false = stands_not x core (omega (arith, held_take key x.1.0 m ks, p.0)) in
    let no_y : stands_in y core ≡ false = stands_not y core (omega (arith, held_take key y.1.0 m ks, q.0)) in
    exchange_at core E F x y a b (ap (stands_in x) b.is ∙ stands_put x y core b.at d.0 no_x) (ap (stands_in y) a.is ∙ stands_put y x core a.at d.1 no_y) p.1 q.1

one_own : (m : ℕ) (ks E : List Entry) (x : Entry) → At x (take m ks) E → Away ks (Some x) → Single ks → IsOneMove E (take (suc m) ks)
one_own m ks E x a p s =
    let core : List Entry = take m ks in
    let T : List Entry = take (suc m) ks in
    let no_x : stands_in x T ≡ false = stands_not x T (omega (arith, held_take key x.1.0 (suc m) ks, p.0)) in
    elim (take_more m ks) [
      | inl e ↦ record { kept = core; out = Some (a.at, x); into = None; before = a.is; after = e; out_apart = (a.within, no_x, p.1); into_apart = tt }
      | inr l ↦
          (let z : Entry = l.last in
          let count : (g : Document → Plain) (k : Plain) → held g k T ≡ one k (g z.1) + held g k core = λ g k. ap (held g k) l.put.is ∙ held_insert g k core l.put.at z in
          let far : one x.1.0 z.1.0 ≡ 0 = omega (arith, count key x.1.0, held_take key x.1.0 (suc m) ks, p.0) in
          let alone : held key z.1.0 core ≡ 0 = omega (arith, count key z.1.0, held_take key z.1.0 (suc m) ks, s.once z.1.0, one_itself z.1.0) in
          let real : one null z.1.1 ≡ 0 = omega (arith, count doc null, held_take doc null (suc m) ks, s.full) in
          let no_z : stands_in z E ≡ false = ap (stands_in z) a.is ∙ stands_put z x core a.at (other_key z x (one_flip x.1.0 z.1.0 far)) (stands_not z core alone) in
          exchange_at core E T x z a l.put no_x no_z p.1 (is_no_null z.1.1 real))
    ]

-- the first n of a list with an entry put in: it is among them, or they are those without it
abbrev Own : Option Entry → List Entry → List Entry → Type 0
Own None core es = ⊥
Own (Some x) core es = At x core es

side : (m : ℕ) (o : Option Entry) (ks es : List Entry) → Near o ks es → Own o (take m ks) (take (suc m) es) ⊎ (take (suc m) es ≡ take (suc m) ks)
side m None ks es h = inr (ap (take (suc m)) h)
side m (Some x) ks es p =
    elim (take_put m x p.front p.back) [
      | inl a ↦
          inl record { at = a.at; within = (let e : take m ks ≡ take m (p.front ++ p.back) = ap (take m) p.small in omega (arith, a.within, ap length e)); is = ap (take (suc m)) p.big ∙ a.is ∙ ap (λ t. insert (take m t) a.at x) (sym p.small) }
      | inr e ↦ inr (ap (take (suc m)) p.big ∙ e ∙ ap (take (suc m)) (sym p.small))
    ]

own_move : (m : ℕ) (ks E F : List Entry) (o p : Option Entry) → Own o (take m ks) E → Own p (take m ks) F ⊎ (F ≡ take (suc m) ks) → Away ks o → Away ks p → Differ o p → Single ks → IsOneMove E F
own_move m ks E F None p a b u v d s = absurd a
own_move m ks E F (Some x) None a (inl b) u v d s = absurd b
own_move m ks E F (Some x) (Some y) a (inl b) u v d s = both_own m ks E F x y a b u v d
own_move m ks E F (Some x) p a (inr e) u v d s = subst (λ t. IsOneMove E t) (sym e) (one_own m ks E x a u s)

other_move : (m : ℕ) (ks E F : List Entry) (o p : Option Entry) → E ≡ take (suc m) ks → Own p (take m ks) F ⊎ (F ≡ take (suc m) ks) → Away ks p → Single ks → IsOneMove E F
other_move m ks E F o p e (inr f) v s = no_move E F (e ∙ sym f)
other_move m ks E F o None e (inl b) v s = absurd b
other_move m ks E F o (Some y) e (inl b) v s = subst (λ t. IsOneMove t F) (sym e) (turned F (take (suc m) ks) (one_own m ks F y b v s))

pub moves_one : (n : ℕ) (ks es fs : List Entry) (o p : Option Entry) → Near o ks es → Near p ks fs → Away ks o → Away ks p → Differ o p → Single ks → IsOneMove (take n es) (take n fs)
moves_one zero ks es fs o p h g u v d s = no_move [] [] refl
moves_one (suc m) ks es fs o p h g u v d s =
    elim (side m o ks es h) [
      | inl a ↦ own_move m ks (take (suc m) es) (take (suc m) fs) o p a (side m p ks fs g) u v d s
      | inr e ↦ other_move m ks (take (suc m) es) (take (suc m) fs) o p e (side m p ks fs g) v s
    ]
