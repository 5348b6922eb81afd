-- Lists that rise with repeats: what keeps them rising, and that their counts tell them.
use Rattle.std.proofs.Common.{◌≡◌, List, [], ◌∷◌, Bool, true, false, cond, if◌then◌else◌, refl, sym, ap, ◌∙◌, arith, ◌⊎◌, inl, inr, Ordering, Less, Equal, Greater}
use Rattle.std.specs.Ordering.{is_eq, is_lt, ordering_reverse}
use Rattle.std.specs.List.{AllByRecursion}
use Rattle.reql_datum.specs.Plain.{Plain}
use Rattle.reql_datum.specs.Order.{order}
use Rattle.reql_datum.specs.Total.{order_total}
use Rattle.reql_bag.specs.Bag.{one, times, IsRising, in_order, without_one, less_all}
use Rattle.reql_rules.specs.Types.{same}
use Rattle.reql_rules.specs.Sorting.{into_place}
use Rattle.reql_bag.proofs.Bags.{same_is, one_itself, one_other, times_sorted}

-- b is not below a
abbrev pub UpTo : Plain → Plain → Type 0
UpTo a b = is_lt (order b a) ≡ false

not_less : (o : Ordering) → is_lt o ≡ false → o ≡ Less → Unit {0} → Greater ≡ Less
not_less Less h e u = absurd (cc (h))
not_less Equal h e u = absurd (cc (e))
not_less Greater h e u = e

pub flip_less : (a b : Plain) → order a b ≡ Greater → order b a ≡ Less
flip_less a b h = order_total.antisymm b a ∙ ap ordering_reverse h

flip_greater : (a b : Plain) → order a b ≡ Less → order b a ≡ Greater
flip_greater a b h = order_total.antisymm b a ∙ ap ordering_reverse h

pub equal_is : (a b : Plain) → order a b ≡ Equal → a ≡ b
equal_is a b h = same_is a b (ap is_eq h)

-- the cases of two documents
order_cases : (o : Ordering) → ((o ≡ Less) ⊎ (o ≡ Equal)) ⊎ (o ≡ Greater)
order_cases Less = inl (inl refl)
order_cases Equal = inl (inr refl)
order_cases Greater = inr refl

-- a is up to b where a is below b
pub up_less : (a b : Plain) → order a b ≡ Less → UpTo a b
up_less a b h = rw (flip_greater a b h) refl

up_equal : (a b : Plain) → order a b ≡ Equal → UpTo a b
up_equal a b h = let e : a ≡ b = equal_is a b h in rw (← e) (rw (rw (← e) at h) refl)

up_cases : (a b : Plain) (o : Ordering) → order b a ≡ o → is_lt o ≡ false → (order a b ≡ Less) ⊎ (a ≡ b)
up_cases a b Less h off = absurd (cc (off))
up_cases a b Equal h off = inr (sym (equal_is b a h))
up_cases a b Greater h off = inl (flip_less b a h)

pub up_trans : (a b c : Plain) → UpTo a b → UpTo b c → UpTo a c
up_trans a b c h k =
    elim (up_cases a b (order b a) refl h) [
      | inl below ↦ elim (up_cases b c (order c b) refl k) [
        | inl next ↦ up_less a c (order_total.trans a b c below next)
        | inr e ↦ rw (← e) h
      ]
      | inr e ↦ rw e k
    ]

pub all_up : (a b : Plain) (xs : List Plain) → UpTo a b → AllByRecursion (λ y. UpTo b y) xs → AllByRecursion (λ y. UpTo a y) xs
all_up a b [] h all = tt
all_up a b (x ∷ xs) h all = (up_trans a b x h all.0, all_up a b xs h all.1)

-- ---- what keeps a list rising
above_at : (b : Bool) (P : Plain → Type 0) (v x : Plain) (xs rest : List Plain) → P v → P x → AllByRecursion P xs → AllByRecursion P rest → AllByRecursion P (if b then x ∷ rest else v ∷ x ∷ xs)
above_at true P v x xs rest pv px all on = (px, on)
above_at false P v x xs rest pv px all on = (pv, (px, all))

above_placed : (P : Plain → Type 0) (v : Plain) (xs : List Plain) → P v → AllByRecursion P xs → AllByRecursion P (into_place order v xs)
above_placed P v [] pv all = (pv, tt)
above_placed P v (x ∷ xs) pv all = above_at (is_lt (order x v)) P v x xs (into_place order v xs) pv all.0 all.1 (above_placed P v xs pv all.1)

less_is : (o : Ordering) → is_lt o ≡ true → o ≡ Less
less_is Less h = refl
less_is Equal h = cc
less_is Greater h = cc

rising_at : (b : Bool) (v x : Plain) (xs : List Plain) → is_lt (order x v) ≡ b → IsRising (x ∷ xs) → IsRising (into_place order v xs) → IsRising (if b then x ∷ into_place order v xs else v ∷ x ∷ xs)
rising_at true v x xs is up on = (above_placed (λ y. UpTo x y) v xs (up_less x v (less_is (order x v) is)) up.0, on)
rising_at false v x xs is up on = ((is, all_up v x xs is up.0), up)

pub rising_placed : (v : Plain) (xs : List Plain) → IsRising xs → IsRising (into_place order v xs)
rising_placed v [] up = (tt, tt)
rising_placed v (x ∷ xs) up = rising_at (is_lt (order x v)) v x xs refl up (rising_placed v xs up.1)

pub rising_sorted : (xs : List Plain) → IsRising (in_order xs)
rising_sorted [] = tt
rising_sorted (x ∷ xs) = rising_placed x (in_order xs) (rising_sorted xs)

above_without_at : (b : Bool) (P : Plain → Type 0) (x : Plain) (xs rest : List Plain) → P x → AllByRecursion P xs → AllByRecursion P rest → AllByRecursion P (cond b xs (x ∷ rest))
above_without_at true P x xs rest px all on = all
above_without_at false P x xs rest px all on = (px, on)

above_without : (P : Plain → Type 0) (v : Plain) (xs : List Plain) → AllByRecursion P xs → AllByRecursion P (without_one v xs)
above_without P v [] all = tt
above_without P v (x ∷ xs) all = above_without_at (same v x) P x xs (without_one v xs) all.0 all.1 (above_without P v xs all.1)

rising_without_at : (b : Bool) (x : Plain) (xs rest : List Plain) → IsRising (x ∷ xs) → AllByRecursion (λ y. UpTo x y) rest → IsRising rest → IsRising (cond b xs (x ∷ rest))
rising_without_at true x xs rest up all on = up.1
rising_without_at false x xs rest up all on = (all, on)

pub rising_without : (v : Plain) (xs : List Plain) → IsRising xs → IsRising (without_one v xs)
rising_without v [] up = tt
rising_without v (x ∷ xs) up = rising_without_at (same v x) x xs (without_one v xs) up (above_without (λ y. UpTo x y) v xs up.0) (rising_without v xs up.1)

pub rising_less_all : (xs ys : List Plain) → IsRising xs → IsRising (less_all xs ys)
rising_less_all xs [] up = up
rising_less_all xs (y ∷ ys) up = rising_less_all (without_one y xs) ys (rising_without y xs up)

-- ---- counts tell a rising list
-- what is below all of a list doesn't stand in it
pub absent_below : (x : Plain) (ys : List Plain) → AllByRecursion (λ y. order x y ≡ Less) ys → times x ys ≡ 0
absent_below x [] all = refl
absent_below x (y ∷ ys) all = let off : one x y ≡ 0 = one_other x y (ap is_eq all.0) in omega (arith, off, absent_below x ys all.1)

below_all : (x y : Plain) (ys : List Plain) → order x y ≡ Less → AllByRecursion (λ z. UpTo y z) ys → AllByRecursion (λ z. order x z ≡ Less) ys
below_all x y [] h all = tt
below_all x y (z ∷ zs) h all =
    (elim (up_cases y z (order z y) refl all.0) [ inl next ↦ order_total.trans x y z h next | inr e ↦ rw (← e) h ], below_all x y zs h all.1)

pub lower_absent : (x y : Plain) (ys : List Plain) → order x y ≡ Less → IsRising (y ∷ ys) → times x (y ∷ ys) ≡ 0
lower_absent x y ys h up = absent_below x (y ∷ ys) (h, below_all x y ys h up.0)

firsts : (o : Ordering) (x y : Plain) (xs ys : List Plain) → order x y ≡ o → IsRising (x ∷ xs) → IsRising (y ∷ ys) → ((v : Plain) → times v (x ∷ xs) ≡ times v (y ∷ ys)) → x ≡ y
firsts Less x y xs ys is up vp h = absurd (let none : times x (y ∷ ys) ≡ 0 = lower_absent x y ys is vp in omega (arith, none, h x, one_itself x))
firsts Equal x y xs ys is up vp h = equal_is x y is
firsts Greater x y xs ys is up vp h = absurd (let none : times y (x ∷ xs) ≡ 0 = lower_absent y x xs (flip_less x y is) up in omega (arith, none, h y, one_itself y))

rests : (v x y : Plain) (xs ys : List Plain) → x ≡ y → times v (x ∷ xs) ≡ times v (y ∷ ys) → times v xs ≡ times v ys
rests v x y xs ys e h = let on : one v x ≡ one v y = ap (one v) e in omega (arith, on, h)

join : (x y : Plain) (xs ys : List Plain) → x ≡ y → xs ≡ ys → x ∷ xs ≡ y ∷ ys
join x y xs ys e h = cc

pub by_counts : (xs ys : List Plain) → IsRising xs → IsRising ys → ((v : Plain) → times v xs ≡ times v ys) → xs ≡ ys
by_counts [] [] up vp h = refl
by_counts [] (y ∷ ys) up vp h = absurd (omega (arith, h y, one_itself y))
by_counts (x ∷ xs) [] up vp h = absurd (omega (arith, h x, one_itself x))
by_counts (x ∷ xs) (y ∷ ys) up vp h =
    let e : x ≡ y = firsts (order x y) x y xs ys refl up vp h in
    join x y xs ys e (by_counts xs ys up.1 vp.1 (λ v. rests v x y xs ys e (h v)))

-- a list that rises is its own sorting
pub sorted_rising : (xs : List Plain) → IsRising xs → in_order xs ≡ xs
sorted_rising xs up = by_counts (in_order xs) xs (rising_sorted xs) up (λ v. times_sorted v xs)

-- lists of equal counts have one sorting
pub sorted_counts : (xs ys : List Plain) → ((v : Plain) → times v xs ≡ times v ys) → in_order xs ≡ in_order ys
sorted_counts xs ys h = by_counts (in_order xs) (in_order ys) (rising_sorted xs) (rising_sorted ys) (λ v. times_sorted v xs ∙ h v ∙ sym (times_sorted v ys))
