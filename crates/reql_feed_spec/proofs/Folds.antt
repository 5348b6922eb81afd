-- Folding a feed's items over its value gives its next value.
use Rattle.std.proofs.Common.{◌≡◌, ℕ, ◌+◌, ◌-◌, ◌≤◌, List, [], ◌∷◌, Option, Some, None, Bool, true, false, cond, not, refl, sym, ap, ◌∙◌, arith, ◌⊎◌, inl, inr, map}
use Rattle.std.specs.List.{AllByRecursion}
use Rattle.reql_datum.specs.Plain.{Plain, low, array, boolean, null, number, object, binary, time, text, high}
use Rattle.reql_bag.specs.Bag.{one, times, IsRising, less_all}
use Rattle.reql_feed_spec.specs.Items.{Difference, of_values, present, point_items, paired, range_items}
use Rattle.reql_feed_spec.specs.Shown.{Shows, shown, read, or_null, seen, seen_value}
use Rattle.reql_feed_spec.specs.Fold.{point_fold, bag_fold, leaving, coming, without_nulls}
use Rattle.reql_bag.proofs.Bags.{same_is, one_other, same_or, times_less_all, times_without, times_placed}
use Rattle.reql_bag.proofs.Rising.{UpTo, rising_placed, rising_without, by_counts}
use Rattle.reql_feed_spec.proofs.Readback.{reads}
use Rattle.reql_rules.specs.Types.{is_null, same}

-- printed and read again
abbrev pub heard : Shows → List Difference → List Difference
heard s ds = map (λ d. read (shown s d)) ds

pub heard_is : (s : Shows) (ds : List Difference) → heard s ds ≡ map (seen s.offsets) ds
heard_is s [] = refl
heard_is s (d ∷ ds) = rw (reads s d, heard_is s ds) refl

-- ---- point
pub point_seen : (w : Plain) → or_null (seen_value (present w)) ≡ w
point_seen low = refl
point_seen (array vs) = refl
point_seen (boolean b) = refl
point_seen null = refl
point_seen (number n) = refl
point_seen (object ms) = refl
point_seen (binary s) = refl
point_seen (time t) = refl
point_seen (text s) = refl
point_seen high = refl

point_at : (b : Bool) (offsets : Bool) (v w : Plain) → same v w ≡ b → point_fold v (map (seen offsets) (cond b [] (of_values (present v) (present w) ∷ []))) ≡ w
point_at true offsets v w is = same_is v w is
point_at false offsets v w is = point_seen w

pub point_folds : (s : Shows) (v w : Plain) → point_fold v (heard s (point_items v w)) ≡ w
point_folds s v w = rw (heard_is s (point_items v w)) (point_at (same v w) s.offsets v w refl)

-- ---- bags
-- how often v is what left, and what came
abbrev pub one_of : Plain → Option Plain → ℕ
one_of v None = 0
one_of v (Some x) = one v x

abbrev pub lost : Plain → List Difference → ℕ
lost v [] = 0
lost v (d ∷ ds) = one_of v d.old + lost v ds

abbrev pub won : Plain → List Difference → ℕ
won v [] = 0
won v (d ∷ ds) = one_of v d.new + won v ds

pub times_leaving : (v : Plain) (o : Option Plain) (vs : List Plain) → times v (leaving o vs) ≡ times v vs - one_of v o
times_leaving v None vs = omega arith
times_leaving v (Some x) vs = times_without v x vs

pub times_coming : (v : Plain) (o : Option Plain) (vs : List Plain) → times v (coming o vs) ≡ one_of v o + times v vs
times_coming v None vs = omega arith
times_coming v (Some x) vs = times_placed v x vs

pub rising_leaving : (o : Option Plain) (vs : List Plain) → IsRising vs → IsRising (leaving o vs)
rising_leaving None vs up = up
rising_leaving (Some x) vs up = rising_without x vs up

pub rising_coming : (o : Option Plain) (vs : List Plain) → IsRising vs → IsRising (coming o vs)
rising_coming None vs up = up
rising_coming (Some x) vs up = rising_placed x vs up

pub rising_bag_fold : (vs : List Plain) (ds : List Difference) → IsRising vs → IsRising (bag_fold vs ds)
rising_bag_fold vs [] up = up
rising_bag_fold vs (d ∷ ds) up = rising_bag_fold (coming d.new (leaving d.old vs)) ds (rising_coming d.new (leaving d.old vs) (rising_leaving d.old vs up))

pub times_bag_fold : (vs : List Plain) (ds : List Difference) → ((v : Plain) → lost v ds ≤ times v vs) → (v : Plain) → times v (bag_fold vs ds) + lost v ds ≡ times v vs + won v ds
times_bag_fold vs [] fits v = refl
times_bag_fold vs (d ∷ ds) fits v =
    let next : List Plain = coming d.new (leaving d.old vs) in
    let counts : (u : Plain) → times u next ≡ one_of u d.new + (times u vs - one_of u d.old) =
    λ u. omega (arith, times_coming u d.new (leaving d.old vs), times_leaving u d.old vs) in
    let rest = times_bag_fold next ds (λ u. omega (arith, counts u, fits u)) v in
    omega (arith, rest, counts v, fits v)

-- ---- nulls
pub null_is : (v : Plain) → is_null v ≡ true → v ≡ null
null_is low h = absurd (cc (h))
null_is (array vs) h = absurd (cc (h))
null_is (boolean b) h = absurd (cc (h))
null_is null h = refl
null_is (number n) h = absurd (cc (h))
null_is (object ms) h = absurd (cc (h))
null_is (binary s) h = absurd (cc (h))
null_is (time t) h = absurd (cc (h))
null_is (text s) h = absurd (cc (h))
null_is high h = absurd (cc (h))

kept_at : (b c : Bool) (v x : Plain) (xs rest : List Plain) → is_null x ≡ b → is_null v ≡ c → (v ≡ x) ⊎ (same v x ≡ false) → times v rest ≡ cond c 0 (times v xs) → times v (cond (not b) (x ∷ rest) rest) ≡ cond c 0 (one v x + times v xs)
kept_at true true v x xs rest isx isv eq h = h
kept_at true false v x xs rest isx isv (inl e) h = absurd (let f : is_null v ≡ is_null x = ap is_null e in cc (f, isx, isv))
kept_at true false v x xs rest isx isv (inr ne) h = omega (arith, one_other v x ne, h)
kept_at false true v x xs rest isx isv (inl e) h = absurd (let f : is_null v ≡ is_null x = ap is_null e in cc (f, isx, isv))
kept_at false true v x xs rest isx isv (inr ne) h = omega (arith, one_other v x ne, h)
kept_at false false v x xs rest isx isv eq h = omega (arith, h)

nothing_at : (b : Bool) → times null [] ≡ cond b 0 0
nothing_at true = refl
nothing_at false = refl

pub times_without_nulls : (v : Plain) (xs : List Plain) → times v (without_nulls xs) ≡ cond (is_null v) 0 (times v xs)
times_without_nulls v [] = nothing_at (is_null v)
times_without_nulls v (x ∷ xs) = kept_at (is_null x) (is_null v) v x xs (without_nulls xs) refl refl (same_or v x) (times_without_nulls v xs)

all_kept_at : (b : Bool) (P : Plain → Type 0) (x : Plain) (rest : List Plain) → P x → AllByRecursion P rest → AllByRecursion P (cond b (x ∷ rest) rest)
all_kept_at true P x rest px all = (px, all)
all_kept_at false P x rest px all = all

all_kept : (P : Plain → Type 0) (xs : List Plain) → AllByRecursion P xs → AllByRecursion P (without_nulls xs)
all_kept P [] all = tt
all_kept P (x ∷ xs) all = all_kept_at (not (is_null x)) P x (without_nulls xs) all.0 (all_kept P xs all.1)

rising_kept_at : (b : Bool) (x : Plain) (rest : List Plain) → AllByRecursion (λ y. UpTo x y) rest → IsRising rest → IsRising (cond b (x ∷ rest) rest)
rising_kept_at true x rest all up = (all, up)
rising_kept_at false x rest all up = up

pub rising_without_nulls : (xs : List Plain) → IsRising xs → IsRising (without_nulls xs)
rising_without_nulls [] up = tt
rising_without_nulls (x ∷ xs) up = rising_kept_at (not (is_null x)) x (without_nulls xs) (all_kept (λ y. UpTo x y) xs up.0) (rising_without_nulls xs up.1)

-- ---- what left and what came, in pairs
none_at : (b : Bool) (v x : Plain) (n : ℕ) → one_of v (cond b None (Some x)) + n ≡ cond (not b) (one v x + n) n
none_at true v x n = omega arith
none_at false v x n = refl

push_at : (b : Bool) (v x : Plain) (rest : List Plain) → times v (cond b (x ∷ rest) rest) ≡ cond b (one v x + times v rest) (times v rest)
push_at true v x rest = refl
push_at false v x rest = refl

pub seen_one : (v x : Plain) (xs : List Plain) → one_of v (seen_value (Some x)) + times v (without_nulls xs) ≡ times v (without_nulls (x ∷ xs))
seen_one v x xs = none_at (is_null x) v x (times v (without_nulls xs)) ∙ sym (push_at (not (is_null x)) v x (without_nulls xs))

pub lost_paired : (offsets : Bool) (v : Plain) (os ns : List Plain) → lost v (map (seen offsets) (paired os ns)) ≡ times v (without_nulls os)
lost_paired offsets v [] [] = refl
lost_paired offsets v [] (n ∷ ns) = omega (arith, lost_paired offsets v [] ns)
lost_paired offsets v (o ∷ os) [] = omega (arith, lost_paired offsets v os [], seen_one v o os)
lost_paired offsets v (o ∷ os) (n ∷ ns) = omega (arith, lost_paired offsets v os ns, seen_one v o os)

pub won_paired : (offsets : Bool) (v : Plain) (os ns : List Plain) → won v (map (seen offsets) (paired os ns)) ≡ times v (without_nulls ns)
won_paired offsets v [] [] = refl
won_paired offsets v [] (n ∷ ns) = omega (arith, won_paired offsets v [] ns, seen_one v n ns)
won_paired offsets v (o ∷ os) [] = omega (arith, won_paired offsets v os [])
won_paired offsets v (o ∷ os) (n ∷ ns) = omega (arith, won_paired offsets v os ns, seen_one v n ns)

drop_at : (b : Bool) (m n k : ℕ) → k ≡ m - n → cond b 0 k ≡ cond b 0 m - cond b 0 n
drop_at true m n k h = omega arith
drop_at false m n k h = h

pub times_rest : (v : Plain) (xs ys : List Plain) → times v (without_nulls (less_all xs ys)) ≡ times v (without_nulls xs) - times v (without_nulls ys)
times_rest v xs ys =
    rw (times_without_nulls v (less_all xs ys), times_without_nulls v xs, times_without_nulls v ys) (drop_at (is_null v) (times v xs) (times v ys) (times v (less_all xs ys)) (times_less_all v xs ys))

pub range_folds : (s : Shows) (vs ws : List Plain) → IsRising vs → IsRising ws → bag_fold (without_nulls vs) (heard s (range_items vs ws)) ≡ without_nulls ws
range_folds s vs ws up vp =
    let ds : List Difference = map (seen s.offsets) (range_items vs ws) in
    let out : (v : Plain) → lost v ds ≡ times v (without_nulls vs) - times v (without_nulls ws) =
    λ v. lost_paired s.offsets v (less_all vs ws) (less_all ws vs) ∙ times_rest v vs ws in
    let into : (v : Plain) → won v ds ≡ times v (without_nulls ws) - times v (without_nulls vs) =
    λ v. won_paired s.offsets v (less_all vs ws) (less_all ws vs) ∙ times_rest v ws vs in
    rw (heard_is s (range_items vs ws))
    (by_counts (bag_fold (without_nulls vs) ds) (without_nulls ws) (rising_bag_fold (without_nulls vs) ds (rising_without_nulls vs up)) (rising_without_nulls ws vp)
    (λ v. let all = times_bag_fold (without_nulls vs) ds (λ u. omega (arith, out u)) v in omega (arith, all, out v, into v)))
