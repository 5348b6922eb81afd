-- One walk over two lists that rise gives both differences.
use Rattle.std.proofs.Common.{◌≡◌, List, [], ◌∷◌, ◌++◌, Bool, true, false, cond, refl, sym, ap, ◌∙◌, arith, append_assoc, append-nil, Less, Equal, Greater}
use Rattle.std.specs.Ordering.{is_eq, ordering_reverse}
use Rattle.reql_datum.specs.Plain.{Plain}
use Rattle.reql_datum.specs.Order.{order}
use Rattle.reql_datum.specs.Total.{order_total}
use Rattle.reql_bag.specs.Bag.{one, times, IsRising, without_one, less_all}
use Rattle.reql_rules.specs.Types.{same}
use Rattle.reql_bag.proofs.Bags.{same_is, same_itself}
use Rattle.reql_bag.proofs.Rising.{lower_absent}

not_first : (x y : Plain) (ys : List Plain) → times x (y ∷ ys) ≡ 0 → same x y ≡ false
not_first x y ys h = at (same x y) refl
  where
    at : (b : Bool) → same x y ≡ b → same x y ≡ false
    at true is = absurd (let e : one x y ≡ 1 = rw is refl in omega (arith, e, h))
    at false is = is

other_way : (x y : Plain) → same x y ≡ false → same y x ≡ false
other_way x y off = at (same y x) refl
  where
    at : (b : Bool) → same y x ≡ b → same y x ≡ false
    at true is = absurd (let e : y ≡ x = same_is y x is in let f : same x y ≡ true = rw e (same_itself x) in cc (f, off))
    at false is = is

-- what does not stand in the other list stays
keep_first : (x : Plain) (xs ys : List Plain) → times x ys ≡ 0 → less_all (x ∷ xs) ys ≡ x ∷ less_all xs ys
keep_first x xs [] h = refl
keep_first x xs (y ∷ ys) h =
    let off : same y x ≡ false = other_way x y (not_first x y ys h) in
    rw off (keep_first x (without_one y xs) ys (omega (arith, h)))

stays : (y : Plain) (xs : List Plain) → times y xs ≡ 0 → without_one y xs ≡ xs
stays y [] h = refl
stays y (x ∷ xs) h = rw (not_first y x xs h) (ap (λ t. x ∷ t) (stays y xs (omega (arith, h))))

none_less : (ys : List Plain) → less_all [] ys ≡ []
none_less [] = refl
none_less (y ∷ ys) = none_less ys

-- what was parted, and what is left to be parted, is all
pub record Merges (left came us vs all others : List Plain) : Type 0 where
  pub on_left : left ++ less_all us vs ≡ all
  pub on_came : came ++ less_all vs us ≡ others
  pub rising_us : IsRising us
  pub rising_vs : IsRising vs

pub merges_start : (us vs : List Plain) → IsRising us → IsRising vs → Merges [] [] us vs (less_all us vs) (less_all vs us)
merges_start us vs up vp = record { on_left = refl; on_came = refl; rising_us = up; rising_vs = vp }

at_first : (left rest : List Plain) (x : Plain) → (left ++ x ∷ []) ++ rest ≡ left ++ x ∷ rest
at_first left rest x = append_assoc left (x ∷ []) rest

pub merges_less : (left came us vs all others xs ys : List Plain) (x y : Plain) → us ≡ x ∷ xs → vs ≡ y ∷ ys → order x y ≡ Less → Merges left came us vs all others → Merges (left ++ x ∷ []) came xs vs all others
merges_less left came us vs all others xs ys x y is_us is_vs below m =
    let up : IsRising (x ∷ xs) = rw is_us at m.rising_us in
    let vp : IsRising (y ∷ ys) = rw is_vs at m.rising_vs in
    let none : times x (y ∷ ys) ≡ 0 = lower_absent x y ys below vp in
    let kept : less_all (x ∷ xs) vs ≡ x ∷ less_all xs vs = rw is_vs (keep_first x xs (y ∷ ys) none) in
    let gone : less_all vs (x ∷ xs) ≡ less_all vs xs = rw is_vs (ap (λ t. less_all t xs) (stays x (y ∷ ys) none)) in
    record {
      on_left = at_first left (less_all xs vs) x ∙ ap (λ t. left ++ t) (sym kept) ∙ (rw is_us at m.on_left);
      on_came = ap (λ t. came ++ t) (sym gone) ∙ (rw is_us at m.on_came);
      rising_us = up.1;
      rising_vs = m.rising_vs;
    }

pub merges_turned : (left came us vs all others : List Plain) → Merges left came us vs all others → Merges came left vs us others all
merges_turned left came us vs all others m = record { on_left = m.on_came; on_came = m.on_left; rising_us = m.rising_vs; rising_vs = m.rising_us }

pub merges_greater : (left came us vs all others xs ys : List Plain) (x y : Plain) → us ≡ x ∷ xs → vs ≡ y ∷ ys → order x y ≡ Greater → Merges left came us vs all others → Merges left (came ++ y ∷ []) us ys all others
merges_greater left came us vs all others xs ys x y is_us is_vs above m =
    merges_turned (came ++ y ∷ []) left ys us others all
    (merges_less came left vs us others all ys xs y x is_vs is_us (order_total.antisymm y x ∙ ap ordering_reverse above) (merges_turned left came us vs all others m))

pub merges_equal : (left came us vs all others xs ys : List Plain) (x y : Plain) → us ≡ x ∷ xs → vs ≡ y ∷ ys → order x y ≡ Equal → Merges left came us vs all others → Merges left came xs ys all others
merges_equal left came us vs all others xs ys x y is_us is_vs equal m =
    let up : IsRising (x ∷ xs) = rw is_us at m.rising_us in
    let vp : IsRising (y ∷ ys) = rw is_vs at m.rising_vs in
    let is : same x y ≡ true = ap is_eq equal in
    let e : x ≡ y = same_is x y is in
    let back : same y x ≡ true = rw e (same_itself y) in
    let one_way : less_all (x ∷ xs) (y ∷ ys) ≡ less_all xs ys = ap (λ b. less_all (cond b xs (x ∷ without_one y xs)) ys) back in
    let another : less_all (y ∷ ys) (x ∷ xs) ≡ less_all ys xs = ap (λ b. less_all (cond b ys (y ∷ without_one x ys)) xs) is in
    record {
      on_left = ap (λ t. left ++ t) (sym one_way) ∙ (rw (is_us, is_vs) at m.on_left);
      on_came = ap (λ t. came ++ t) (sym another) ∙ (rw (is_us, is_vs) at m.on_came);
      rising_us = up.1;
      rising_vs = vp.1;
    }

pub merges_left : (left came us vs all others xs : List Plain) (x : Plain) → us ≡ x ∷ xs → vs ≡ [] → Merges left came us vs all others → Merges (left ++ x ∷ []) came xs vs all others
merges_left left came us vs all others xs x is_us is_vs m =
    let up : IsRising (x ∷ xs) = rw is_us at m.rising_us in
    let kept : less_all (x ∷ xs) vs ≡ x ∷ less_all xs vs = rw is_vs refl in
    let gone : less_all vs (x ∷ xs) ≡ less_all vs xs = rw is_vs refl in
    record {
      on_left = at_first left (less_all xs vs) x ∙ ap (λ t. left ++ t) (sym kept) ∙ (rw is_us at m.on_left);
      on_came = ap (λ t. came ++ t) (sym gone) ∙ (rw is_us at m.on_came);
      rising_us = up.1;
      rising_vs = m.rising_vs;
    }

pub merges_came : (left came us vs all others ys : List Plain) (y : Plain) → us ≡ [] → vs ≡ y ∷ ys → Merges left came us vs all others → Merges left (came ++ y ∷ []) us ys all others
merges_came left came us vs all others ys y is_us is_vs m =
    merges_turned (came ++ y ∷ []) left ys us others all (merges_left came left vs us others all ys y is_vs is_us (merges_turned left came us vs all others m))

pub merges_end : (left came us vs all others : List Plain) → us ≡ [] → vs ≡ [] → Merges left came us vs all others → (left ≡ all) × (came ≡ others)
merges_end left came us vs all others is_us is_vs m =
    (sym (append-nil left) ∙ (rw (is_us, is_vs) at m.on_left), sym (append-nil came) ∙ (rw (is_us, is_vs) at m.on_came))
