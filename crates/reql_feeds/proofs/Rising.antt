-- Feeds whose numbers rise: an owner and number find one at most.
use Rattle.std.proofs.Common.{◌≡◌, ◌<◌, ℕ, zero, suc, List, [], ◌∷◌, ◌++◌, length, map, cond, Bool, true, false, ◌&&◌, not, nat_eq, Option, Some, None, option_map, refl, sym, ap, subst, arith}
use Rattle.std.specs.Prelude.{slice_index_or, slice_set}
use Rattle.std.specs.List.{remove}
use Rattle.reql_datum.specs.Plain.{Plain}
use Rattle.reql_table_spec.specs.Table.{Held}
use Rattle.reql_table_machine_spec.specs.Feeds.{Feed, is_of, find_feed}
use Rattle.reql_feeds.specs.Record.{record_of, records, closed}
use Rattle.reql_feeds.specs.Keeps.{AreAbove, Rise}

same_number : (a b : Bool) (n m : ℕ) → nat_eq n m ≡ b → a && b ≡ true → n ≡ m
same_number true true n m e h = grind (arith, e)
same_number true false n m e h = cc
same_number false b n m e h = cc

other : (a b : Bool) (n m k : ℕ) → nat_eq n k ≡ b → m ≡ k → m < n → a && b ≡ false
other true true n m k e f lt = absurd (grind (arith, e, f, lt))
other true false n m k e f lt = refl
other false b n m k e f lt = refl

module _ {F : Type 0} (owner number : ℕ) where
  is_number : (f : Feed F Plain) → is_of owner number f ≡ true → f.number ≡ number
  is_number f h = same_number (nat_eq f.owner owner) (nat_eq f.number number) f.number number refl h

  is_other : (n : ℕ) (f : Feed F Plain) → n ≡ number → n < f.number → is_of owner number f ≡ false
  is_other n f e lt = other (nat_eq f.owner owner) (nat_eq f.number number) f.number n number refl e lt

  above_at : (n : ℕ) (fs : List (Feed F Plain)) (i : ℕ) (d : Feed F Plain) → AreAbove n fs → i < length fs → n < (slice_index_or fs i d).number
  above_at n [] i d up lt = absurd (omega (arith, lt))
  above_at n (f ∷ fs) zero d up lt = up.0
  above_at n (f ∷ fs) (suc i) d up lt = above_at n fs i d up.1 (omega (arith, lt))

  -- none of those above is the one
  mapped_above : (g : Feed F Plain → Feed F Plain) (n : ℕ) (fs : List (Feed F Plain)) → n ≡ number → AreAbove n fs → map (λ f. cond (is_of owner number f) (g f) f) fs ≡ fs
  mapped_above g n [] e up = refl
  mapped_above g n (f ∷ fs) e up = rw (is_other n f e up.0) (ap (λ t. f ∷ t) (mapped_above g n fs e up.1))

  closed_above : (n : ℕ) (fs : List (Feed F Plain)) → n ≡ number → AreAbove n fs → closed owner number fs ≡ fs
  closed_above n [] e up = refl
  closed_above n (f ∷ fs) e up = rw (is_other n f e up.0) (ap (λ t. f ∷ t) (closed_above n fs e up.1))

  -- the one before those is another
  not_first : (f : Feed F Plain) (fs : List (Feed F Plain)) (i : ℕ) (d : Feed F Plain) → AreAbove f.number fs → i < length fs → is_of owner number (slice_index_or fs i d) ≡ true → (b : Bool) → is_of owner number f ≡ b → b ≡ false
  not_first f fs i d up lt h true e = absurd (let a = is_number f e in let b = is_number (slice_index_or fs i d) h in let c = above_at f.number fs i d up lt in omega (arith, a, b, c))
  not_first f fs i d up lt h false e = refl

  pub found_at : (fs : List (Feed F Plain)) (i : ℕ) (d : Feed F Plain) → Rise fs → i < length fs → is_of owner number (slice_index_or fs i d) ≡ true → find_feed owner number fs ≡ Some (slice_index_or fs i d)
  found_at [] i d up lt h = absurd (omega (arith, lt))
  found_at (f ∷ fs) zero d up lt h = rw h refl
  found_at (f ∷ fs) (suc i) d up lt h =
      let below : i < length fs = omega (arith, lt) in
      rw (not_first f fs i d up.0 below h (is_of owner number f) refl) (found_at fs i d up.1 below h)

  pub mapped_at : (g : Feed F Plain → Feed F Plain) (fs : List (Feed F Plain)) (i : ℕ) (d : Feed F Plain) → Rise fs → i < length fs → is_of owner number (slice_index_or fs i d) ≡ true
      → map (λ f. cond (is_of owner number f) (g f) f) fs ≡ slice_set fs i (g (slice_index_or fs i d))
  mapped_at g [] i d up lt h = absurd (omega (arith, lt))
  mapped_at g (f ∷ fs) zero d up lt h = rw h (ap (λ t. g f ∷ t) (mapped_above g f.number fs (is_number f h) up.0))
  mapped_at g (f ∷ fs) (suc i) d up lt h =
      let below : i < length fs = omega (arith, lt) in
      rw (not_first f fs i d up.0 below h (is_of owner number f) refl) (ap (λ t. f ∷ t) (mapped_at g fs i d up.1 below h))

  pub closed_at : (fs : List (Feed F Plain)) (i : ℕ) (d : Feed F Plain) → Rise fs → i < length fs → is_of owner number (slice_index_or fs i d) ≡ true → closed owner number fs ≡ remove fs i
  closed_at [] i d up lt h = absurd (omega (arith, lt))
  closed_at (f ∷ fs) zero d up lt h = rw h (closed_above f.number fs (is_number f h) up.0)
  closed_at (f ∷ fs) (suc i) d up lt h =
      let below : i < length fs = omega (arith, lt) in
      rw (not_first f fs i d up.0 below h (is_of owner number f) refl) (ap (λ t. f ∷ t) (closed_at fs i d up.1 below h))

  mapped_none_at : (b : Bool) (g : Feed F Plain → Feed F Plain) (f : Feed F Plain) (fs : List (Feed F Plain)) → is_of owner number f ≡ b → cond b (Some f) (find_feed owner number fs) ≡ None
      → (find_feed owner number fs ≡ None → map (λ f. cond (is_of owner number f) (g f) f) fs ≡ fs) → map (λ f. cond (is_of owner number f) (g f) f) (f ∷ fs) ≡ f ∷ fs
  mapped_none_at true g f fs e h rest = absurd (cc)
  mapped_none_at false g f fs e h rest = rw e (ap (λ t. f ∷ t) (rest h))

  pub mapped_none : (g : Feed F Plain → Feed F Plain) (fs : List (Feed F Plain)) → find_feed owner number fs ≡ None → map (λ f. cond (is_of owner number f) (g f) f) fs ≡ fs
  mapped_none g [] h = refl
  mapped_none g (f ∷ fs) h = mapped_none_at (is_of owner number f) g f fs refl h (mapped_none g fs)

  closed_none_at : (b : Bool) (f : Feed F Plain) (fs : List (Feed F Plain)) → is_of owner number f ≡ b → cond b (Some f) (find_feed owner number fs) ≡ None
      → (find_feed owner number fs ≡ None → closed owner number fs ≡ fs) → closed owner number (f ∷ fs) ≡ f ∷ fs
  closed_none_at true f fs e h rest = absurd (cc)
  closed_none_at false f fs e h rest = rw e (ap (λ t. f ∷ t) (rest h))

  pub closed_none : (fs : List (Feed F Plain)) → find_feed owner number fs ≡ None → closed owner number fs ≡ fs
  closed_none [] h = refl
  closed_none (f ∷ fs) h = closed_none_at (is_of owner number f) f fs refl h (closed_none fs)

  module _ (held : F → Held) where
    found_both : (b : Bool) (f : Feed F Plain) (o : Option (Feed F Plain)) (p : Option (Feed Held Plain)) → p ≡ option_map (record_of held) o → cond b (Some (record_of held f)) p ≡ option_map (record_of held) (cond b (Some f) o)
    found_both true f o p e = refl
    found_both false f o p e = e

    pub found_record : (fs : List (Feed F Plain)) → find_feed owner number (records held fs) ≡ option_map (record_of held) (find_feed owner number fs)
    found_record [] = refl
    found_record (f ∷ fs) = found_both (is_of owner number f) f (find_feed owner number fs) (find_feed owner number (records held fs)) (found_record fs)

    closed_both : (b : Bool) (f : Feed F Plain) (fs : List (Feed F Plain)) (rs : List (Feed Held Plain)) → rs ≡ records held fs → cond (not b) (record_of held f ∷ rs) rs ≡ records held (cond (not b) (f ∷ fs) fs)
    closed_both true f fs rs e = e
    closed_both false f fs rs e = ap (λ t. record_of held f ∷ t) e

    pub closed_records : (fs : List (Feed F Plain)) → closed owner number (records held fs) ≡ records held (closed owner number fs)
    closed_records [] = refl
    closed_records (f ∷ fs) = closed_both (is_of owner number f) f (closed owner number fs) (closed owner number (records held fs)) (closed_records fs)

module _ {F : Type 0} where
  pub above_last : (n : ℕ) (fs : List (Feed F Plain)) (g : Feed F Plain) → AreAbove n fs → n < g.number → AreAbove n (fs ++ g ∷ [])
  above_last n [] g up lt = (lt, tt)
  above_last n (f ∷ fs) g up lt = (up.0, above_last n fs g up.1 lt)

  pub rise_last : (fs : List (Feed F Plain)) (g : Feed F Plain) → Rise fs → ((i : ℕ) (d : Feed F Plain) → i < length fs → (slice_index_or fs i d).number < g.number) → Rise (fs ++ g ∷ [])
  rise_last [] g up below = (tt, tt)
  rise_last (f ∷ fs) g up below = (above_last f.number fs g up.0 (below 0 f (omega arith)), rise_last fs g up.1 (λ i d lt. below (suc i) d (omega (arith, lt))))

  above_less : (n m : ℕ) (fs : List (Feed F Plain)) → n < m → AreAbove m fs → AreAbove n fs
  above_less n m [] lt up = tt
  above_less n m (f ∷ fs) lt up = let h = up.0 in (omega (arith, lt, h), above_less n m fs lt up.1)

  above_removed : (n : ℕ) (fs : List (Feed F Plain)) (i : ℕ) → AreAbove n fs → AreAbove n (remove fs i)
  above_removed n [] zero up = tt
  above_removed n [] (suc i) up = tt
  above_removed n (f ∷ fs) zero up = up.1
  above_removed n (f ∷ fs) (suc i) up = (up.0, above_removed n fs i up.1)

  pub rise_removed : (fs : List (Feed F Plain)) (i : ℕ) → Rise fs → Rise (remove fs i)
  rise_removed [] zero up = tt
  rise_removed [] (suc i) up = tt
  rise_removed (f ∷ fs) zero up = up.1
  rise_removed (f ∷ fs) (suc i) up = (above_removed f.number fs i up.0, rise_removed fs i up.1)

  -- numbers that stay rise
  above_numbers : (n : ℕ) (fs gs : List (Feed F Plain)) → map (λ f. f.number) gs ≡ map (λ f. f.number) fs → AreAbove n fs → AreAbove n gs
  above_numbers n fs [] e up = tt
  above_numbers n [] (g ∷ gs) e up = absurd (cc)
  above_numbers n (f ∷ fs) (g ∷ gs) e up =
      let first : g.number ≡ f.number = cc in
      let rest : map (λ f. f.number) gs ≡ map (λ f. f.number) fs = cc in
      (subst (λ m. n < m) (sym first) up.0, above_numbers n fs gs rest up.1)

  pub rise_numbers : (fs gs : List (Feed F Plain)) → map (λ f. f.number) gs ≡ map (λ f. f.number) fs → Rise fs → Rise gs
  rise_numbers fs [] e up = tt
  rise_numbers [] (g ∷ gs) e up = absurd (cc)
  rise_numbers (f ∷ fs) (g ∷ gs) e up =
      let first : g.number ≡ f.number = cc in
      let rest : map (λ f. f.number) gs ≡ map (λ f. f.number) fs = cc in
      (subst (λ m. AreAbove m gs) (sym first) (above_numbers f.number fs gs rest up.0), rise_numbers fs gs rest up.1)
