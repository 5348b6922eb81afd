-- How the halves stay what they are to each other.
use Rattle.std.proofs.Common.{◌≡◌, ◌≤◌, ◌⊎◌, inl, inr, ℕ, ◌+◌, ◌/◌, nat_lt, List, [], ◌∷◌, ◌++◌, length, true, not, Option, Some, None, refl, ap, subst, ◌∙◌, arith, rules, length-append, append-nil}
use Rattle.std.proofs.lemmas.Bool.Decides.{nat_tests}
use Rattle.reql_tail.specs.Led.{led, CountsOne}
use Rattle.reql_tail.specs.Halves.{all_entries, is_ready, IsTurned, AreSame, end_of, GoesOn, NewerFits, Begins, NextFits, HasMoved, Keeps}
use Rattle.reql_tail.specs.Kept.{Kept, IsKept}
use Rattle.reql_tail.specs.declared.half.Half.{Half}

above : (a b : ℕ) → not (nat_lt a b) ≡ true → b ≤ a
above a b e = grind (arith, nat_tests)

module _ {S E : Type 0} (after : S → E → S) where
  led-append : (s : S) (xs ys : List E) → led after s (xs ++ ys) ≡ led after (led after s xs) ys
  led-append s [] ys = refl
  led-append s (x ∷ xs) ys = led-append (after s x) xs ys

  counted : (place : S → ℕ) → CountsOne after place → (s : S) (es : List E) → place (led after s es) ≡ place s + length es
  counted place counts s [] = omega arith
  counted place counts s (e ∷ es) = omega (arith, counted place counts (after s e) es, counts s e)

module _ {B E S : Type 0} (state : B → S) (after : S → E → S) (place : S → ℕ) where
  -- what is seen of the halves
  abbrev seen : ℕ → B → Half B E → Option (Half B E) → Option (Half B E) → Kept B E
  seen most opening older newer next = record { opening = opening; base = older.start; entries = all_entries older newer; most = most; ready = is_ready most older newer next }

  few_of : (most : ℕ) (older : Half B E) (newer : Option (Half B E)) → NewerFits state after place most older newer → length (all_entries older newer) ≤ most
  few_of most older None fits = omega (arith, length-append older.entries.items [], fits)
  few_of most older (Some h) fits = omega (arith, length-append older.entries.items h.entries.items, fits.few)

  pub is_kept : CountsOne after place → (most : ℕ) (opening : B) (older : Half B E) (newer next : Option (Half B E)) → Keeps state after place most opening older newer next
      → IsKept state after place (seen most opening older newer next)
  is_kept counts most opening older newer next k = record {
    few = few_of most older newer k.halves;
    base = λ near. first k.moved near;
    least = or_least k.moved;
  }
    where
      far : HasMoved state after place most opening older newer → place (end_of state after place older newer) ≤ place (state opening) + most → older.start ≡ opening
      far m near = absurd (omega (arith, m.far, near, counted after place counts (state older.start) (all_entries older newer)))

      first : (older.start ≡ opening) ⊎ HasMoved state after place most opening older newer → place (end_of state after place older newer) ≤ place (state opening) + most → older.start ≡ opening
      first (inl e) near = e
      first (inr m) near = far m near

      or_least : (older.start ≡ opening) ⊎ HasMoved state after place most opening older newer → (older.start ≡ opening) ⊎ (most / 2 ≤ length (all_entries older newer))
      or_least (inl e) = inl e
      or_least (inr m) = inr m.least

  -- other room changes nothing of that
  same_fits : (most : ℕ) (older now : Half B E) (newer n : Option (Half B E)) → AreSame older newer now n → NewerFits state after place most older newer → NewerFits state after place most now n
  same_fits most older now None None same fits = rw same.1 fits
  same_fits most older now None (Some n) same fits = elim same [ ]
  same_fits most older now (Some h) None same fits = elim same [ ]
  same_fits most older now (Some h) (Some n) same fits = record {
    start = rw (same.0, same.1.0) fits.start;
    least = rw same.0 fits.least;
    half = rw same.0 fits.half;
    few = rw (same.0, same.1.1) fits.few;
  }

  same_start : (older now : Half B E) (newer n : Option (Half B E)) → AreSame older newer now n → now.start ≡ older.start
  same_start older now None None same = same.0
  same_start older now None (Some n) same = elim same [ ]
  same_start older now (Some h) None same = elim same [ ]
  same_start older now (Some h) (Some n) same = ap (λ (t : Half B E). t.start) same.0

  pub same_entries : (older now : Half B E) (newer n : Option (Half B E)) → AreSame older newer now n → all_entries now n ≡ all_entries older newer
  same_entries older now None None same = ap (λ es. es ++ []) same.1
  same_entries older now None (Some n) same = elim same [ ]
  same_entries older now (Some h) None same = elim same [ ]
  same_entries older now (Some h) (Some n) same = rw (same.0, same.1.1) refl

  pub same_keeps : (most : ℕ) (opening : B) (older now : Half B E) (newer n next : Option (Half B E)) → AreSame older newer now n → next ≡ None → Keeps state after place most opening older newer next
      → Keeps state after place most opening now n next
  same_keeps most opening older now newer n next same none k = record {
    least = k.least;
    number = k.number;
    halves = same_fits most older now newer n same k.halves;
    coming = rw none tt;
    moved = moves k.moved;
  }
    where
      moves : (older.start ≡ opening) ⊎ HasMoved state after place most opening older newer → (now.start ≡ opening) ⊎ HasMoved state after place most opening now n
      moves (inl e) = inl (same_start older now newer n same ∙ e)
      moves (inr m) = inr (record {
        far = rw (same_start older now newer n same, same_entries older now newer n same) m.far;
        least = rw (same_entries older now newer n same) m.least;
      })

  -- more entries, from the same base
  longer : (most : ℕ) (opening : B) (older now : Half B E) (newer n : Option (Half B E)) (entry : E) → now.start ≡ older.start → all_entries now n ≡ all_entries older newer ++ entry ∷ []
      → (older.start ≡ opening) ⊎ HasMoved state after place most opening older newer → (now.start ≡ opening) ⊎ HasMoved state after place most opening now n
  longer most opening older now newer n entry start more (inl e) = inl (start ∙ e)
  longer most opening older now newer n entry start more (inr m) =
      let counts : length (all_entries now n) ≡ length (all_entries older newer) + 1 = ap length more ∙ length-append (all_entries older newer) (entry ∷ []) in
      inr (record {
        far = rw start (omega (arith, m.far, counts));
        least = omega (arith, m.least, counts);
      })

  -- an entry begins a half
  turned_fits : (most : ℕ) (older now next n : Half B E) (newer : Option (Half B E)) (entry : E) → 2 ≤ most → IsTurned older newer next entry now (Some n) → Begins state after place most older newer next
      → NewerFits state after place most older newer → GoesOn state after place most now n
  turned_fits most older now next n None entry least turned begins fits =
      let long = above (length older.entries.items) (most / 2) begins.turn in record {
        start = rw (turned.0, turned.1, begins.start) (ap (λ es. led after (state older.start) es) (append-nil older.entries.items));
        least = rw turned.0 long;
        half = rw turned.0 (omega (arith, fits));
        few = rw turned.0 (omega (arith, fits, least, ap length turned.2, length-append next.entries.items (entry ∷ []), ap length begins.none));
      }
  turned_fits most older now next n (Some h) entry least turned begins fits =
      let long = above (length older.entries.items + length h.entries.items) most begins.turn in record {
        start = rw (turned.0, turned.1, begins.start, fits.start) (led-append after (state older.start) older.entries.items h.entries.items);
        least = rw turned.0 (omega (arith, long, fits.half));
        half = rw turned.0 (omega (arith, fits.few, fits.least));
        few = rw turned.0 (omega (arith, fits.few, fits.least, least, ap length turned.2, length-append next.entries.items (entry ∷ []), ap length begins.none));
      }

  not_behind : (most : ℕ) (opening : B) (older : Half B E) (newer : Option (Half B E)) → length (all_entries older newer) ≤ most → (older.start ≡ opening) ⊎ HasMoved state after place most opening older newer
      → place (state opening) ≤ place (state older.start)
  not_behind most opening older newer few (inl e) = rw e (omega arith)
  not_behind most opening older newer few (inr m) = omega (arith, m.far, few)

  turned_moved : CountsOne after place → (most : ℕ) (opening : B) (older now next n : Half B E) (newer : Option (Half B E)) (entry : E) → IsTurned older newer next entry now (Some n) → Begins state after place most older newer next
      → NewerFits state after place most older newer → (older.start ≡ opening) ⊎ HasMoved state after place most opening older newer
      → (now.start ≡ opening) ⊎ HasMoved state after place most opening now (Some n)
  turned_moved counts most opening older now next n None entry turned begins fits moved =
      longer most opening older now None (Some n) entry (ap (λ (t : Half B E). t.start) turned.0) (rw (turned.0, turned.2, begins.none) (grind rules)) moved
  turned_moved counts most opening older now next n (Some h) entry turned begins fits moved =
      let long = above (length older.entries.items + length h.entries.items) most begins.turn in
      let far = not_behind most opening older (Some h) (few_of most older (Some h) fits) moved in
      let led_on : place (state h.start) ≡ place (state older.start) + length older.entries.items = rw fits.start (counted after place counts (state older.start) older.entries.items) in
      let one : length n.entries.items ≡ 1 = rw (turned.2, begins.none) refl in
      let both : length (all_entries h (Some n)) ≡ length h.entries.items + 1 = length-append h.entries.items n.entries.items ∙ ap (λ k. length h.entries.items + k) one in
      inr (record {
        far = rw turned.0 (omega (arith, long, far, led_on, both));
        least = rw turned.0 (omega (arith, long, fits.half, both));
      })

  pub turned_keeps : CountsOne after place → (most : ℕ) (opening : B) (older now half : Half B E) (newer n next after_it : Option (Half B E)) (entry : E) → next ≡ Some half → after_it ≡ None → IsTurned older newer half entry now n
      → Keeps state after place most opening older newer next → Keeps state after place most opening now n after_it
  turned_keeps counts most opening older now half newer None next after_it entry is none turned k = elim turned [ ]
  turned_keeps counts most opening older now half newer (Some n) next after_it entry is none turned k =
      let begins : Begins state after place most older newer half = subst (λ x. NextFits state after place most older newer x) is k.coming in record {
        least = k.least;
        number = k.number;
        halves = turned_fits most older now half n newer entry k.least turned begins k.halves;
        coming = rw none tt;
        moved = turned_moved counts most opening older now half n newer entry turned begins k.halves k.moved;
      }
