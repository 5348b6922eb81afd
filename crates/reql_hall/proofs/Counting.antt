-- Room that was taken for a list before it is made.
use Rattle.std.proofs.Common.{◌≡◌, ℕ, ◌<◌, ◌≤◌, List, ◌∷◌, ◌++◌, length, ap, ◌∙◌, ◌+◌, sym, arith, length-append, append-nil}
use Rattle.std.specs.Prelude.{map}
use Rattle.std.proofs.lemmas.List.{length-map, nil_from_length}

module _ {A B : Type 0} where
  -- while an element is still to come there is room for it
  pub has_room : (f : A → B) (yielded rest later all : List A) (x : A) (made : List B) (len cap : ℕ)
      → yielded ++ rest ≡ all → rest ≡ x ∷ later → length all ≤ cap → made ≡ map f yielded → length made ≡ len → len < cap
  has_room f yielded rest later all x made len cap a r c m l =
      let whole : length yielded + length rest ≡ length all = sym (length-append yielded rest) ∙ ap length a in
      omega (arith, whole, ap length r, c, ap length m, length-map yielded f, l)

  -- the same where the list that is made is known by what it maps to
  pub has_room_for : (f : B → A) (yielded rest later all : List A) (x : A) (made : List B) (len cap : ℕ)
      → yielded ++ rest ≡ all → rest ≡ x ∷ later → length all ≤ cap → map f made ≡ yielded → length made ≡ len → len < cap
  has_room_for f yielded rest later all x made len cap a r c m l =
      let whole : length yielded + length rest ≡ length all = sym (length-append yielded rest) ∙ ap length a in
      omega (arith, whole, ap length r, c, ap length m, length-map made f, l)

module _ {A : Type 0} where
  -- where nothing is left, all were taken
  pub all_taken : (yielded rest all : List A) (len : ℕ) → yielded ++ rest ≡ all → len ≡ length rest → len ≡ 0 → yielded ≡ all
  all_taken yielded rest all len a l z = sym (append-nil yielded) ∙ ap (λ r. yielded ++ r) (sym (nil_from_length rest (omega (arith, l, z)))) ∙ a
