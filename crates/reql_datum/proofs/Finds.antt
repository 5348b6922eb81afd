-- What is found after an edit.
use Rattle.std.proofs.Common.{◌≡◌, ℕ, List, length, ap, true, false, if◌then◌else◌, Some, None, Ordering, Less, Equal, Greater, is_eq, refl, sym, subst}
use Rattle.std.specs.Ordering.{MatchOrdering}
use Rattle.std.proofs.lemmas.Cmp.{nat_list_cmp_total}
use Rattle.reql_memory.proofs.Finds.{is_equal}
use Rattle.reql_memory.proofs.Finds as finds
use Rattle.reql_datum.specs.Members.{text_order, AreRising, find, put, without}
use Rattle.reql_datum.specs.Order.{text_less}
use Rattle.reql_datum.proofs.Order.{text_means}

equal_at : (o : Ordering) (s t : List ℕ) → o ≡ Equal → MatchOrdering o (text_less s t) (s ≡ t) (text_less t s) → s ≡ t
equal_at Less s t e h = cc
equal_at Equal s t e h = h
equal_at Greater s t e h = cc

pub equal_texts : (s t : List ℕ) → text_order s t ≡ Equal → s ≡ t
equal_texts s t e = equal_at (text_order s t) s t e (text_means s t)

-- texts of other lengths are other texts
pub other_length : (o : Ordering) (s t : List ℕ) → text_order t s ≡ o → (length s ≡ length t → ⊥) → false ≡ is_eq o
other_length Less s t e h = refl
other_length Equal s t e h = absurd (h (ap length (sym (equal_texts t s e))))
other_length Greater s t e h = refl

-- what is so of a name is so of one that is found there
pub found_at : (q k : List ℕ) → is_eq (text_order q k) ≡ true → (P : List ℕ → Type 0) → P k → P q
found_at q k here P h = subst P (sym (equal_texts q k (is_equal (text_order q k) here))) h

module _ {V : Type 0} where
  -- what was put at k is found there, and the other names keep their values
  pub find_put : (ms : List (List ℕ × V)) (k : List ℕ) (v : V) (q : List ℕ) → find q (put k v ms) ≡ (if is_eq (text_order q k) then Some v else find q ms)
  find_put = finds.find_put text_order nat_list_cmp_total

  -- nothing is found at k, and the other names keep their values
  pub find_without : (ms : List (List ℕ × V)) (k q : List ℕ) → AreRising ms → find q (without k ms) ≡ (if is_eq (text_order k q) then None else find q ms)
  find_without = finds.find_without text_order nat_list_cmp_total
