-- The same of names in the order of their bytes.
use Rattle.std.proofs.Common.{◌≡◌, ℕ, List, [], ◌∷◌, ◌++◌, map, None, refl}
use Rattle.std.specs.Map.{keys_of}
use Rattle.std.proofs.lemmas.Cmp.{nat_list_cmp_total}
use Rattle.reql_datum.specs.Members.{text_order, AreRising, find, put, without, IsGap}
use Rattle.reql_memory.proofs.Mapped.{rising_map}
use Rattle.reql_memory.proofs.Sorted as sorted

pub rising_nil : (V : Type 0) → AreRising {V = V} []
rising_nil = sorted.rising_nil text_order nat_list_cmp_total

module _ {V : Type 0} where
  pub find_gap : (ms : List (List ℕ × V)) (k : List ℕ) (i : ℕ) → AreRising ms → IsGap (keys_of ms) k i → find k ms ≡ None
  find_gap = sorted.find_gap text_order nat_list_cmp_total

  pub without_gap : (ms : List (List ℕ × V)) (k : List ℕ) → find k ms ≡ None → without k ms ≡ ms
  without_gap = sorted.without_gap text_order nat_list_cmp_total

  pub rising_put : (k : List ℕ) (v : V) (ms : List (List ℕ × V)) → AreRising ms → AreRising (put k v ms)
  rising_put = sorted.rising_put text_order nat_list_cmp_total

  pub rising_without : (k : List ℕ) (ms : List (List ℕ × V)) → AreRising ms → AreRising (without k ms)
  rising_without = sorted.rising_without text_order nat_list_cmp_total

  pub put_step : (done rest all : List (List ℕ × V)) (k : List ℕ) (v : V) → AreRising all → done ++ (k, v) ∷ rest ≡ all → put k v done ++ rest ≡ all
  put_step = sorted.put_step text_order nat_list_cmp_total

  pub rising_rest : (m : List ℕ × V) (ms : List (List ℕ × V)) → AreRising (m ∷ ms) → AreRising ms
  rising_rest = sorted.rising_rest text_order nat_list_cmp_total

  -- a name is not among those after it
  pub not_later : (k : List ℕ) (v : V) (ms : List (List ℕ × V)) → AreRising ((k, v) ∷ ms) → find k ms ≡ None
  not_later = sorted.not_later text_order nat_list_cmp_total

-- the members with each value changed
pub rising_values : {V W : Type 0} (f : V → W) (ms : List (List ℕ × V)) → AreRising ms → AreRising (map (λ m. (m.0, f m.1)) ms)
rising_values f ms up = rising_map text_order text_order (λ k. k) f (λ j k. refl) ms up
