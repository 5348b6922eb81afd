-- Changes that come in their order: each is of the document that those before it left.
use Rattle.std.proofs.Common.{◌≡◌, ◌<◌, ◌+◌, ℕ, zero, suc, List, [], ◌∷◌, map, take, length, Option, Some, None, refl, ap, subst, arith}
use Rattle.std.specs.Prelude.{slice_index_or}
use Rattle.reql_memory.specs.Sorted.{AreRisingBy, find_by}
use Rattle.reql_memory.proofs.Sorted.{rising_put, rising_without}
use Rattle.reql_datum.specs.Order.{order}
use Rattle.reql_datum.specs.Plain.{Plain}
use Rattle.reql_datum.specs.Total.{order_total}
use Rattle.reql_term.specs.Views.{Document}
use Rattle.reql_write_spec.specs.Laws.{AllCome}
use Rattle.reql_write_spec.specs.Treated.{Changed, set_at, changed, changed_by}
use Rattle.reql_table.specs.Edits.{key_at, seen_if, turned}
use Rattle.reql_table.specs.declared.refile.Turn.{Turn}

pub rises : (key : Plain) (new : Option Plain) (docs : List Document) → AreRisingBy order docs → AreRisingBy order (set_at key new docs)
rises key None docs up = rising_without order order_total key docs up
rises key (Some new) docs up = rising_put order order_total key new docs up

-- what holds of the documents so far leads to what holds of them after the next change
pub next_change : (P Q : List Document → Type 0) (docs : List Document) (xs : List Changed) (n : ℕ) (d : Changed) → n < length xs → AreRisingBy order docs → AllCome docs xs
    → ((ds : List Document) → AreRisingBy order ds → find_by order (slice_index_or xs n d).key ds ≡ (slice_index_or xs n d).old → P ds → Q (changed ds (slice_index_or xs n d)))
    → P (changed_by docs (take n xs)) → Q (changed_by docs (take (n + 1) xs))
next_change P Q docs [] n d less up come step p = absurd (omega (arith, less))
next_change P Q docs (x ∷ xs) zero d less up come step p = step docs up come.0.there p
next_change P Q docs (x ∷ xs) (suc n) d less up come step p =
    subst (λ k. Q (changed_by docs (take k (x ∷ xs)))) (one_later n) (next_change P Q (changed docs x) xs n d (omega (arith, less)) (rises x.key x.new docs up) come.1 step p)
  where
    one_later : (m : ℕ) → suc (m + 1) ≡ suc m + 1
    one_later m = omega arith

pub at_map : {A B : Type 0} (f : A → B) (xs : List A) (n : ℕ) (d : A) → slice_index_or (map f xs) n (f d) ≡ f (slice_index_or xs n d)
at_map f [] n d = refl
at_map f (x ∷ xs) zero d = refl
at_map f (x ∷ xs) (suc n) d = at_map f xs n d

pub take_whole : {A B : Type 0} (f : A → B) (xs : List A) → take (length xs) (map f xs) ≡ map f xs
take_whole f [] = refl
take_whole f (x ∷ xs) = ap (λ ys. f x ∷ ys) (take_whole f xs)

pub all_rise : (docs : List Document) (xs : List Changed) → AreRisingBy order docs → AreRisingBy order (changed_by docs xs)
all_rise docs [] up = up
all_rise docs (x ∷ xs) up = all_rise (changed docs x) xs (rises x.key x.new docs up)

pub turned_is : (t : Turn) (x : Changed) (docs : List Document) → key_at t ≡ x.key → seen_if t.new ≡ x.new → turned t docs ≡ changed docs x
turned_is t x docs e f = λ i. set_at (e i) (f i) docs
