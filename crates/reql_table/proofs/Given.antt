-- The numbers of a table's trees: each that was given stands for the same tree for good.
use Rattle.std.proofs.Common.{◌≡◌, ◌+◌, ◌<◌, ◌≤◌, ℕ, nat_eq, List, [], ◌∷◌, Bool, true, false, Option, Some, None, option_map, refl, sym, ap, ◌∙◌, subst, arith}
use borrow.Author.Tests.{eqb-true, eqb-false}
use Rattle.reql_memory.proofs.Sorted.{some_inside}
use Rattle.reql_datum.specs.Members.{find, put, without}
use Rattle.reql_rules.specs.Lists.{Bytes}
use Rattle.reql_term.specs.Views.{Index}
use Rattle.reql_table.specs.Seen.{Numbered, Standing, numbered_of, next_of, Each, IsGiven, IsAlike, GivesNumbers}
use Rattle.reql_table.specs.Trees.{Follows, index_at, number_of}
use Rattle.reql_table.proofs.Owned.{each_put, each_without, each_found, each_both, each_one}

-- an index of the number n is the one that n has among ms
abbrev IsAt : ℕ → List (Bytes × Numbered) → Numbered → Type 0
IsAt n ms a = a.0 ≡ n → index_at n ms ≡ Some a.1

head_at : (n : ℕ) (m : Bytes × Numbered) (ms : List (Bytes × Numbered)) (b : Bool) → nat_eq m.1.0 n ≡ b → IsAt n (m ∷ ms) m.1
head_at n m ms true is e = rw is refl
head_at n m ms false is e = absurd (eqb-false m.1.0 n is e)

tail_at : (n : ℕ) (m : Bytes × Numbered) (ms : List (Bytes × Numbered)) (b : Bool) → nat_eq m.1.0 n ≡ b → (a : Numbered) → IsAlike m.1 a → IsAt n ms a → IsAt n (m ∷ ms) a
tail_at n m ms true is a one rest e = rw is (ap Some (one (eqb-true m.1.0 n is ∙ sym e)))
tail_at n m ms false is a one rest e = rw is (rest e)

all_at : (n : ℕ) (ms : List (Bytes × Numbered)) → Each (λ a. Each (IsAlike a) ms) ms → Each (IsAt n ms) ms
all_at n [] all = tt
all_at n (m ∷ ms) all = (
  head_at n m ms (nat_eq m.1.0 n) refl,
  each_both (IsAlike m.1) (IsAt n ms) (IsAt n (m ∷ ms)) (tail_at n m ms (nat_eq m.1.0 n) refl) ms all.0.1
      (all_at n ms (each_one (λ a. Each (IsAlike a) (m ∷ ms)) (λ a. Each (IsAlike a) ms) (λ a both. both.1) ms all.1)),
)

found_at : (n : ℕ) (i : Index) (ms : List (Bytes × Numbered)) (m : Bytes × Numbered) (ns : List (Bytes × Numbered)) (b : Bool) → nat_eq m.1.0 n ≡ b → Each (IsAt n ms) (m ∷ ns) → index_at n (m ∷ ns) ≡ Some i
    → (index_at n ns ≡ Some i → index_at n ms ≡ Some i) → index_at n ms ≡ Some i
found_at n i ms m ns true is all found rest = all.0 (eqb-true m.1.0 n is) ∙ (rw is at found)
found_at n i ms m ns false is all found rest = rest (rw is at found)

found_in : (n : ℕ) (i : Index) (ms ns : List (Bytes × Numbered)) → Each (IsAt n ms) ns → index_at n ns ≡ Some i → index_at n ms ≡ Some i
found_in n i ms [] all found = absurd (let f : None ≡ Some i = found in cc)
found_in n i ms (m ∷ ns) all found = found_at n i ms m ns (nat_eq m.1.0 n) refl all found (found_in n i ms ns all.1)

-- ---- after edits
follows_by : (t u : Standing) (ns : List (Bytes × Numbered)) → numbered_of u ≡ ns → next_of t ≤ next_of u → ((n : ℕ) → n < next_of t → Each (IsAt n (numbered_of t)) ns) → Follows t u
follows_by t u ns e le all = record {
  next = le;
  trees = λ n i lt found. found_in n i (numbered_of t) ns (all n lt) (ap (index_at n) (sym e) ∙ found);
}

pub same_follows : (t u : Standing) → u.1 ≡ t.1 → Follows t u
same_follows t u e = record {
  next = subst (λ (s : List (Bytes × Numbered) × ℕ). next_of t ≤ s.1) (sym e) (omega arith);
  trees = λ n i lt found. ap (λ (s : List (Bytes × Numbered) × ℕ). index_at n s.0) (sym e) ∙ found;
}

pub more_follows : (name : Bytes) (i : Index) (t u : Standing) → numbered_of u ≡ put name (next_of t, i) (numbered_of t) → next_of u ≡ next_of t + 1 → GivesNumbers t → Follows t u
more_follows name i t u e f w =
    follows_by t u (put name (next_of t, i) (numbered_of t)) e (omega (arith, f))
    (λ n lt. each_put (IsAt n (numbered_of t)) name (next_of t, i) (numbered_of t) (λ is. absurd (omega (arith, lt, is))) (all_at n (numbered_of t) w.alike))

pub fewer_follows : (name : Bytes) (t u : Standing) → numbered_of u ≡ without name (numbered_of t) → next_of u ≡ next_of t → GivesNumbers t → Follows t u
fewer_follows name t u e f w =
    follows_by t u (without name (numbered_of t)) e (omega (arith, f)) (λ n lt. each_without (IsAt n (numbered_of t)) name (numbered_of t) (all_at n (numbered_of t) w.alike))

pub moved_follows : (old new : Bytes) (v : Numbered) (t u : Standing) → numbered_of u ≡ put new v (without old (numbered_of t)) → next_of u ≡ next_of t → Some v ≡ find old (numbered_of t) → GivesNumbers t → Follows t u
moved_follows old new v t u e f found w =
    follows_by t u (put new v (without old (numbered_of t))) e (omega (arith, f))
    (λ n lt. each_put (IsAt n (numbered_of t)) new v (without old (numbered_of t)) (each_found (IsAt n (numbered_of t)) old v (numbered_of t) (sym found) (all_at n (numbered_of t) w.alike))
    (each_without (IsAt n (numbered_of t)) old (numbered_of t) (all_at n (numbered_of t) w.alike)))

-- ---- the number of a name is below the next one
below_at : (next n : ℕ) (o : Option Numbered) → ((v : Numbered) → o ≡ Some v → v.0 < next) → option_map (λ (m : Numbered). m.0) o ≡ Some n → n < next
below_at next n None f is = absurd (let g : None ≡ Some n = is in cc)
below_at next n (Some v) f is = subst (λ m. m < next) (some_inside v.0 n is) (f v refl)

pub number_below : (t : Standing) (name : Option Bytes) (n : ℕ) → GivesNumbers t → number_of name t ≡ Some n → n < next_of t
number_below t None n w is = subst (λ m. m < next_of t) (some_inside 0 n is) w.some
number_below t (Some name) n w is =
    below_at (next_of t) n (find name (numbered_of t)) (λ v found. (each_found (IsGiven (next_of t)) name v (numbered_of t) found w.given).1) is
