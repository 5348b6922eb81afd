-- The numbers of a table's trees, as indexes come, go and are renamed: each index has a tree of its own.
use Rattle.std.proofs.Common.{◌≡◌, ◌+◌, ◌<◌, ℕ, nat_eq, List, [], ◌∷◌, Bool, true, false, Option, Some, None, Ordering, Less, Equal, Greater, refl, sym, ap, subst, arith}
use Rattle.std.specs.List.Sorted.{IsStrictlySortedBy}
use borrow.Author.Tests.{eqb-true, eqb-false, ne_eqb}
use Rattle.reql_memory.proofs.Sorted.{some_inside}
use Rattle.reql_datum.specs.Members.{find, put, without, text_order}
use Rattle.reql_rules.specs.Lists.{Bytes}
use Rattle.reql_term.specs.Views.{Index}
use Rattle.reql_table.specs.Edits.{renamed}
use Rattle.reql_table.specs.Seen.{Numbered, Standing, numbered_of, next_of, Each, IsGiven, IsAlike, AreNumbered, GivesNumbers, Keeps}
use Rattle.reql_table.specs.Trees.{HasOwnTrees, index_at}

-- ---- what holds of each index
module _ (P : Numbered → Type 0) where
  put_at : (name : Bytes) (v : Numbered) (m : Bytes × Numbered) (ms : List (Bytes × Numbered)) (o : Ordering) → text_order name m.0 ≡ o → P v → Each P (m ∷ ms) → Each P (put name v ms) → Each P (put name v (m ∷ ms))
  put_at name v m ms Less is h all rest = rw is (h, all)
  put_at name v m ms Equal is h all rest = rw is (h, all.1)
  put_at name v m ms Greater is h all rest = rw is (all.0, rest)

  pub each_put : (name : Bytes) (v : Numbered) (ms : List (Bytes × Numbered)) → P v → Each P ms → Each P (put name v ms)
  each_put name v [] h all = (h, tt)
  each_put name v (m ∷ ms) h all = put_at name v m ms (text_order name m.0) refl h all (each_put name v ms h all.1)

  without_at : (name : Bytes) (m : Bytes × Numbered) (ms : List (Bytes × Numbered)) (o : Ordering) → text_order name m.0 ≡ o → Each P (m ∷ ms) → Each P (without name ms) → Each P (without name (m ∷ ms))
  without_at name m ms Less is all rest = rw is (all.0, rest)
  without_at name m ms Equal is all rest = rw is (all.1)
  without_at name m ms Greater is all rest = rw is (all.0, rest)

  pub each_without : (name : Bytes) (ms : List (Bytes × Numbered)) → Each P ms → Each P (without name ms)
  each_without name [] all = tt
  each_without name (m ∷ ms) all = without_at name m ms (text_order name m.0) refl all (each_without name ms all.1)

  found_at : (name : Bytes) (v : Numbered) (m : Bytes × Numbered) (ms : List (Bytes × Numbered)) (o : Ordering) → text_order name m.0 ≡ o → find name (m ∷ ms) ≡ Some v → P m.1 → (find name ms ≡ Some v → P v) → P v
  found_at name v m ms Less is found here rest = rest (rw is at found)
  found_at name v m ms Equal is found here rest = subst P (some_inside m.1 v (rw is at found)) here
  found_at name v m ms Greater is found here rest = rest (rw is at found)

  pub each_found : (name : Bytes) (v : Numbered) (ms : List (Bytes × Numbered)) → find name ms ≡ Some v → Each P ms → P v
  each_found name v [] found all = absurd (let f : None ≡ Some v = found in cc)
  each_found name v (m ∷ ms) found all = found_at name v m ms (text_order name m.0) refl found all.0 (λ rest. each_found name v ms rest all.1)

pub each_both : (P Q R : Numbered → Type 0) → ((a : Numbered) → P a → Q a → R a) → (ms : List (Bytes × Numbered)) → Each P ms → Each Q ms → Each R ms
each_both P Q R f [] p q = tt
each_both P Q R f (m ∷ ms) p q = (f m.1 p.0 q.0, each_both P Q R f ms p.1 q.1)

pub each_one : (P Q : Numbered → Type 0) → ((a : Numbered) → P a → Q a) → (ms : List (Bytes × Numbered)) → Each P ms → Each Q ms
each_one P Q f [] p = tt
each_one P Q f (m ∷ ms) p = (f m.1 p.0, each_one P Q f ms p.1)

-- ---- edits
put_numbered : (name : Bytes) (v : Numbered) (ms : List (Bytes × Numbered)) (next : ℕ) → IsGiven next v → Each (IsAlike v) ms → AreNumbered ms next → AreNumbered (put name v ms) next
put_numbered name v ms next given alike w = record {
  some = w.some;
  given = each_put (IsGiven next) name v ms given w.given;
  alike =
      each_put (λ a. Each (IsAlike a) (put name v ms)) name v ms
      (each_put (IsAlike v) name v ms (λ _. refl) alike)
      (each_both (IsAlike v) (λ a. Each (IsAlike a) ms) (λ a. Each (IsAlike a) (put name v ms)) (λ a one all. each_put (IsAlike a) name v ms (λ e. sym (one (sym e))) all) ms alike w.alike);
}

out_numbered : (name : Bytes) (ms : List (Bytes × Numbered)) (next : ℕ) → AreNumbered ms next → AreNumbered (without name ms) next
out_numbered name ms next w = record {
  some = w.some;
  given = each_without (IsGiven next) name ms w.given;
  alike =
      each_without (λ a. Each (IsAlike a) (without name ms)) name ms
      (each_one (λ a. Each (IsAlike a) ms) (λ a. Each (IsAlike a) (without name ms)) (λ a all. each_without (IsAlike a) name ms all) ms w.alike);
}

new_numbered : (name : Bytes) (i : Index) (ms : List (Bytes × Numbered)) (next : ℕ) → AreNumbered ms next → AreNumbered (put name (next, i) ms) (next + 1)
new_numbered name i ms next w =
    let above : AreNumbered ms (next + 1) = record {
      some = omega (arith, w.some);
      given = each_one (IsGiven next) (IsGiven (next + 1)) (λ a h. (h.0, omega (arith, h.1))) ms w.given;
      alike = w.alike;
    } in
    put_numbered name (next, i) ms (next + 1) (w.some, omega arith)
    (each_one (IsGiven next) (IsAlike (next, i)) (λ a h e. absurd (omega (arith, h.1, e))) ms w.given) above

moved_numbered : (old new : Bytes) (found : Option Numbered) (ms : List (Bytes × Numbered)) (next : ℕ) → find old ms ≡ found → AreNumbered ms next → AreNumbered (renamed old new found ms) next
moved_numbered old new None ms next is w = w
moved_numbered old new (Some v) ms next is w =
    put_numbered new v (without old ms) next (each_found (IsGiven next) old v ms is w.given)
    (each_without (IsAlike v) old ms (each_found (λ a. Each (IsAlike a) ms) old v ms is w.alike)) (out_numbered old ms next w)

-- ---- lists that are equal to such
pub more_numbered : (name : Bytes) (i : Index) (ms ns : List (Bytes × Numbered)) (next after : ℕ) → ns ≡ put name (next, i) ms → after ≡ next + 1 → AreNumbered ms next → AreNumbered ns after
more_numbered name i ms ns next after e f w = subst (AreNumbered ns) (sym f) (subst (λ ms. AreNumbered ms (next + 1)) (sym e) (new_numbered name i ms next w))

pub fewer_numbered : (name : Bytes) (ms ns : List (Bytes × Numbered)) (next after : ℕ) → ns ≡ without name ms → after ≡ next → AreNumbered ms next → AreNumbered ns after
fewer_numbered name ms ns next after e f w = subst (AreNumbered ns) (sym f) (subst (λ ms. AreNumbered ms next) (sym e) (out_numbered name ms next w))

pub renamed_numbered : (old new : Bytes) (v : Numbered) (ms ns : List (Bytes × Numbered)) (next after : ℕ) → ns ≡ put new v (without old ms) → after ≡ next → Some v ≡ find old ms → AreNumbered ms next → AreNumbered ns after
renamed_numbered old new v ms ns next after e f found w = subst (AreNumbered ns) (sym f) (subst (λ ms. AreNumbered ms next) (sym e) (moved_numbered old new (Some v) ms next (sym found) w))

-- a table of nothing
pub keeps_nothing : Keeps [] [] 1
unfolding IsStrictlySortedBy
keeps_nothing = record { documents_rise = tt; names_rise = tt; filed = tt; numbers = record { some = omega arith; given = tt; alike = tt } }

-- ---- the tree of a number
other_at : (name : Bytes) (v : Numbered) (m : Bytes × Numbered) (ms : List (Bytes × Numbered)) (o : Ordering) → text_order name m.0 ≡ o → nat_eq m.1.0 v.0 ≡ false → find name (m ∷ ms) ≡ Some v → find name ms ≡ Some v
other_at name v m ms Less is other found = rw is at found
other_at name v m ms Equal is other found = absurd (eqb-false m.1.0 v.0 other (ap (λ (w : Numbered). w.0) (some_inside m.1 v (rw is at found))))
other_at name v m ms Greater is other found = rw is at found

number_here : (v : Numbered) (m : Bytes × Numbered) (ms : List (Bytes × Numbered)) (b : Bool) → nat_eq m.1.0 v.0 ≡ b → IsAlike v m.1 → (nat_eq m.1.0 v.0 ≡ false → index_at v.0 ms ≡ Some v.1) → index_at v.0 (m ∷ ms) ≡ Some v.1
number_here v m ms true is one rest = rw is (ap Some (sym (one (sym (eqb-true m.1.0 v.0 is)))))
number_here v m ms false is one rest = rw is (rest is)

at_number : (name : Bytes) (v : Numbered) (ms : List (Bytes × Numbered)) → find name ms ≡ Some v → Each (IsAlike v) ms → index_at v.0 ms ≡ Some v.1
at_number name v [] found all = absurd (let f : None ≡ Some v = found in cc)
at_number name v (m ∷ ms) found all =
    number_here v m ms (nat_eq m.1.0 v.0) refl all.0 (λ other. at_number name v ms (other_at name v m ms (text_order name m.0) refl other found) all.1)

above_zero : (n : ℕ) → 0 < n → nat_eq n 0 ≡ false
above_zero n lt = ne_eqb n 0 (λ e. absurd (omega (arith, lt, e)))

pub own_trees : (t : Standing) → GivesNumbers t → HasOwnTrees t
own_trees t w name m found = (
  above_zero m.0 (each_found (IsGiven (next_of t)) name m (numbered_of t) found w.given).0,
  at_number name m (numbered_of t) found (each_found (λ a. Each (IsAlike a) (numbered_of t)) name m (numbered_of t) found w.alike),
)
