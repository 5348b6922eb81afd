-- What holds of each index with the number of its tree, along edits of indexes.
use Rattle.std.proofs.Common.{◌≡◌, ◌+◌, ℕ, List, [], ◌∷◌, Bool, true, false, cond, Option, Some, None, Ordering, Less, Equal, Greater, refl, sym, ap, subst, arith}
use Rattle.std.specs.List.{AllByRecursion}
use Rattle.std.specs.Ordering.{is_eq, match_ordering}
use Rattle.reql_datum.specs.Members.{text_order, find, put, without}
use Rattle.reql_rules.specs.Lists.{Bytes}
use Rattle.reql_term.specs.Views.{Index}
use Rattle.reql_memory.proofs.Sorted.{some_inside}
use Rattle.reql_table.specs.Edits.{renamed}
use Rattle.reql_table.specs.Seen.{Standing, Numbered, numbered_of, next_of}
use Rattle.reql_opening.specs.Opens.{IsOnly, Follows}

module _ (P : Numbered → Type 0) where
  abbrev Each : List (Bytes × Numbered) → Type 0
  Each = AllByRecursion (λ (m : Bytes × Numbered). P m.1)

  one_of : (o : Ordering) (us bs cs : List (Bytes × Numbered)) → Each us → Each bs → Each cs → Each (match_ordering o us bs cs)
  one_of Less us bs cs a b c = a
  one_of Equal us bs cs a b c = b
  one_of Greater us bs cs a b c = c

  each_put : (k : Bytes) (v : Numbered) (ms : List (Bytes × Numbered)) → P v → Each ms → Each (put k v ms)
  each_put k v [] p all = (p, tt)
  each_put k v (m ∷ ms) p all = one_of (text_order k m.0) ((k, v) ∷ m ∷ ms) ((m.0, v) ∷ ms) (m ∷ put k v ms) (p, all) (p, all.1) (all.0, each_put k v ms p all.1)

  one_less : (b : Bool) (m : Bytes × Numbered) (ms rest : List (Bytes × Numbered)) → Each (m ∷ ms) → Each rest → Each (cond b ms (m ∷ rest))
  one_less true m ms rest all on = all.1
  one_less false m ms rest all on = (all.0, on)

  each_without : (k : Bytes) (ms : List (Bytes × Numbered)) → Each ms → Each (without k ms)
  each_without k [] all = tt
  each_without k (m ∷ ms) all = one_less (is_eq (text_order k m.0)) m ms (without k ms) all (each_without k ms all.1)

  found_at : (b : Bool) (m : Bytes × Numbered) (o : Option Numbered) (v : Numbered) → cond b (Some m.1) o ≡ Some v → P m.1 → (o ≡ Some v → P v) → P v
  found_at true m o v e p rest = subst P (some_inside m.1 v e) p
  found_at false m o v e p rest = rest e

  each_found : (k : Bytes) (v : Numbered) (ms : List (Bytes × Numbered)) → find k ms ≡ Some v → Each ms → P v
  each_found k v [] e all = absurd cc
  each_found k v (m ∷ ms) e all = found_at (is_eq (text_order k m.0)) m (find k ms) v e all.0 (λ f. each_found k v ms f all.1)

  each_renamed : (old new : Bytes) (o : Option Numbered) (ms : List (Bytes × Numbered)) → find old ms ≡ o → Each ms → Each (renamed old new o ms)
  each_renamed old new None ms e all = all
  each_renamed old new (Some v) ms e all = each_put new v (without old ms) (each_found old v ms e all) (each_without old ms all)

-- ---- trees
module _ (t u : Standing) where
  pub put_follows : (name : Bytes) (i : Index) → numbered_of u ≡ put name (next_of t, i) (numbered_of t) → next_of u ≡ next_of t + 1 → Follows t u
  put_follows name i is next = record {
    next = omega (arith, next);
    trees = λ n j less all. subst (IsOnly n j) (sym is) (each_put (λ v. v.0 ≡ n → v.1 ≡ j) name (next_of t, i) (numbered_of t) (λ e. absurd (omega (arith, e, less))) all);
  }

  pub without_follows : (name : Bytes) → numbered_of u ≡ without name (numbered_of t) → next_of u ≡ next_of t → Follows t u
  without_follows name is next = record {
    next = omega (arith, next);
    trees = λ n j less all. subst (IsOnly n j) (sym is) (each_without (λ v. v.0 ≡ n → v.1 ≡ j) name (numbered_of t) all);
  }

  pub renamed_follows : (old new : Bytes) → numbered_of u ≡ renamed old new (find old (numbered_of t)) (numbered_of t) → next_of u ≡ next_of t → Follows t u
  renamed_follows old new is next = record {
    next = omega (arith, next);
    trees = λ n j less all. subst (IsOnly n j) (sym is) (each_renamed (λ v. v.0 ≡ n → v.1 ≡ j) old new (find old (numbered_of t)) (numbered_of t) refl all);
  }

  -- other documents, the same indexes
  pub same_follows : u.1 ≡ t.1 → Follows t u
  same_follows same = record {
    next = let e : next_of u ≡ next_of t = ap (λ (x : List (Bytes × Numbered) × ℕ). x.1) same in omega (arith, e);
    trees = λ n j less all. subst (λ (x : List (Bytes × Numbered) × ℕ). IsOnly n j x.0) (sym same) all;
  }
