-- Walks over arguments, as g sees them: one step, a failed one, and the end.
use Rattle.std.proofs.Common.{◌≡◌, refl, sym, ap, ◌∙◌, ℕ, ◌+◌, ◌-◌, ◌<◌, ◌≤◌, List, [], ◌∷◌, length, get_or, drop, take, map, Ok, Err, arith}
use Rattle.std.proofs.lemmas.List.{drop_all, drop_more, take_all}
use Rattle.reql_datum.specs.Answer.{Answer, ◌>>=◌}
use Rattle.reql_datum.specs.Outcome.{Fails}
use Rattle.reql_datum.specs.Plain.{Plain}
use Rattle.reql_datum.specs.declared.fault.Fault.{Fault}
use Rattle.reql_operand.proofs.Steps.{fails_on}
use Rattle.reql_rules.specs.Lists.{Bytes}
use Rattle.reql_rules.specs.Objects.{put_each, put_new}
use Rattle.reql_value_spec.specs.Fields.{merged_on, named_value}
use Rattle.reql_value_spec.specs.Meant.{Given, Calls}
use Rattle.reql_apply_path.specs.Merged.{one_merged}
use Rattle.reql_apply_path.specs.Pairs.{put_pairs, put_one, paired}
use Rattle.reql_apply_path.proofs.Merges.{merged_first}

rest_is : {X : Type 0} (xs : List X) (i : ℕ) (x : X) → i < length xs → x ≡ get_or xs i x → drop i xs ≡ x ∷ drop (i + 1) xs
rest_is xs i x below here = drop_more xs i x below ∙ ap (λ u. u ∷ drop (i + 1) xs) (sym here)

-- MERGE
module _ {X : Type 0} (calls : Calls) (g : X → Given) (xs : List X) (i : ℕ) where
  pub merged_step : (x : X) (d e : Plain) (all : Answer Plain) → i < length xs → x ≡ get_or xs i x → one_merged calls (g x) d ≡ Ok e
      → all ≡ merged_on calls d (map g (drop i xs)) → all ≡ merged_on calls e (map g (drop (i + 1) xs))
  merged_step x d e all below here gives invariant =
      let gs = map g (drop (i + 1) xs) in
      (rw (rest_is xs i x below here) at invariant) ∙ merged_first calls d (g x) gs ∙ ap (λ r. r >>= λ f. merged_on calls f gs) gives

  pub merged_fails : (x : X) (d : Plain) (e : Fault) (all : Answer Plain) → i < length xs → x ≡ get_or xs i x → Fails e (one_merged calls (g x) d)
      → all ≡ merged_on calls d (map g (drop i xs)) → Fails e all
  merged_fails x d e all below here fails invariant =
      let gs = map g (drop (i + 1) xs) in
      rw ((rw (rest_is xs i x below here) at invariant) ∙ merged_first calls d (g x) gs) (fails_on e (one_merged calls (g x) d) (λ f. merged_on calls f gs) fails)

  pub merged_done : (d : Plain) (all : Answer Plain) → length xs ≤ i → all ≡ merged_on calls d (map g (drop i xs)) → all ≡ Ok d
  merged_done d all past invariant = rw (drop_all i xs past) at invariant

-- OBJECT
pub two_headed : {X : Type 0} (g : X → Given) (xs : List X) (x y : X) → 2 ≤ length xs → x ≡ get_or xs 0 x → y ≡ get_or xs 1 y
    → map g xs ≡ g x ∷ g y ∷ map g (take (length xs - 2) (drop 2 xs))
two_headed g [] x y some here there = absurd (omega arith)
two_headed g (a ∷ []) x y some here there = absurd (omega arith)
two_headed g (a ∷ b ∷ xs) x y some here there =
    ap (λ z. g z ∷ g b ∷ map g xs) (sym here) ∙ ap (λ z. g x ∷ g z ∷ map g xs) (sym there) ∙ ap (λ zs. g x ∷ g y ∷ map g zs) (sym (take_all (length (a ∷ b ∷ xs) - 2) xs (omega arith)))

put_on : (r : Answer (Bytes × Plain)) (ms : List (Bytes × Plain)) (gs : List Given)
    → (r >>= λ m. (put_new m.0 m.1 ms >>= λ ns. put_each named_value ns (paired gs))) ≡ ((r >>= λ m. put_new m.0 m.1 ms) >>= λ ns. put_pairs ns gs)
put_on (Ok m) ms gs = refl
put_on (Err e) ms gs = refl

pub put_first : (ms : List (Bytes × Plain)) (k v : Given) (gs : List Given) → put_pairs ms (k ∷ v ∷ gs) ≡ (put_one ms k v >>= λ ns. put_pairs ns gs)
put_first ms k v gs = put_on (named_value (k, v)) ms gs

module _ {X : Type 0} (see : X → Given) (xs : List X) (x y : X) (ms : List (Bytes × Plain)) (all : Answer (List (Bytes × Plain)))
    (some : 2 ≤ length xs) (here : x ≡ get_or xs 0 x) (there : y ≡ get_or xs 1 y) (invariant : all ≡ put_pairs ms (map see xs)) where
  begun : all ≡ (put_one ms (see x) (see y) >>= λ ns. put_pairs ns (map see (take (length xs - 2) (drop 2 xs))))
  begun =
      invariant ∙ ap (λ gs. put_pairs ms gs) (two_headed see xs x y some here there)
      ∙ put_first ms (see x) (see y) (map see (take (length xs - 2) (drop 2 xs)))

  pub put_step : (ns : List (Bytes × Plain)) → put_one ms (see x) (see y) ≡ Ok ns → all ≡ put_pairs ns (map see (take (length xs - 2) (drop 2 xs)))
  put_step ns gives = begun ∙ ap (λ r. r >>= λ ls. put_pairs ls (map see (take (length xs - 2) (drop 2 xs)))) gives

  pub put_fails : (e : Fault) → Fails e (put_one ms (see x) (see y)) → Fails e all
  put_fails e fails = rw begun (fails_on e (put_one ms (see x) (see y)) (λ ls. put_pairs ls (map see (take (length xs - 2) (drop 2 xs)))) fails)

pub put_done : {X : Type 0} (see : X → Given) (xs : List X) (ms : List (Bytes × Plain)) (all : Answer (List (Bytes × Plain)))
    → length xs < 2 → all ≡ put_pairs ms (map see xs) → all ≡ Ok ms
put_done see [] ms all few invariant = invariant
put_done see (a ∷ []) ms all few invariant = invariant
put_done see (a ∷ b ∷ xs) ms all few invariant = absurd (omega (arith, few))
