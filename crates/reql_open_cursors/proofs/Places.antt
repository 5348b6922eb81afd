-- What stands at one place of a list whose tokens are apart.
use Rattle.std.proofs.Common.{◌≡◌, ℕ, zero, suc, ◌+◌, ◌<◌, Bool, true, false, true≢false, cond, ◌||◌, List, [], ◌∷◌, map, drop, length, min, get_or, Some, Option, unwrap_or, refl, sym, ap, subst, ◌∙◌, arith}
use Rattle.std.specs.Prelude.{nat_eq}
use Rattle.std.specs.Prelude.{set}
use Rattle.std.proofs.lemmas.Bool.{eqb-true}
use Rattle.std.proofs.lemmas.List.{drop_min, drop-drop}
use Rattle.reql_session_spec.specs.Books.{has_token}
use Rattle.reql_table_machine_spec.proofs.Tracking.{split}
use Rattle.reql_open_cursors.specs.Apart.{AllApart}

pub first_off : (x y : Bool) → (x || y) ≡ false → x ≡ false
first_off true y e = absurd (true≢false e)
first_off false y e = refl

pub second_off : (x y : Bool) → (x || y) ≡ false → y ≡ false
second_off true y e = absurd (true≢false e)
second_off false y e = e

pub or_on : (x y : Bool) → y ≡ true → (x || y) ≡ true
or_on true y e = refl
or_on false y e = e

pub same_some : {X : Type 0} (x y : X) → Some x ≡ Some y → x ≡ y
same_some {X = X} x y e = ap (λ (o : Option X). unwrap_or o x) e

pub drop_later : {X : Type 0} (xs : List X) (from batch : ℕ) → drop (min (from + batch) (length xs)) xs ≡ drop batch (drop from xs)
drop_later xs from batch = drop_min (from + batch) xs ∙ sym (drop-drop batch from xs)

module _ {X : Type 0} (tok : X → ℕ) where
  has_at : (t : ℕ) (xs : List X) (i : ℕ) (d : X) → i < length xs → nat_eq (tok (get_or xs i d)) t ≡ true → has_token t (map tok xs) ≡ true
  has_at t [] i d lt e = absurd (omega arith)
  has_at t (x ∷ xs) zero d lt e = ap (λ b. b || has_token t (map tok xs)) e
  has_at t (x ∷ xs) (suc i) d lt e = or_on (nat_eq (tok x) t) (has_token t (map tok xs)) (has_at t xs i d (omega arith) e)

  abbrev pub put : ℕ → (X → X) → List X → List X
  put token upd xs = map (λ x. cond (nat_eq (tok x) token) (upd x) x) xs

  put_none : (token : ℕ) (upd : X → X) (xs : List X) → has_token token (map tok xs) ≡ false → put token upd xs ≡ xs
  put_none token upd [] off = refl
  put_none token upd (x ∷ xs) off =
      let here : nat_eq (tok x) token ≡ false = first_off (nat_eq (tok x) token) (has_token token (map tok xs)) off in
      rw here (ap (λ ys. x ∷ ys) (put_none token upd xs (second_off (nat_eq (tok x) token) (has_token token (map tok xs)) off)))

  pub set_is : (token : ℕ) (upd : X → X) (xs : List X) (i : ℕ) (d : X) → AllApart (map tok xs) → i < length xs → nat_eq (tok (get_or xs i d)) token ≡ true → set xs i (upd (get_or xs i d)) ≡ put token upd xs
  set_is token upd [] i d apart lt e = absurd (omega arith)
  set_is token upd (x ∷ xs) zero d apart lt e =
      let same : tok x ≡ token = eqb-true (tok x) token e in
      let off : has_token token (map tok xs) ≡ false = subst (λ t. has_token t (map tok xs) ≡ false) same apart.0 in
      rw e (ap (λ ys. upd x ∷ ys) (sym (put_none token upd xs off)))
  set_is token upd (x ∷ xs) (suc i) d apart lt e =
      let tail = set_is token upd xs i d apart.1 (omega arith) e in
      split (nat_eq (tok x) token) (λ b. x ∷ set xs i (upd (get_or xs i d)) ≡ cond b (upd x) x ∷ put token upd xs)
      (λ on. absurd (true≢false (sym (subst (λ t. has_token t (map tok xs) ≡ true) (sym (eqb-true (tok x) token on)) (has_at token xs i d (omega arith) e)) ∙ apart.0)))
      (λ off. ap (λ ys. x ∷ ys) tail)
