-- What is left where what a token has open is left out.
use Rattle.std.proofs.Common.{◌≡◌, ◌<◌, ℕ, zero, suc, Bool, true, false, not, cond, List, [], ◌∷◌, map, filter, length, get_or, remove, Some, refl, sym, ap, subst, ◌∙◌, arith}
use Rattle.std.specs.Prelude.{nat_eq}
use Rattle.reql_table_machine_spec.proofs.Tracking.{split}
use Rattle.reql_session_spec.specs.Books.{feed_of}
use Rattle.reql_open_cursors.specs.Kept.{cursor_kept, feed_kept}
use Rattle.reql_open_cursors.specs.declared.open.Cursor.{Cursor}
use Rattle.reql_open_cursors.specs.declared.open.Open.{Open}

filter_kept : {X Y : Type 0} (f : X → Y) (p : Y → Bool) (xs : List X) → map f (filter (λ x. p (f x)) xs) ≡ filter p (map f xs)
filter_kept f p [] = refl
filter_kept f p (x ∷ xs) = split (p (f x)) (λ b. map f (cond b (x ∷ filter (λ y. p (f y)) xs) (filter (λ y. p (f y)) xs)) ≡ cond b (f x ∷ filter p (map f xs)) (filter p (map f xs)))
    (λ _. ap (λ ys. f x ∷ ys) (filter_kept f p xs)) (λ _. filter_kept f p xs)

pub cursors_kept : (token : ℕ) (cs new : List Cursor) → new ≡ filter (λ c. not (nat_eq c.token token)) cs → map cursor_kept new ≡ filter (λ c. not (nat_eq c.token token)) (map cursor_kept cs)
cursors_kept token cs new is = ap (map cursor_kept) is ∙ filter_kept cursor_kept (λ c. not (nat_eq c.token token)) cs

pub feeds_kept : (token : ℕ) (fs new : List Open) → new ≡ filter (λ f. not (nat_eq f.token token)) fs → map feed_kept new ≡ filter (λ f. not (nat_eq f.token token)) (map feed_kept fs)
feeds_kept token fs new is = ap (map feed_kept) is ∙ filter_kept feed_kept (λ f. not (nat_eq f.token token)) fs

-- what stands at one place is taken out

filter_removed : {X : Type 0} (p : X → Bool) (xs : List X) (i : ℕ) → i < length xs → ((e : X) → p (get_or xs i e) ≡ false) → filter p (remove xs i) ≡ filter p xs
filter_removed p [] i lt off = absurd (omega arith)
filter_removed p (x ∷ xs) zero lt off = sym (ap (λ b. cond b (x ∷ filter p xs) (filter p xs)) (off x))
filter_removed p (x ∷ xs) (suc i) lt off = ap (λ ys. cond (p x) (x ∷ ys) ys) (filter_removed p xs i (omega arith) off)

pub feed_taken : (token : ℕ) (seen fs : List Open) (i : ℕ) (out : Open) → seen ≡ fs → out ≡ get_or fs i out → ((e : Open) → feed_of token (map feed_kept seen) ≡ Some (feed_kept (get_or seen i e))) → Some (feed_kept out) ≡ feed_of token (map feed_kept fs)
feed_taken token seen fs i out same is there =
    ap (λ f. Some (feed_kept f)) is ∙ sym (subst (λ s. feed_of token (map feed_kept s) ≡ Some (feed_kept (get_or s i out))) same (there out))

pub others_left : (token : ℕ) (seen fs new : List Open) (i : ℕ) → seen ≡ fs → i < length seen → ((e : Open) → nat_eq (get_or seen i e).token token ≡ true) → new ≡ remove fs i
    → filter (λ (f : Open). not (nat_eq f.token token)) new ≡ filter (λ (f : Open). not (nat_eq f.token token)) fs
others_left token seen fs new i same lt on is =
    ap (filter (λ (f : Open). not (nat_eq f.token token))) (is ∙ ap (λ s. remove s i) (sym same))
    ∙ filter_removed (λ (f : Open). not (nat_eq f.token token)) seen i lt (λ e. ap not (on e))
    ∙ ap (filter (λ (f : Open). not (nat_eq f.token token))) same
