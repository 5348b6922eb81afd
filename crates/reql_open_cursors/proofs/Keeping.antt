-- What keeps the tokens of books apart.
use Rattle.std.proofs.Common.{◌≡◌, ℕ, Bool, true, false, true≢false, not, cond, ◌||◌, List, [], ◌∷◌, ◌++◌, map, filter, Some, is_some, refl, sym, ap, subst, ◌∙◌}
use Rattle.std.specs.Prelude.{nat_eq}
use Rattle.std.proofs.lemmas.Bool.{eqb-true, eq-eqb}
use Rattle.std.proofs.lemmas.List.{map-append}
use Rattle.reql_datum.specs.Plain.{Plain}
use Rattle.reql_table_machine_spec.proofs.Tracking.{split}
use Rattle.reql_session_spec.specs.Requests.{Shown}
use Rattle.reql_session_spec.specs.Books.{Books, Cursor, Open, has_token, cursor_of, feed_of, is_open, closed, with_rest, with_left, with_cursor, with_feed}
use Rattle.reql_open_cursors.specs.Apart.{AllApart, IsApart}
use Rattle.reql_open_cursors.proofs.Places.{first_off, second_off}

pub turned : (t u : ℕ) → nat_eq t u ≡ false → nat_eq u t ≡ false
turned t u off = split (nat_eq u t) (λ b. b ≡ false) (λ on. absurd (true≢false (sym (eq-eqb t u (sym (eqb-true u t on))) ∙ off))) (λ _. refl)

pub or_off : (x y : Bool) → x ≡ false → y ≡ false → (x || y) ≡ false
or_off true y e f = e
or_off false y e f = f

pub has_push : (t u : ℕ) (ts : List ℕ) → has_token t ts ≡ false → nat_eq u t ≡ false → has_token t (ts ++ u ∷ []) ≡ false
has_push t u [] off other = or_off (nat_eq u t) false other refl
has_push t u (v ∷ ts) off other = or_off (nat_eq v t) (has_token t (ts ++ u ∷ [])) (first_off (nat_eq v t) (has_token t ts) off) (has_push t u ts (second_off (nat_eq v t) (has_token t ts) off) other)

apart_push : (ts : List ℕ) (t : ℕ) → AllApart ts → has_token t ts ≡ false → AllApart (ts ++ t ∷ [])
apart_push [] t apart off = (refl, tt)
apart_push (u ∷ ts) t apart off =
    (has_push u t ts apart.0 (turned u t (first_off (nat_eq u t) (has_token t ts) off)), apart_push ts t apart.1 (second_off (nat_eq u t) (has_token t ts) off))

module _ {X : Type 0} (tok : X → ℕ) where
  has_filter : (p : X → Bool) (t : ℕ) (xs : List X) → has_token t (map tok xs) ≡ false → has_token t (map tok (filter p xs)) ≡ false
  has_filter p t [] off = refl
  has_filter p t (x ∷ xs) off =
      let here = first_off (nat_eq (tok x) t) (has_token t (map tok xs)) off in
      let later = has_filter p t xs (second_off (nat_eq (tok x) t) (has_token t (map tok xs)) off) in
      split (p x) (λ b. has_token t (map tok (cond b (x ∷ filter p xs) (filter p xs))) ≡ false)
      (λ _. or_off (nat_eq (tok x) t) (has_token t (map tok (filter p xs))) here later) (λ _. later)

  apart_filter : (p : X → Bool) (xs : List X) → AllApart (map tok xs) → AllApart (map tok (filter p xs))
  apart_filter p [] apart = tt
  apart_filter p (x ∷ xs) apart =
      split (p x) (λ b. AllApart (map tok (cond b (x ∷ filter p xs) (filter p xs))))
      (λ _. (has_filter p (tok x) xs apart.0, apart_filter p xs apart.1)) (λ _. apart_filter p xs apart.1)

  apart_more : (xs : List X) (x : X) → AllApart (map tok xs) → has_token (tok x) (map tok xs) ≡ false → AllApart (map tok (xs ++ x ∷ []))
  apart_more xs x apart off = subst AllApart (sym (map-append tok xs (x ∷ []))) (apart_push (map tok xs) (tok x) apart off)

no_cursor : (t : ℕ) (cs : List Cursor) → is_some (cursor_of t cs) ≡ false → has_token t (map (λ c. c.token) cs) ≡ false
no_cursor t [] off = refl
no_cursor t (c ∷ cs) off = split (nat_eq c.token t) (λ b. is_some (cond b (Some c) (cursor_of t cs)) ≡ false → (b || has_token t (map (λ x. x.token) cs)) ≡ false) (λ _ e. absurd (true≢false e)) (λ _ e. no_cursor t cs e) off

no_feed : (t : ℕ) (fs : List Open) → is_some (feed_of t fs) ≡ false → has_token t (map (λ f. f.token) fs) ≡ false
no_feed t [] off = refl
no_feed t (f ∷ fs) off = split (nat_eq f.token t) (λ b. is_some (cond b (Some f) (feed_of t fs)) ≡ false → (b || has_token t (map (λ x. x.token) fs)) ≡ false) (λ _ e. absurd (true≢false e)) (λ _ e. no_feed t fs e) off

rest_tokens : (t : ℕ) (rest : List Plain) (cs : List Cursor) → map (λ c. c.token) (map (λ (c : Cursor). cond (nat_eq c.token t) (record c { rest = rest }) c) cs) ≡ map (λ c. c.token) cs
rest_tokens t rest [] = refl
rest_tokens t rest (c ∷ cs) = split (nat_eq c.token t) (λ b. (cond b (record c { rest = rest }) c).token ∷ map (λ x. x.token) (map (λ (x : Cursor). cond (nat_eq x.token t) (record x { rest = rest }) x) cs) ≡ c.token ∷ map (λ x. x.token) cs)
    (λ _. ap (λ ts. c.token ∷ ts) (rest_tokens t rest cs)) (λ _. ap (λ ts. c.token ∷ ts) (rest_tokens t rest cs))

left_tokens : (t : ℕ) (left : List Shown) (fs : List Open) → map (λ f. f.token) (map (λ (f : Open). cond (nat_eq f.token t) (record f { left = left }) f) fs) ≡ map (λ f. f.token) fs
left_tokens t left [] = refl
left_tokens t left (f ∷ fs) = split (nat_eq f.token t) (λ b. (cond b (record f { left = left }) f).token ∷ map (λ x. x.token) (map (λ (x : Open). cond (nat_eq x.token t) (record x { left = left }) x) fs) ≡ f.token ∷ map (λ x. x.token) fs)
    (λ _. ap (λ ts. f.token ∷ ts) (left_tokens t left fs)) (λ _. ap (λ ts. f.token ∷ ts) (left_tokens t left fs))

pub opens_cursor : (b : Books) (c : Cursor) → IsApart b → is_open c.token b ≡ false → IsApart (with_cursor c b)
opens_cursor b c apart off = record {
  cursors = apart_more (λ (x : Cursor). x.token) b.cursors c apart.cursors (no_cursor c.token b.cursors (first_off (is_some (cursor_of c.token b.cursors)) (is_some (feed_of c.token b.feeds)) off));
  feeds = apart.feeds;
}

pub opens_feed : (b : Books) (f : Open) → IsApart b → is_open f.token b ≡ false → IsApart (with_feed f b)
opens_feed b f apart off = record {
  cursors = apart.cursors;
  feeds = apart_more (λ (x : Open). x.token) b.feeds f apart.feeds (no_feed f.token b.feeds (second_off (is_some (cursor_of f.token b.cursors)) (is_some (feed_of f.token b.feeds)) off));
}

pub closes : (b : Books) (t : ℕ) → IsApart b → IsApart (closed t b)
closes b t apart = record {
  cursors = apart_filter (λ (c : Cursor). c.token) (λ c. not (nat_eq c.token t)) b.cursors apart.cursors;
  feeds = apart_filter (λ (f : Open). f.token) (λ f. not (nat_eq f.token t)) b.feeds apart.feeds;
}

pub goes_on : (b : Books) (t : ℕ) (rest : List Plain) → IsApart b → IsApart (with_rest t rest b)
goes_on b t rest apart = record { cursors = subst AllApart (sym (rest_tokens t rest b.cursors)) apart.cursors; feeds = apart.feeds }

pub goes_on_with : (b : Books) (t : ℕ) (left : List Shown) → IsApart b → IsApart (with_left t left b)
goes_on_with b t left apart = record { cursors = apart.cursors; feeds = subst AllApart (sym (left_tokens t left b.feeds)) apart.feeds }
