-- A token has one thing open at most.
use Rattle.std.specs.Prelude.{◌≡◌, ℕ, nat_eq, List, [], ◌∷◌, map, cond, false, ⊤}
use Rattle.reql_datum.specs.Plain.{Plain}
use Rattle.reql_session_spec.specs.Requests.{Shown}
use Rattle.reql_session_spec.specs.Books.{Books, Cursor, Open, has_token}

abbrev pub AllApart : List ℕ → Type 0
AllApart [] = ⊤
AllApart (t ∷ ts) = (has_token t ts ≡ false) × AllApart ts

pub record IsApart (b : Books) : Type 0 where
  pub cursors : AllApart (map (λ c. c.token) b.cursors)
  pub feeds : AllApart (map (λ f. f.token) b.feeds)

-- the cursors and the feeds of `with_rest` and `with_left`
abbrev pub cursors_with : ℕ → List Plain → List Cursor → List Cursor
cursors_with token rest cs = map (λ c. cond (nat_eq c.token token) (record c { rest = rest }) c) cs

abbrev pub feeds_with : ℕ → List Shown → List Open → List Open
feeds_with token left fs = map (λ f. cond (nat_eq f.token token) (record f { left = left }) f) fs
