-- Tokens that wait, whose feeds have nothing left.
use Rattle.std.specs.Prelude.{◌≡◌, ℕ, List, [], ◌∷◌, Option, Some, None, false, ⊤}
use Rattle.reql_session_spec.specs.Books.{Open, has_token, feed_of}

abbrev pub IsQuiet : Option Open → Type 0
IsQuiet None = ⊥
IsQuiet (Some f) = f.left ≡ []

-- tokens that are apart from one another, each with a feed of which nothing is left
abbrev pub AllQuiet : List Open → List ℕ → Type 0
AllQuiet fs [] = ⊤
AllQuiet fs (t ∷ ts) = (has_token t ts ≡ false) × IsQuiet (feed_of t fs) × AllQuiet fs ts
