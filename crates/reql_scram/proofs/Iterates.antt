-- The rounds of HMAC, one after another.
use Rattle.std.proofs.Common.{◌≡◌, ℕ, ◌+◌, List, [], ◌∷◌, ◌++◌, ap, ◌∙◌, add-one}
use Rattle.reql_scram.specs.Hash.{hmac, iterate, iterates_xored, xored}

pub first_iterate : (password salt first : List ℕ) → first ≡ hmac password (salt ++ (0 ∷ 0 ∷ 0 ∷ 1 ∷ [])) → first ≡ iterate password salt 0
unfolding iterate
first_iterate password salt first e = e

pub next_iterate : (password salt last next : List ℕ) (n : ℕ) → last ≡ iterate password salt n → next ≡ hmac password last → next ≡ iterate password salt (n + 1)
unfolding iterate
next_iterate password salt last next n e f = rw add-one (f ∙ ap (hmac password) e)

pub first_alone : (password salt first : List ℕ) → first ≡ iterate password salt 0 → first ≡ iterates_xored password salt 0
unfolding iterates_xored
first_alone password salt first e = e

pub next_xored : (password salt all next new : List ℕ) (n : ℕ) → all ≡ iterates_xored password salt n → next ≡ iterate password salt (n + 1) → new ≡ xored all next → new ≡ iterates_xored password salt (n + 1)
unfolding iterates_xored
next_xored password salt all next new n e f g = rw add-one (g ∙ ap (λ x. xored x next) e ∙ ap (xored (iterates_xored password salt n)) (rw add-one at f))
