-- How chained text is spelled as JSON.
use Rattle.std.specs.Prelude.{ℕ, List, [], ◌∷◌, ◌++◌, Bool, if◌then◌else◌}
use Rattle.std.specs.Char.{is_ascii_uppercase, to_ascii_lowercase}

-- the name of an option, whose words are joined by underscores and not by capitals
abbrev pub option_byte : ℕ → List ℕ
option_byte b = if is_ascii_uppercase b then 95 ∷ to_ascii_lowercase b ∷ [] else to_ascii_lowercase b ∷ []

abbrev pub option_name : List ℕ → List ℕ
option_name [] = []
option_name (b ∷ bs) = option_byte b ++ option_name bs
