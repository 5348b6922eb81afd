-- What a way down a tree leaves on both hands of a key.
use Rattle.std.specs.Prelude.{◌≡◌, ℕ, ◌+◌, ◌<◌, ◌≤◌, List, [], ◌++◌, length, Bool, true, false, Option, unwrap_or}
use Rattle.std.specs.Option.{option_copied}
use denote.Ref.{Bor}
use Rattle.reql_datum.specs.Plain.{Plain}
use Rattle.reql_datum.specs.Order.{order}
use Rattle.reql_ptree.specs.Pairs.{Opens}
use Rattle.reql_ptree.specs.Next.{is_behind}
use Rattle.reql_ptree.specs.Tall.{least}

-- the pairs of a chunk, if there is one
abbrev pub pairs_in : Option (Bor (List (Plain × Plain))) → List (Plain × Plain)
pairs_in o = unwrap_or (option_copied o) []

-- all pairs lie before the chunk below the key, in it, in the part still to be looked at, in the chunk above the key, or after that
pub record IsWay (k : Plain) (at : Bool) (all below rest above : List (Plain × Plain)) (height rest_height passed : ℕ) : Type 0 where
  pub before : List (Plain × Plain)
  pub after : List (Plain × Plain)
  pub is : all ≡ before ++ (below ++ (rest ++ (above ++ after)))
  pub below_opens : Opens (λ x. is_behind at (order k x) ≡ true) below
  pub none_below : length below ≡ 0 → before ≡ []
  pub above_opens : Opens (λ x. is_behind at (order k x) ≡ false) above
  pub none_above : length above ≡ 0 → after ≡ []
  pub passed_is : passed ≡ length before + length below
  pub low : rest_height ≤ height
  -- what lies outside a part has as many pairs as the heights need
  pub room : least height + length rest ≤ length all + least rest_height
  pub chunk_room : 0 < length below → (0 < height) × (least height + length below ≤ length all + 1)
