-- The options of a term, as a list.
use Rattle.std.proofs.Common.{◌≡◌, List, [], ◌∷◌, refl, ap}
use Rattle.reql_term.specs.Form.{Form, named_of}
use Rattle.reql_rules.specs.Lists.{Bytes}
use Rattle.reql_table_spec.specs.Followed.{options}

pub options_seen : (ms : List (Bytes × Form)) → options (named_of ms) ≡ ms
options_seen [] = refl
options_seen (m ∷ ms) = ap (λ ns. m ∷ ns) (options_seen ms)
