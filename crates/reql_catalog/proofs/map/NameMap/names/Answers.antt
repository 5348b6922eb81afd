use Rattle.std.proofs.Common.{◌≡◌, ℕ, List, map, sym, ap, ◌∙◌}
use Rattle.std.specs.Map.{keys_of}
use Rattle.reql_datum.specs.Plain.{text}
use Rattle.reql_catalog.proofs.Shown.{names_shown}
use Rattle.reql_catalog.proofs.map.NameMap.names.Goals as goal

pub returns : goal.returns
returns g c = c.in_ok-names.ensures ∙ sym (names_shown c.rows.result.now) ∙ ap (λ (t : List (List ℕ × g.row.V.Denot)). map text (keys_of t)) c.rows.ensures.rows
