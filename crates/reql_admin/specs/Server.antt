-- What a server tells of itself (RethinkDB's drivers: server).
use Rattle.std.specs.Prelude.{[], ◌∷◌, false, codes}
use Rattle.reql_datum.specs.Plain.{Plain, boolean, text}
use Rattle.reql_rules.specs.Lists.{object_of}

abbrev pub server : Plain
server = object_of (
    (codes "id", text (codes "00000000-0000-0000-0000-000000000000")) ∷
    (codes "name", text (codes "reqld")) ∷
    (codes "proxy", boolean false) ∷ [])
