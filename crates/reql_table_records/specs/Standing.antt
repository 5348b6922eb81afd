-- The table that records lead to.
use Rattle.std.specs.Prelude.{◌≡◌, ℕ, List, [], ◌∷◌, Bool, true, false, ◌&&◌, if◌then◌else◌, is_some, Option, Some, None, option_map, option_and_then, Result, Ok, Err}
use Rattle.reql_memory.specs.Sorted.{find_by}
use Rattle.reql_datum.specs.Keys.{is_key}
use Rattle.reql_datum.specs.Members.{find, put, without}
use Rattle.reql_datum.specs.Order.{order}
use Rattle.reql_datum.specs.Plain.{Plain, object}
use Rattle.reql_term.specs.Form.{Form}
use Rattle.reql_term.specs.Views.{Document}
use Rattle.reql_read.specs.Query.{Asked, start, continued, stop, noreply_wait, server_info, query_text}
use Rattle.reql_read.specs.declared.fault.ReadFault.{ReadFault}
use Rattle.reql_rules.specs.Lists.{Bytes}
use Rattle.reql_write_spec.specs.Treated.{set_at}
use Rattle.reql_table_spec.specs.Indexes.{Indexes, is_there}
use Rattle.reql_table_spec.specs.Indexes as indexes
use Rattle.reql_table_records.specs.Records.{Change, Recorded, wrote, created, dropped, renamed, shut}
use Rattle.reql_table_records.specs.Reading.{body_records}

-- the documents by rising key, the indexes by rising name, and whether the table was dropped
pub record Standing : Type 0 where
  pub docs : List Document
  pub indexes : Indexes
  pub shut : Bool

-- a table of nothing
abbrev pub blank : Standing
blank = record { docs = []; indexes = []; shut = false }

-- ---- each record has to fit the table that it is of

abbrev pub is_object : Plain → Bool
is_object (object ms) = true
is_object d = false

-- a document that is left is an object, and one that goes is there
abbrev pub leaves : List Document → Plain → Option Plain → Bool
leaves docs key None = is_some (find_by order key docs)
leaves docs key (Some new) = is_object new

abbrev pub fits : List Document → Change → Bool
fits docs c = is_key c.0 && leaves docs c.0 c.1

abbrev pub with_change : List Document → Change → Option (List Document)
with_change docs c = if fits docs c then Some (set_at c.0 c.1 docs) else None

abbrev pub with_changes : List Document → List Change → Option (List Document)
with_changes docs [] = Some docs
with_changes docs (c ∷ cs) = option_and_then (λ after. with_changes after cs) (with_change docs c)

-- the term that the text of a query starts
abbrev pub started : Asked → Option Form
started (start f s) = Some f
started continued = None
started stop = None
started noreply_wait = None
started server_info = None

abbrev pub started_by : Result Asked ReadFault → Option Form
started_by (Ok a) = started a
started_by (Err e) = None

abbrev pub function_in : Bytes → Option Form
function_in text = started_by (query_text text)

abbrev pub with_index : Bytes → Bool → Bytes → Indexes → Option Indexes
with_index name multi text is = if is_there name is then None else option_map (λ f. put name (f, multi) is) (function_in text)

abbrev pub without_index : Bytes → Indexes → Option Indexes
without_index name is = if is_there name is then Some (without name is) else None

-- the new name may be another index's, which gives way, or the old name
abbrev pub with_renamed : Bytes → Bytes → Indexes → Option Indexes
with_renamed old new is = if is_there old is then Some (indexes.renamed old new (find old is) is) else None

abbrev pub with_indexes : Standing → Option Indexes → Option Standing
with_indexes t is = option_map (λ after. record t { indexes = after }) is

abbrev pub after_open : Standing → Recorded → Option Standing
after_open t (wrote cs) = option_map (λ docs. record t { docs = docs }) (with_changes t.docs cs)
after_open t (created name multi text) = with_indexes t (with_index name multi text t.indexes)
after_open t (dropped name) = with_indexes t (without_index name t.indexes)
after_open t (renamed old new) = with_indexes t (with_renamed old new t.indexes)
after_open t shut = Some (record t { shut = true })

-- nothing follows the record that the table was dropped
abbrev pub after_record : Standing → Recorded → Option Standing
after_record t r = if t.shut then None else after_open t r

abbrev pub after_records : Standing → List Recorded → Option Standing
after_records t [] = Some t
after_records t (r ∷ rs) = option_and_then (λ u. after_records u rs) (after_record t r)

-- ---- the bodies of blocks, one after another

abbrev pub after_body : Standing → List ℕ → Option Standing
after_body t body = option_and_then (after_records t) (body_records body)

abbrev pub after_bodies : Standing → List (List ℕ) → Option Standing
after_bodies t [] = Some t
after_bodies t (body ∷ bodies) = option_and_then (λ u. after_bodies u bodies) (after_body t body)

-- the table that the bodies of a file stand for, if each is of the format
abbrev pub stands : List (List ℕ) → Option Standing
stands bodies = after_bodies blank bodies

-- ---- a step of a program that makes what records stand for

-- whether it was done is whether there is something that it leads to, and that is what is there then
abbrev pub Leads : {A : Type 0} → Bool → Option A → A → Type 0
Leads true meant now = meant ≡ Some now
Leads false meant now = meant ≡ None
