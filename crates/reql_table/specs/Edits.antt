-- Edits of a table, and of the trees of its indexes, where a document comes, goes or becomes another.
use Rattle.std.specs.Prelude.{List, [], ◌∷◌, Option, Some, None, option_map}
use Rattle.std.specs.Borrow.{Bor}
use Rattle.reql_datum.specs.Members.{put as put_named, without as without_named}
use Rattle.reql_datum.specs.Plain.{Plain}
use Rattle.reql_datum.specs.View.{plain}
use Rattle.reql_datum.specs.declared.datum.Datum.{Datum}
use Rattle.reql_ptree.specs.Pairs.{put, without}
use Rattle.reql_term.specs.Views.{Document, Index}
use Rattle.reql_rules.specs.Lists.{Bytes, array_of}
use Rattle.reql_value_spec.specs.Index.{entries}
use Rattle.reql_write_spec.specs.Treated.{Changed, set_at}
use Rattle.reql_write_spec.specs.declared.command.Change.{Change}
use Rattle.reql_table.specs.declared.refile.Turn.{Turn}

abbrev Pairs : Type 0
Pairs = List (Plain × Plain)

-- the key of the entry that the document at k has at a value
abbrev pub entry_key : Plain → Plain → Plain
entry_key k v = array_of (v ∷ k ∷ [])

-- without the entries at the values of the document at k
abbrev pub taken : Plain → List Plain → Pairs → Pairs
taken k [] ms = ms
taken k (v ∷ vs) ms = taken k vs (without (entry_key k v) ms)

-- with an entry of a document at each of the values
abbrev pub filed : Document → List Plain → Pairs → Pairs
filed m [] ms = ms
filed m (v ∷ vs) ms = filed m vs (put (entry_key m.0 v) m.1 ms)

-- with the entries of documents
abbrev pub all_filed : Index → List Document → Pairs → Pairs
all_filed i [] ms = ms
all_filed i (m ∷ docs) ms = all_filed i docs (filed m (entries i m.1) ms)

-- the values at which a document that may be there has entries
abbrev pub entries_if : Index → Option Plain → List Plain
entries_if i None = []
entries_if i (Some d) = entries i d

-- a document that may be there, as it is lent
abbrev pub seen_if : Option (Bor Datum) → Option Plain
seen_if o = option_map (λ d. plain d.now) o

-- the documents after one of them turned
abbrev pub key_at : Turn → Plain
key_at t = plain t.key.now

abbrev pub turned : Turn → List Document → List Document
turned t docs = set_at (key_at t) (seen_if t.new) docs

-- a change as definitions speak of it
abbrev pub told : Change → Changed
told c = record { key = plain c.key; old = option_map plain c.old; new = option_map plain c.new }

-- what is at one name of a map stands at another, whose own goes
abbrev pub renamed : {V : Type 0} → Bytes → Bytes → Option V → List (Bytes × V) → List (Bytes × V)
renamed old new None ms = ms
renamed old new (Some v) ms = put_named new v (without_named old ms)
