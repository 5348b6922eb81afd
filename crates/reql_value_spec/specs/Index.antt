-- Secondary indexes: the entries of a document, and the index list of a table (ReQL API reference: indexCreate).
use Rattle.std.specs.Prelude.{ℕ, List, [], ◌∷◌, map, Bool, true, if◌then◌else◌, Option, Some, None, Ok, Err}
use Rattle.std.specs.List.{filter, flat_map}
use Rattle.reql_datum.specs.Answer.{Answer, ◌>>=◌}
use Rattle.reql_datum.specs.Keys.{is_key}
use Rattle.reql_datum.specs.Members.{find}
use Rattle.reql_datum.specs.Plain.{Plain, array, listed}
use Rattle.reql_term.specs.Form.{Form}
use Rattle.reql_term.specs.Views.{Document, Entry, Index, entry_order}
use Rattle.reql_rules.specs.Lists.{Bytes}
use Rattle.reql_rules.specs.Sorting.{sorted, distinct}
use Rattle.reql_value_spec.specs.Meaning.{function_value}
use Rattle.reql_value_spec.specs.Wanted.{to_datum}
use Rattle.reql_value_spec.specs.World.{View, bare_world}

-- what the function of an index gives of a document
abbrev pub index_value : Form → Plain → Answer Plain
index_value f d = function_value f bare_world (d ∷ []) >>= to_datum

-- a key is an entry; of an array in a multi index each distinct key
abbrev pub entries_of_value : Bool → Plain → List Plain
entries_of_value true (array vs) = distinct (filter is_key (listed vs))
entries_of_value multi d = if is_key d then d ∷ [] else []

abbrev pub entries_of_answer : Bool → Answer Plain → List Plain
entries_of_answer multi (Ok d) = entries_of_value multi d
entries_of_answer multi (Err e) = []

-- the entries of a document, rising, each once; a fault gives none
abbrev pub entries : Index → Plain → List Plain
entries i d = entries_of_answer i.1 (index_value i.0 d)

abbrev pub document_entries : Index → Document → List Entry
document_entries i m = map (λ v. (v, m)) (entries i m.1)

-- the entries of all documents, by the index value, then by primary key
abbrev pub index_list : List Document → Index → List Entry
index_list documents i = sorted entry_order (flat_map (document_entries i) documents)

abbrev pub or_none : Option (List Entry) → List Entry
or_none None = []
or_none (Some es) = es

abbrev pub list_of : List Document → Option Index → Option (List Entry)
list_of documents None = None
list_of documents (Some i) = Some (index_list documents i)

abbrev pub index_lists : List Document → List (Bytes × Index) → Bytes → List Entry
index_lists documents indexes name = or_none (list_of documents (find name indexes))

-- a plain table as terms read it
abbrev pub plain_view : Bytes → ℕ → Bytes → Bytes → List Document → List (Bytes × Index) → View
plain_view db db_number name key documents indexes = record { db = db; db_number = db_number; name = name; key = key; documents = documents; indexes = indexes; entries = index_lists documents indexes }
