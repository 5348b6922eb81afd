-- What a body asks for: the query, or the first fault. And whether it wants no answer.
use Rattle.std.specs.Prelude.{ℕ, List, codes, Bool, false, ◌&&◌, cond, Option, Some, None, option_and_then, Result, Ok, Err}
use Rattle.std.specs.Str.{is_utf8}
use Rattle.serde_json.specs.Data.{Data, Items, no_items, item}
use Rattle.serde_json.specs.Find.{as_bool, as_array, get}
use Rattle.serde_json.specs.Read as json
use Rattle.reql_datum.specs.Answer.{◌>>=◌}
use Rattle.reql_term.specs.Form.{Form}
use Rattle.reql_read.specs.Globals.{is_number, as_whole, settings_of}
use Rattle.reql_read.specs.Reading.{read}
use Rattle.reql_read.specs.Shape.{shaped_query}
use Rattle.reql_read.specs.Shape as shape
use Rattle.reql_read.specs.declared.fault.ReadFault.{ReadFault}
use Rattle.reql_read.specs.declared.fault.ReadFault.TheVariants.{NotJson}
use Rattle.reql_read.specs.declared.globals.Settings.{Settings}

pub data Asked : Type 0 where
  start : Form → Settings → Asked
  continued : Asked
  stop : Asked
  noreply_wait : Asked
  server_info : Asked

-- what a query asks that has the shape of one: the faults of its term come before those of its options
abbrev pub asked_by : shape.Query → Result Asked ReadFault
asked_by (shape.start term opts) = read term >>= λ f. settings_of opts >>= λ s. Ok (start f s)
asked_by shape.continued = Ok continued
asked_by shape.stop = Ok stop
asked_by shape.noreply_wait = Ok noreply_wait
asked_by shape.server_info = Ok server_info

abbrev pub query : Data → Result Asked ReadFault
query d = shaped_query d >>= asked_by

abbrev pub value_query : Option Data → Result Asked ReadFault
value_query None = Err NotJson
value_query (Some d) = query d

abbrev pub query_text : List ℕ → Result Asked ReadFault
query_text body = cond (is_utf8 body) (value_query (json.read body)) (Err NotJson)

-- ---- whether no answer is wanted, which is told of a refused query too: where its options can be read as JSON and say so

abbrev pub is_true : Option Bool → Bool
is_true None = false
is_true (Some b) = b

-- the third member of a query is an object whose `noreply` is true
abbrev pub third_is_quiet : Items → Bool
third_is_quiet no_items = false
third_is_quiet (item opts ds) = is_true (option_and_then as_bool (get (codes "noreply") opts))

abbrev pub second_is_quiet : Items → Bool
second_is_quiet no_items = false
second_is_quiet (item term ds) = third_is_quiet ds

abbrev pub first_is_quiet : Items → Bool
first_is_quiet no_items = false
first_is_quiet (item n ds) = is_number 1 (as_whole n) && second_is_quiet ds

abbrev pub array_is_quiet : Option Items → Bool
array_is_quiet None = false
array_is_quiet (Some ds) = first_is_quiet ds

abbrev pub is_quiet : Data → Bool
is_quiet d = array_is_quiet (as_array d)

abbrev pub value_is_quiet : Option Data → Bool
value_is_quiet None = false
value_is_quiet (Some d) = is_quiet d

abbrev pub text_is_quiet : List ℕ → Bool
text_is_quiet body = cond (is_utf8 body) (value_is_quiet (json.read body)) false
