-- How a write treats each document, on the documents so far (ReQL API reference: insert, update, replace, delete).
use Rattle.std.specs.Prelude.{List, [], ◌∷◌, ◌++◌, if◌then◌else◌, Option, Some, None, option_and_then, Ok, Err, codes}
use Rattle.std.specs.Option.{unwrap_or}
use Rattle.reql_datum.specs.Answer.{Answer, ◌>>=◌, Reason, query_logic}
use Rattle.reql_datum.specs.Keys.{is_key}
use Rattle.reql_datum.specs.Kinds.{is_storable}
use Rattle.reql_datum.specs.Members.{find, put}
use Rattle.reql_datum.specs.Order.{order}
use Rattle.reql_datum.specs.Plain.{Plain, null}
use Rattle.reql_memory.specs.Sorted.{find_by}
use Rattle.reql_term.specs.Form.{Form}
use Rattle.reql_term.specs.Views.{Document}
use Rattle.reql_rules.specs.Faults.{misplaced, unshowable}
use Rattle.reql_rules.specs.Lists.{Bytes, object_of}
use Rattle.reql_rules.specs.Merging.{merge}
use Rattle.reql_rules.specs.Patterns.{holds}
use Rattle.reql_rules.specs.Types.{same, object_in, wanted, as_object}
use Rattle.reql_value_spec.specs.Meaning.{function_value}
use Rattle.reql_value_spec.specs.Tables.{key_if}
use Rattle.reql_value_spec.specs.Wanted.{to_datum}
use Rattle.reql_value_spec.specs.World.{bare_world}
use Rattle.reql_write_spec.specs.Treated.{Treated, inserted, replaced, deleted, unchanged, skipped, failed, changes_of, changed_by, text_of}
use Rattle.reql_write_spec.specs.declared.command.Conflict.{Conflict}
use Rattle.reql_write_spec.specs.declared.command.Conflict.TheVariants as conflict

-- the errors that only writes have
abbrev pub duplicate : Bytes → Reason
duplicate field = query_logic (codes "Duplicate primary key `" ++ (field ++ codes "`."))

abbrev pub key_changed : Bytes → Reason
key_changed field = query_logic (codes "Primary key `" ++ (field ++ codes "` cannot be changed."))

-- what is made of a document, or the error that counts beside the one that stays
abbrev pub or_failed : Option Plain → Answer Treated → Treated
or_failed old (Ok t) = t
or_failed old (Err e) = failed (text_of e) old

-- a new document at a key, beside the one that is there
abbrev pub standing : Plain → Plain → Option Plain → Treated
standing key new None = inserted key new
standing key new (Some old) = if same old new then unchanged old else replaced key old new

abbrev pub storing : Plain → Option Plain → Plain → Answer Treated
storing key old new = if is_storable new then Ok (standing key new old) else Err unshowable

-- a new document keeps the key of the old one
abbrev pub field_in : Bytes → Plain → Option Plain
field_in field doc = option_and_then (find field) (object_in doc)

abbrev pub keeping : Bytes → Plain → Plain → Answer Plain
keeping field key new = if holds (same key) (field_in field new) then Ok new else Err (key_changed field)

abbrev pub keeping_stored : Bytes → Plain → Option Plain → Plain → Answer Treated
keeping_stored field key old new = keeping field key new >>= storing key old

-- INSERT: a document where its key is absent, and where it is there
abbrev pub meeting : Bytes → Conflict → Plain → Plain → Option Plain → Answer Treated
meeting field c key doc None = keeping_stored field key None doc
meeting field conflict.Error key doc (Some old) = Err (duplicate field)
meeting field conflict.Replace key doc (Some old) = keeping_stored field key (Some old) doc
meeting field conflict.Update key doc (Some old) = keeping_stored field key (Some old) (merge old doc)

abbrev pub key_of : Bytes → Plain → Answer Plain
key_of field doc = do
  key ← wanted misplaced (field_in field doc)
  key_if is_key key

abbrev pub by_key : (Plain → Treated) → Answer Plain → Treated
by_key f (Ok key) = f key
by_key f (Err e) = failed (text_of e) None

abbrev pub met : Bytes → Conflict → Plain → Plain → Option Plain → Treated
met field c doc key old = or_failed old (meeting field c key doc old)

abbrev pub inserting : Bytes → Conflict → List Document → Plain → Treated
inserting field c docs doc = by_key (λ key. met field c doc key (find_by order key docs)) (key_of field doc)

-- a document without a key takes the next of those that were made
abbrev pub keyed_by : Bytes → Option Plain → List (Bytes × Plain) → List Plain → Plain × List Plain
keyed_by field (Some key) ms made = (object_of ms, made)
keyed_by field None ms [] = (object_of ms, [])
keyed_by field None ms (key ∷ made) = (object_of (put field key ms), made)

abbrev pub keyed_in : Bytes → Plain → Option (List (Bytes × Plain)) → List Plain → Plain × List Plain
keyed_in field doc None made = (doc, made)
keyed_in field doc (Some ms) made = keyed_by field (find field ms) ms made

abbrev pub keyed : Bytes → List Plain → List Plain → List Plain
keyed field made [] = []
keyed field made (doc ∷ docs) = (keyed_in field doc (object_in doc) made).0 ∷ keyed field (keyed_in field doc (object_in doc) made).1 docs

-- what a change gives of a document, or of null; it reads no table
abbrev pub given_by : Form → Option Plain → Answer Plain
given_by change old = function_value change bare_world (unwrap_or old null ∷ []) >>= to_datum

-- UPDATE of the document at a key
abbrev pub updated : Bytes → Plain → Plain → Plain → Answer Treated
updated field key old d = do
  _ ← as_object d
  keeping_stored field key (Some old) (merge old d)

abbrev pub updating : Bytes → Form → Plain → Option Plain → Treated
updating field change key None = skipped
updating field change key (Some old) = or_failed (Some old) (given_by change (Some old) >>= updated field key old)

-- REPLACE of the document at a key, or of none: null takes it away
abbrev pub without_doc : Plain → Option Plain → Treated
without_doc key None = skipped
without_doc key (Some old) = deleted key old

abbrev pub replaced_by : Bytes → Plain → Option Plain → Plain → Answer Treated
replaced_by field key old null = Ok (without_doc key old)
replaced_by field key old d = do
  _ ← as_object d
  keeping_stored field key old d

abbrev pub replacing : Bytes → Form → Plain → Option Plain → Treated
replacing field change key old = or_failed old (given_by change old >>= replaced_by field key old)

-- one after another, each on what those before it made of the documents
module _ {A : Type 0} (treat : List Document → A → Treated) where
  abbrev pub treat_all : List Document → List A → List Treated
  treat_all docs [] = []
  treat_all docs (x ∷ xs) = treat docs x ∷ treat_all (changed_by docs (changes_of (treat docs x))) xs

-- what is at a key
abbrev pub at_key : (Plain → Option Plain → Treated) → List Document → Plain → Treated
at_key f docs key = f key (find_by order key docs)
