-- What became of a document that a write treated, and what that makes of the table.
use Rattle.std.specs.Prelude.{List, [], ◌∷◌, Option, Some, None, codes}
use Rattle.std.specs.Option.{unwrap_or}
use Rattle.reql_datum.specs.Answer.{Reason, query_logic, non_existence, resource_limit, op_failed, user, no_text}
use Rattle.reql_datum.specs.Order.{order}
use Rattle.reql_datum.specs.Plain.{Plain, null, text}
use Rattle.reql_memory.specs.Sorted.{put_by, without_by}
use Rattle.reql_term.specs.Views.{Document}
use Rattle.reql_rules.specs.Lists.{Bytes, object_of}

-- a document inserted at a key, replaced by another, deleted, or left as it is; nothing there to treat; or an error, with its text and the document that stays, if one is there
pub data Treated : Type 0 where
  inserted : Plain → Plain → Treated
  replaced : Plain → Plain → Plain → Treated
  deleted : Plain → Plain → Treated
  unchanged : Plain → Treated
  skipped : Treated
  failed : Bytes → Option Plain → Treated

-- one single-document change: what was at a key, and what is
pub record Changed : Type 0 where
  pub key : Plain
  pub old : Option Plain
  pub new : Option Plain

abbrev pub changes_of : Treated → List Changed
changes_of (inserted key new) = record { key = key; old = None; new = Some new } ∷ []
changes_of (replaced key old new) = record { key = key; old = Some old; new = Some new } ∷ []
changes_of (deleted key old) = record { key = key; old = Some old; new = None } ∷ []
changes_of t = []

abbrev pub set_at : Plain → Option Plain → List Document → List Document
set_at key None docs = without_by order key docs
set_at key (Some new) docs = put_by order key new docs

-- the documents after a change, and after several
abbrev pub changed : List Document → Changed → List Document
changed docs c = set_at c.key c.new docs

abbrev pub changed_by : List Document → List Changed → List Document
changed_by docs [] = docs
changed_by docs (c ∷ cs) = changed_by (changed docs c) cs

-- the text of a fault, as `first_error` tells it
abbrev pub text_of : Reason → Bytes
text_of (query_logic s) = s
text_of (non_existence s) = s
text_of (resource_limit s) = s
text_of (op_failed s) = s
text_of (user s) = s
text_of no_text = []

-- what `return_changes` lists of it
abbrev pub between : Option Plain → Option Plain → List (Bytes × Plain)
between old new = (codes "new_val", unwrap_or new null) ∷ (codes "old_val", unwrap_or old null) ∷ []

abbrev pub shown : Treated → Plain
shown (inserted key new) = object_of (between None (Some new))
shown (replaced key old new) = object_of (between (Some old) (Some new))
shown (deleted key old) = object_of (between (Some old) None)
shown (unchanged d) = object_of (between (Some d) (Some d))
shown skipped = object_of (between None None)
shown (failed why old) = object_of ((codes "error", text why) ∷ between old old)
