-- Writes as the commands that they give: all that is evaluated first, then the tests in the order of the term's row.
use Rattle.std.specs.Prelude.{ℕ, suc, List, [], ◌∷◌, Option, Some, None, Bool, true, false, if◌then◌else◌, Ok, Err, codes}
use Rattle.reql_datum.specs.Answer.{Answer, ◌>>=◌}
use Rattle.reql_datum.specs.Plain.{Plain, array, boolean, listed}
use Rattle.reql_datum.specs.Members.{find}
use Rattle.reql_term.specs.Form.{Form, operation, Forms, NamedForms}
use Rattle.reql_term.specs.declared.op.Op.{Op}
use Rattle.reql_term.specs.declared.op.Op.TheVariants as op
use Rattle.reql_rules.specs.Faults.{misplaced, bad_option}
use Rattle.reql_rules.specs.Lists.{Bytes, each, object_of}
use Rattle.reql_rules.specs.Types.{as_object, same_text}
use Rattle.reql_faults.specs.Places.{first, second}
use Rattle.reql_value_spec.specs.Meant.{Meant, one, stream, selection, table, Given, Options}
use Rattle.reql_value_spec.specs.Wanted.{to_object, text_option, seen}
use Rattle.reql_value_spec.specs.World.{World, view_at, documents_of}
use Rattle.reql_write_spec.specs.Selecting.{is_chain, slots}
use Rattle.reql_write_spec.specs.Treating.{field_in}
use Rattle.reql_write_spec.specs.declared.command.Act.{Act}
use Rattle.reql_write_spec.specs.declared.command.Act.TheVariants as act
use Rattle.reql_write_spec.specs.declared.command.Conflict.{Conflict}
use Rattle.reql_write_spec.specs.declared.command.Conflict.TheVariants as conflicts
use Rattle.reql_write_spec.specs.declared.command.Returns.{Returns}
use Rattle.reql_write_spec.specs.declared.command.Returns.TheVariants as returns
use Rattle.reql_write_spec.specs.declared.command.WriteCmd.{WriteCmd}
use Rattle.reql_table_spec.specs.Followed.{first_slot}
use Rattle.reql_plan_spec.specs.declared.parts.Prepared.{Prepared}
use Rattle.reql_plan_spec.specs.Held.{Held, key_of}
use Rattle.reql_plan_spec.specs.Settled.{there, meant_of, argument, nothing_kept, settled, no_test, options_given, target, slot_in}
use Rattle.reql_plan_spec.specs.Texts.{no_selection}

-- ---- options
abbrev pub conflict_by : Option Bytes → Answer Conflict
conflict_by None = Ok conflicts.Error
conflict_by (Some s) =
    if same_text s (codes "error") then Ok conflicts.Error else (
    if same_text s (codes "replace") then Ok conflicts.Replace else (
    if same_text s (codes "update") then Ok conflicts.Update else Err (bad_option (codes "conflict"))))

abbrev pub conflict_option : Options → Answer Conflict
conflict_option os = text_option (codes "conflict") os >>= conflict_by

abbrev pub returns_by : Option Plain → Answer Returns
returns_by (Some (boolean true)) = Ok returns.Changed
returns_by (Some (boolean false)) = Ok returns.No
returns_by d = Err (bad_option (codes "return_changes"))

abbrev pub returns_named : Option Bytes → Answer Returns
returns_named None = Ok returns.No
returns_named (Some s) = if same_text s (codes "always") then Ok returns.Always else Err (bad_option (codes "return_changes"))

abbrev pub is_truth : Option Plain → Bool
is_truth (Some (boolean b)) = true
is_truth d = false

abbrev pub returns_given : Options → Option Given → Answer Returns
returns_given os None = Ok returns.No
returns_given os (Some g) = if is_truth (seen g) then returns_by (seen g) else (text_option (codes "return_changes") os >>= returns_named)

abbrev pub returns_option : Options → Answer Returns
returns_option os = returns_given os (find (codes "return_changes") os)

abbrev pub hard_by : Option Bytes → Answer Bool
hard_by None = Ok true
hard_by (Some s) = if same_text s (codes "hard") then Ok true else (if same_text s (codes "soft") then Ok false else Err (bad_option (codes "durability")))

abbrev pub hard_option : Options → Answer Bool
hard_option os = text_option (codes "durability") os >>= hard_by

-- ---- the documents of an INSERT: an object, or a sequence of objects
abbrev pub document : Plain → Answer Plain
document d = as_object d >>= λ _. Ok d

abbrev pub docs_in : World → Meant → Answer (List Plain)
docs_in w (one (array vs)) = each document (listed vs)
docs_in w (stream ds) = each document ds
docs_in w (selection n k ds) = each document ds
docs_in w (table n) = view_at w n >>= λ v. each document (documents_of v)
docs_in w m = to_object m >>= λ ms. Ok (object_of ms ∷ [])

-- how many of them get a key
abbrev pub one_more_if : Option Plain → ℕ → ℕ
one_more_if None n = suc n
one_more_if (Some k) n = n

abbrev pub lacking : Bytes → List Plain → ℕ
lacking key [] = 0
lacking key (d ∷ ds) = one_more_if (field_in key d) (lacking key ds)

-- ---- the write
abbrev pub prepare : Held → ℕ → Act → Returns → Bool → ℕ → Prepared
prepare e n a r hard rolls = record { slot = n; cmd = record { key = key_of e.names n; act = a; returns = r; hard = hard }; rolls = rolls }

abbrev pub inserting : Held → Forms → NamedForms → Answer Prepared
inserting e fs ms = do
  f ← there (first fs)
  t ← target e.world f
  g ← there (second fs)
  m ← meant_of e.world g
  os ← options_given e.world ms
  n ← slot_in t
  docs ← docs_in e.world m
  c ← conflict_option os
  r ← returns_option os
  hard ← hard_option os
  Ok (prepare e n (act.Insert docs c []) r hard (lacking (key_of e.names n) docs))

-- rows that are no selection are refused before anything is evaluated
abbrev pub rows_in : Held → Option Form → Answer Form
rows_in e o = there o >>= λ f. if is_chain f then Ok f else Err no_selection

abbrev pub changing : Held → (Form → Form → Act) → Forms → NamedForms → Answer Prepared
changing e acts fs ms = do
  f ← rows_in e (first fs)
  rows ← settled no_test e.world f
  g ← there (second fs)
  change ← argument nothing_kept e.world g
  os ← options_given e.world ms
  r ← returns_option os
  hard ← hard_option os
  Ok (prepare e (first_slot (slots f)) (acts rows change) r hard 0)

abbrev pub deleting : Held → Forms → NamedForms → Answer Prepared
deleting e fs ms = do
  f ← rows_in e (first fs)
  rows ← settled no_test e.world f
  os ← options_given e.world ms
  r ← returns_option os
  hard ← hard_option os
  Ok (prepare e (first_slot (slots f)) (act.Delete rows) r hard 0)

abbrev pub prepared_by : Held → Op → Forms → NamedForms → Answer Prepared
prepared_by e op.Insert fs ms = inserting e fs ms
prepared_by e op.Update fs ms = changing e act.Update fs ms
prepared_by e op.Replace fs ms = changing e act.Replace fs ms
prepared_by e op.Delete fs ms = deleting e fs ms
prepared_by e o fs ms = Err misplaced

abbrev pub prepared : Held → Form → Answer Prepared
prepared e (operation o fs ms) = prepared_by e o fs ms
prepared e f = Err misplaced

-- the keys that were made, in the order of the documents
abbrev pub act_with : List Plain → Act → Act
act_with made (act.Insert docs conflict none) = act.Insert docs conflict made
act_with made a = a

abbrev pub with_keys : List Plain → WriteCmd → WriteCmd
with_keys made w = record { key = w.key; act = act_with made w.act; returns = w.returns; hard = w.hard }
