-- Commands once their arguments have been evaluated: the tests that are left, in the order of the term's row.
use Rattle.std.specs.Prelude.{ℕ, [], Ok}
use Rattle.reql_datum.specs.Answer.{Answer, ◌>>=◌}
use Rattle.reql_term.specs.Form.{Forms, NamedForms}
use Rattle.reql_faults.specs.Places.{second}
use Rattle.reql_value_spec.specs.Meant.{Meant, Options}
use Rattle.reql_write_spec.specs.declared.command.Act.{Act}
use Rattle.reql_write_spec.specs.declared.command.Act.TheVariants as act
use Rattle.reql_plan_spec.specs.declared.parts.Prepared.{Prepared}
use Rattle.reql_plan_spec.specs.Held.{Held, key_of}
use Rattle.reql_plan_spec.specs.Settled.{there, meant_of, options_given, slot_in}
use Rattle.reql_plan_spec.specs.Writes.{docs_in, lacking, conflict_option, returns_option, hard_option, prepare}

-- an INSERT into what its first argument gave of what its second one gave
abbrev pub inserted : Held → Meant → Meant → Options → Answer Prepared
inserted e t m os = do
  n ← slot_in t
  docs ← docs_in e.world m
  c ← conflict_option os
  r ← returns_option os
  hard ← hard_option os
  Ok (prepare e n (act.Insert docs c []) r hard (lacking (key_of e.names n) docs))

-- the same, before its options are evaluated
abbrev pub choosing : Held → Meant → Meant → NamedForms → Answer Prepared
choosing e t m ms = do
  os ← options_given e.world ms
  inserted e t m os

-- an INSERT into what its first argument gave
abbrev pub filling : Held → Meant → Forms → NamedForms → Answer Prepared
filling e t fs ms = do
  g ← there (second fs)
  m ← meant_of e.world g
  choosing e t m ms

-- a write of rows with its options
abbrev pub changed : Held → ℕ → Act → NamedForms → Answer Prepared
changed e n a ms = do
  os ← options_given e.world ms
  r ← returns_option os
  hard ← hard_option os
  Ok (prepare e n a r hard 0)
