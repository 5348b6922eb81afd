-- The worked rows, by computing, one turn at a time.
use Rattle.std.specs.Prelude.{refl}
use Rattle.std.specs.Fmt.{digits}
use Rattle.std.specs.Str.{is_utf8, chars}
use Rattle.serde_json.proofs.OnLiterals.{serde_json_on_literals}
use Rattle.reql_naming.specs.Named.{op_rule}
use Rattle.reql_faults.specs.Faults.{own}
use Rattle.reql_read.specs.Globals.{is_named, is_accepted, choice_of, settings_of}
use Rattle.reql_read.specs.Reading.{op_named, counted}
use Rattle.reql_read.specs.Shape.{kind_of}
use Rattle.reql_session_spec.specs.Bodies.{body}
use Rattle.reql_query_session_spec.specs.Worked as rows

documents1 : rows.Documents1
unfolding body is_utf8 chars serde_json_on_literals digits op_rule own is_named is_accepted choice_of settings_of op_named counted kind_of
documents1 = refl

documents2 : rows.Documents2
unfolding body is_utf8 chars serde_json_on_literals digits op_rule own is_named is_accepted choice_of settings_of op_named counted kind_of
documents2 = refl

documents3 : rows.Documents3
unfolding body is_utf8 chars serde_json_on_literals digits op_rule own is_named is_accepted choice_of settings_of op_named counted kind_of
documents3 = refl

pub documents : rows.Documents
documents = (documents1, documents2, documents3)

refused1 : rows.Refused1
unfolding body is_utf8 chars serde_json_on_literals digits op_rule own is_named is_accepted choice_of settings_of op_named counted kind_of
refused1 = refl

refused2 : rows.Refused2
unfolding body is_utf8 chars serde_json_on_literals digits op_rule own is_named is_accepted choice_of settings_of op_named counted kind_of
refused2 = refl

refused3 : rows.Refused3
unfolding body is_utf8 chars serde_json_on_literals digits op_rule own is_named is_accepted choice_of settings_of op_named counted kind_of
refused3 = refl

refused4 : rows.Refused4
unfolding body is_utf8 chars serde_json_on_literals digits op_rule own is_named is_accepted choice_of settings_of op_named counted kind_of
refused4 = refl

refused5 : rows.Refused5
unfolding body is_utf8 chars serde_json_on_literals digits op_rule own is_named is_accepted choice_of settings_of op_named counted kind_of
refused5 = refl

refused6 : rows.Refused6
unfolding body is_utf8 chars serde_json_on_literals digits op_rule own is_named is_accepted choice_of settings_of op_named counted kind_of
refused6 = refl

refused7 : rows.Refused7
unfolding body is_utf8 chars serde_json_on_literals digits op_rule own is_named is_accepted choice_of settings_of op_named counted kind_of
refused7 = refl

refused8 : rows.Refused8
unfolding body is_utf8 chars serde_json_on_literals digits op_rule own is_named is_accepted choice_of settings_of op_named counted kind_of
refused8 = refl

refused9 : rows.Refused9
unfolding body is_utf8 chars serde_json_on_literals digits op_rule own is_named is_accepted choice_of settings_of op_named counted kind_of
refused9 = refl

refused10 : rows.Refused10
unfolding body is_utf8 chars serde_json_on_literals digits op_rule own is_named is_accepted choice_of settings_of op_named counted kind_of
refused10 = refl

pub refused : rows.Refused
refused = (refused1, refused2, refused3, refused4, refused5, refused6, refused7, refused8, refused9, refused10)

options1 : rows.Options1
unfolding body is_utf8 chars serde_json_on_literals digits op_rule own is_named is_accepted choice_of settings_of op_named counted kind_of
options1 = refl

options2 : rows.Options2
unfolding body is_utf8 chars serde_json_on_literals digits op_rule own is_named is_accepted choice_of settings_of op_named counted kind_of
options2 = refl

options3 : rows.Options3
unfolding body is_utf8 chars serde_json_on_literals digits op_rule own is_named is_accepted choice_of settings_of op_named counted kind_of
options3 = refl

options4 : rows.Options4
unfolding body is_utf8 chars serde_json_on_literals digits op_rule own is_named is_accepted choice_of settings_of op_named counted kind_of
options4 = refl

options5 : rows.Options5
unfolding body is_utf8 chars serde_json_on_literals digits op_rule own is_named is_accepted choice_of settings_of op_named counted kind_of
options5 = refl

pub options : rows.Options
options = (options1, options2, options3, options4, options5)

batches1 : rows.Batches1
unfolding body is_utf8 chars serde_json_on_literals digits op_rule own is_named is_accepted choice_of settings_of op_named counted kind_of
batches1 = refl

batches2 : rows.Batches2
unfolding body is_utf8 chars serde_json_on_literals digits op_rule own is_named is_accepted choice_of settings_of op_named counted kind_of
batches2 = refl

batches3 : rows.Batches3
unfolding body is_utf8 chars serde_json_on_literals digits op_rule own is_named is_accepted choice_of settings_of op_named counted kind_of
batches3 = refl

batches4 : rows.Batches4
unfolding body is_utf8 chars serde_json_on_literals digits op_rule own is_named is_accepted choice_of settings_of op_named counted kind_of
batches4 = refl

pub batches : rows.Batches
batches = (batches1, batches2, batches3, batches4)

feeds1 : rows.Feeds1
unfolding body is_utf8 chars serde_json_on_literals digits op_rule own is_named is_accepted choice_of settings_of op_named counted kind_of
feeds1 = refl

feeds2 : rows.Feeds2
unfolding body is_utf8 chars serde_json_on_literals digits op_rule own is_named is_accepted choice_of settings_of op_named counted kind_of
feeds2 = refl

feeds3 : rows.Feeds3
unfolding body is_utf8 chars serde_json_on_literals digits op_rule own is_named is_accepted choice_of settings_of op_named counted kind_of
feeds3 = refl

feeds4 : rows.Feeds4
unfolding body is_utf8 chars serde_json_on_literals digits op_rule own is_named is_accepted choice_of settings_of op_named counted kind_of
feeds4 = refl

feeds5 : rows.Feeds5
unfolding body is_utf8 chars serde_json_on_literals digits op_rule own is_named is_accepted choice_of settings_of op_named counted kind_of
feeds5 = refl

pub feeds : rows.Feeds
feeds = (feeds1, feeds2, feeds3, feeds4, feeds5)
