-- What was written is read back.
use Rattle.std.specs.Prelude.{◌≡◌, ◌≤◌, List, map, true, Option, Some, None}
use Rattle.std.specs.List.{AllByRecursion}
use Rattle.std.specs.Str.{IsUtf8}
use Rattle.serde_json.specs.Data.{depth}
use Rattle.reql_datum.specs.Keys.{is_key}
use Rattle.reql_datum.specs.Kinds.{is_storable}
use Rattle.reql_datum.specs.Plain.{Plain}
use Rattle.reql_json.specs.Inverse.{in_range}
use Rattle.reql_json.specs.Showing.{shown}
use Rattle.reql_read.specs.Spelling.{HasText}
use Rattle.reql_records.specs.Bodies.{body_of}
use Rattle.reql_table_records.specs.Records.{Change, Recorded, wrote, created, dropped, renamed, shut, text_of}
use Rattle.reql_table_records.specs.Reading.{body_records}

-- A document that the format can hold: it may be stored; its numbers, bytes and zones are in their ranges, and its texts in UTF-8, as in
-- every document that a program has; and it nests no deeper than is read, four levels of arrays being around it.
pub record IsHeld (d : Plain) : Type 0 where
  pub storable : is_storable d ≡ true
  pub ranges : in_range d ≡ true
  pub text : HasText (shown d)
  pub shallow : depth (shown d) ≤ 123

abbrev pub IsNewHeld : Option Plain → Type 0
IsNewHeld None = Unit {0}
IsNewHeld (Some d) = IsHeld d

abbrev pub IsChangeHeld : Change → Type 0
IsChangeHeld c = (is_key c.0 ≡ true) × IsHeld c.0 × IsNewHeld c.1

-- a record that can be written in the format
abbrev pub CanBeWritten : Recorded → Type 0
CanBeWritten (wrote cs) = AllByRecursion IsChangeHeld cs
CanBeWritten (created name multi text) = IsUtf8 name × IsUtf8 text
CanBeWritten (dropped name) = IsUtf8 name
CanBeWritten (renamed old new) = IsUtf8 old × IsUtf8 new
CanBeWritten shut = Unit {0}

-- rules out a text that reads as another record, and one that reads as none
abbrev pub ReadsBack : Type 0
ReadsBack = (rs : List Recorded) → AllByRecursion CanBeWritten rs → body_records (body_of (map text_of rs)) ≡ Some rs
