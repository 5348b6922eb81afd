-- What the machine says of a reply: all but whether it was saved.
use Rattle.std.specs.Prelude.{ℕ, List, [], ◌∷◌, map}
use Rattle.reql_datum.specs.Plain.{Plain}
use Rattle.reql_datum.specs.View.{plain}
use Rattle.reql_table_machine_spec.specs.declared.command.Said.{Said}
use Rattle.reql_table_machine_spec.specs.declared.command.Said.TheVariants as said
use Rattle.reql_table_machine_spec.specs.declared.command.Reply.{Reply}
use Rattle.reql_write_spec.specs.declared.command.Summary.{Summary}
use Rattle.reql_table_spec.specs.declared.reply.Said.{Said as AsSaid}
use Rattle.reql_table_spec.specs.declared.reply.Said.TheVariants as answers
use Rattle.reql_table_spec.specs.declared.reply.Reply.{Reply as AsReply}

abbrev pub Answered : Type 0
Answered = Reply (Said Summary Plain)

abbrev pub nothing_said : Answered
nothing_said = record { place = 0; stamp = 0; said = said.Nothing }

abbrev pub said_of : AsSaid → Said Summary Plain
said_of (answers.Done summary) = said.Done summary
said_of (answers.HistoryFull count) = said.HistoryFull count
said_of answers.Changed = said.Changed
said_of answers.IndexExists = said.IndexExists
said_of answers.IndexMissing = said.IndexMissing
said_of (answers.Opened feed opening) = said.Opened feed opening
said_of (answers.FeedsFull count) = said.FeedsFull count
said_of (answers.Batch skipped last items) = said.Batch skipped last (map (λ i. (i.0, plain i.1)) items)
said_of answers.Nothing = said.Nothing
said_of (answers.FeedUnknown feed) = said.FeedUnknown feed
said_of answers.Closed = said.Closed
said_of answers.Gone = said.Gone

abbrev pub told_of : AsReply → Answered
told_of r = record { place = r.place; stamp = r.stamp; said = said_of r.said }
