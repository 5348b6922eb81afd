-- An engine with a journal answers as its engine does.
use Rattle.std.proofs.Common.{◌≡◌, ℕ, ◌+◌, ◌<◌, ◌^◌, Bool, true, false, List, map, Option, Some, None, option_map, option_to_list, Ok, Err, refl, sym, ap, ◌∙◌, subst}
use Rattle.reql_disk.specs.declared.disk.DiskFault.TheVariants as fault
use Rattle.reql_blocks.specs.Held.{Counts}
use Rattle.reql_records.specs.Books.{Journal}
use Rattle.reql_records.specs.Safe.{Answer}
use Rattle.reql_shared.specs.Machine.{Machine}
use Rattle.reql_shared.specs.declared.engine.Snap.{Snap}
use Rattle.reql_table_spec.specs.Machine.{State, Seen, reply, after, is_recorded, machine}
use Rattle.reql_table_spec.specs.Replies.{Answered, told_of, said_of}
use Rattle.reql_table_spec.specs.declared.command.Order.{Order}
use Rattle.reql_table_spec.specs.declared.reply.Reply.{Reply}
use Rattle.reql_table_records.specs.Records.{Change, record_of, text_of}
use Rattle.reql_table_records.specs.declared.record.TableRecord.{TableRecord}
use Rattle.reql_journal.specs.Commands.{of_command}
use Rattle.reql_journal.specs.Engines.{stated, Answers, Refuses, Keeps, changes_of, record_of_order, texts_of}

-- what is said of any machine that is the table machine
pub answers_from : (m : Machine State Order Answered Snap Seen) → m ≡ machine → (s u : State) (by : ℕ) (o : Order) (r : Answered) → r ≡ m.reply s by o → (m.recorded r ≡ true → u ≡ m.after s by o)
    → (m.recorded r ≡ true → m.place u ≡ m.place s + 1) → (m.recorded r ≡ true → m.place s + 1 < 2 ^ 64) → (m.recorded r ≡ false → u ≡ s) → Answers s u by o r
answers_from m e s u by o r replies recorded counted room same =
    let all = subst (λ (n : Machine State Order Answered Snap Seen). (r ≡ n.reply s by o) × (n.recorded r ≡ true → u ≡ n.after s by o) × (n.recorded r ≡ true → n.place u ≡ n.place s + 1) × (n.recorded r ≡ true → n.place s + 1 < 2 ^ 64) × (n.recorded r ≡ false → u ≡ s)) e
    (replies, recorded, counted, room, same) in
    record { replies = all.0; recorded = all.1; counted = all.2; room = all.3; same = all.4 }

-- ---- how an engine was made stays

abbrev pub SameMaking : Option Journal → Option Journal → Type 0
SameMaking None None = Unit {0}
SameMaking (Some j) (Some k) = k.held.told.sound ≡ j.held.told.sound
SameMaking None (Some k) = ⊥
SameMaking (Some j) None = ⊥

pub stated_same : (s u : State) (j k : Option Journal) → SameMaking j k → u ≡ s → stated u k ≡ stated s j
stated_same s u None None m e = ap (λ (v : State). record v { journaled = false }) e
stated_same s u (Some j) (Some k) m e = ap (λ (v : State). record v { sound = k.held.told.sound; journaled = true }) e ∙ ap (λ b. record s { sound = b; journaled = true }) m
stated_same s u None (Some k) m e = absurd m
stated_same s u (Some j) None m e = absurd m

stated_reply : (s : State) (j : Option Journal) (by : ℕ) (o : Order) → reply (stated s j) by o ≡ reply s by o
stated_reply s None by o = refl
stated_reply s (Some j) by o = refl

stated_after : (s : State) (j : Option Journal) (by : ℕ) (o : Order) → stated (after s by o) j ≡ after (stated s j) by o
stated_after s None by o = refl
stated_after s (Some j) by o = refl

stated_place : (s : State) (j : Option Journal) → (stated s j).table.place ≡ s.table.place
stated_place s None = refl
stated_place s (Some j) = refl

pub stated_answers : (s u : State) (j k : Option Journal) (by : ℕ) (o : Order) (r : Answered) → SameMaking j k → Answers s u by o r → Answers (stated s j) (stated u k) by o r
stated_answers s u j k by o r m a = record {
  replies = a.replies ∙ sym (stated_reply s j by o);
  recorded = λ h. stated_same (after s by o) u j k m (a.recorded h) ∙ stated_after s j by o;
  counted = λ h. stated_place u k ∙ (a.counted h ∙ ap (λ n. n + 1) (sym (stated_place s j)));
  room = λ h. subst (λ n. n + 1 < 2 ^ 64) (sym (stated_place s j)) (a.room h);
  same = λ h. stated_same s u j k m (a.same h);
}

pub kept_making : (j k : Journal) (answer : Answer) → Counts j.held.told k.held.told answer → SameMaking (Some j) (Some k)
kept_making j k (Ok done) c = c.1
kept_making j k (Err fault.Failed) c = c.2
kept_making j k (Err fault.Memory) c = c.1

pub refused_making : (j k : Journal) → Refuses j k → SameMaking (Some j) (Some k)
refused_making j k r = ap (λ h. h.told.sound) r.held

-- ---- the record of a command, by the table machine

pub record_is : (s : State) (by : ℕ) (o : Order) (r : Reply) (cs : List Change) → told_of r ≡ reply s by o → cs ≡ changes_of s by o → of_command o.cmd (said_of r.said) cs ≡ record_of_order s by o
record_is s by o r cs told changes = ap (λ (a : Answered). of_command o.cmd a.said cs) told ∙ ap (of_command o.cmd (reply s by o).said) changes

pub answers_told : (m : Machine State Order Answered Snap Seen) → m ≡ machine → (told : Reply → Answered) → ((r : Reply) → told r ≡ told_of r) → (s u : State) (by : ℕ) (o : Order) (r : Reply) → told r ≡ m.reply s by o
    → (m.recorded (told r) ≡ true → u ≡ m.after s by o) → (m.recorded (told r) ≡ true → m.place u ≡ m.place s + 1) → (m.recorded (told r) ≡ true → m.place s + 1 < 2 ^ 64) → (m.recorded (told r) ≡ false → u ≡ s) → Answers s u by o (told_of r)
answers_told m e told all s u by o r replies recorded counted room same = subst (Answers s u by o) (all r) (answers_from m e s u by o (told r) replies recorded counted room same)

pub texts_are : (o : Option TableRecord) → option_to_list (option_map (λ r. text_of (record_of r)) o) ≡ texts_of (option_map record_of o)
texts_are None = refl
texts_are (Some r) = refl
