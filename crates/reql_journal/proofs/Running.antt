-- A run of commands is safe.
use Rattle.std.proofs.Common.{◌≡◌, ℕ, List, [], ◌∷◌, ◌++◌, map, Bool, true, false, Some, None, Option, option_to_list, Ok, Err, refl, sym, ap, ◌∙◌, subst, append_assoc, append-nil}
use Rattle.std.specs.List.{AllByRecursion}
use Rattle.reql_disk.specs.Disk.{Past, Left, Leaves}
use Rattle.reql_disk.specs.declared.disk.DiskFault.TheVariants as fault
use Rattle.reql_records.specs.Bodies.{Text}
use Rattle.reql_records.specs.Books.{Journal}
use Rattle.reql_records.specs.Safe.{Answer, Between, Trusts, Did, acknowledges, Ran, CrashSafe, RunsAreSafe}
use Rattle.reql_table_spec.specs.declared.reply.Saved.{Saved}
use Rattle.reql_table_records.specs.Laws.{CanBeWritten}
use Rattle.reql_table_records.specs.Records.{Recorded, text_of}
use Rattle.reql_table_records.specs.Standing.{Standing, stands}
use Rattle.reql_journal.specs.Commands.{waits}
use Rattle.reql_journal.specs.Engines.{saved_of, texts_of, record_of_order}
use Rattle.reql_journal.specs.Safe.{Recovers, FrontsAreRecovered, Put, put_records, ArePut, CanAllBeWritten, settled, AreSafe, CommandsAreSafe}
use Rattle.reql_journal.proofs.Recovering.{map_both}

abbrev did : (old : Journal) (p : Put) (ps : List Put) → ArePut old (p ∷ ps) → Did
did old p ps h = record { texts = texts_of (record_of_order p.state p.by p.order); waits = waits p.order.cmd; answer = h.0.answer; after = p.after }

abbrev dids : (old : Journal) (ps : List Put) → ArePut old ps → List Did
dids old [] h = []
dids old (p ∷ ps) h = did old p ps h ∷ dids p.after ps h.1

ran : (old : Journal) (ps : List Put) (h : ArePut old ps) → Ran old (dids old ps h)
ran old [] h = tt
ran old (p ∷ ps) h = (h.0.saves, ran p.after ps h.1)

leaves_on : (P Q : List ℕ → Type 0) (old new : Past) → ((bytes : List ℕ) → P bytes → Q bytes) → Leaves P old new → Leaves Q old new
leaves_on P Q old new q l = record { since = l.since; first = l.first; steps = l.steps; each = λ image left. q image (l.each image left) }

all_both : (rs qs : List Recorded) → AllByRecursion CanBeWritten rs → AllByRecursion CanBeWritten qs → AllByRecursion CanBeWritten (rs ++ qs)
all_both [] qs h i = i
all_both (r ∷ rs) qs h i = (h.0, all_both rs qs h.1 i)

abbrev texts : List Recorded → List Text
texts rs = map text_of rs

module _ (recovered : FrontsAreRecovered) (opened : List (List ℕ)) (t : Standing) (is : stands opened ≡ Some t) where
  -- the texts that are kept once a command's are, and those that are acknowledged then
  kept_then : (acknowledged more rs : List Recorded) → texts (acknowledged ++ more) ++ texts rs ≡ texts (acknowledged ++ (more ++ rs))
  kept_then acknowledged more rs = sym (map_both (acknowledged ++ more) rs) ∙ ap texts (append_assoc acknowledged more rs)

  -- what is then left to show, by what is acknowledged and what is kept beyond that
  abbrev Goes : Past → List Put → Journal → Type 0
  Goes past ps old = (h : ArePut old ps) (acknowledged more : List Recorded) → AllByRecursion CanBeWritten (acknowledged ++ more) → CrashSafe opened (texts acknowledged) (texts (acknowledged ++ more)) past (dids old ps h) → AreSafe t acknowledged more past ps

  then_safe : (w : Bool) (answer : Answer) (is_saved : Saved) → is_saved ≡ saved_of answer → (acknowledged more : List Recorded) (past : Past) (old : Journal) (ps : List Put) (h : ArePut old ps)
      → AllByRecursion CanBeWritten (acknowledged ++ more) → Goes past ps old
      → CrashSafe opened (acknowledges w answer (texts acknowledged) (texts (acknowledged ++ more))) (texts (acknowledged ++ more)) past (dids old ps h)
      → AreSafe t (settled w is_saved acknowledged more).0 (settled w is_saved acknowledged more).1 past ps
  then_safe true (Ok done) is_saved says acknowledged more past old ps h can go c =
      let same = append-nil (acknowledged ++ more) in
      subst (λ s. AreSafe t (settled true s acknowledged more).0 (settled true s acknowledged more).1 past ps) (sym says)
      (go h (acknowledged ++ more) [] (subst (AllByRecursion CanBeWritten) (sym same) can)
      (subst (λ rs. CrashSafe opened (texts (acknowledged ++ more)) (texts rs) past (dids old ps h)) (sym same) c))
  then_safe true (Err fault.Failed) is_saved says acknowledged more past old ps h can go c =
      subst (λ s. AreSafe t (settled true s acknowledged more).0 (settled true s acknowledged more).1 past ps) (sym says) (go h acknowledged more can c)
  then_safe true (Err fault.Memory) is_saved says acknowledged more past old ps h can go c =
      subst (λ s. AreSafe t (settled true s acknowledged more).0 (settled true s acknowledged more).1 past ps) (sym says) (go h acknowledged more can c)
  then_safe false answer is_saved says acknowledged more past old ps h can go c = go h acknowledged more can c

  safe : (acknowledged more : List Recorded) (past : Past) (old : Journal) (ps : List Put) (h : ArePut old ps) → AllByRecursion CanBeWritten (acknowledged ++ more) → CanAllBeWritten ps
      → CrashSafe opened (texts acknowledged) (texts (acknowledged ++ more)) past (dids old ps h) → AreSafe t acknowledged more past ps
  safe acknowledged more past old [] h can cans c = λ bytes left. recovered opened t acknowledged more bytes is can (c bytes left)
  safe acknowledged more past old (p ∷ ps) h can cans (mid, told, leaves, rest) =
      let rs = put_records p in
      let e = kept_then acknowledged more rs in
      let can_then : AllByRecursion CanBeWritten (acknowledged ++ (more ++ rs)) = subst (AllByRecursion CanBeWritten) (append_assoc acknowledged more rs) (all_both (acknowledged ++ more) rs can cans.0) in (
        mid,
        told,
        leaves_on (Between opened (texts acknowledged) (texts (acknowledged ++ more) ++ texts rs)) (Recovers t acknowledged (more ++ rs)) past mid
            (λ bytes b. recovered opened t acknowledged (more ++ rs) bytes is can_then (subst (λ kept. Between opened (texts acknowledged) kept bytes) e b)) leaves,
        then_safe (waits p.order.cmd) h.0.answer p.is_saved h.0.says acknowledged (more ++ rs) mid p.after ps h.1 can_then (λ i a m k c. safe a m mid p.after ps i k cans.1 c)
            (subst (λ kept. CrashSafe opened (acknowledges (waits p.order.cmd) h.0.answer (texts acknowledged) kept) kept mid (dids p.after ps h.1)) e rest),
      )

pub commands_are_safe : FrontsAreRecovered → RunsAreSafe → CommandsAreSafe
commands_are_safe recovered runs opened t past old ps is trusts put can = safe recovered opened t is [] [] past old ps put tt can (runs opened [] [] past old (dids old ps put) trusts (ran old ps put))
