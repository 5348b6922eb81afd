-- Index commands open no feeds; so the numbers of a table's feeds rise.
use Rattle.std.proofs.Common.{◌≡◌, Bool, true, false, not, cond, [], map, None, refl}
use Rattle.reql_datum.specs.Plain.{Plain}
use Rattle.reql_rules.specs.Types.{same_text}
use Rattle.reql_write_spec.specs.declared.command.Summary.{Summary}
use Rattle.reql_table_machine_spec.specs.Subscribing.{numbers_in}
use Rattle.reql_table_machine_spec.specs.declared.command.Said.{Said}
use Rattle.reql_table_machine_spec.specs.declared.command.Said.TheVariants as said
use Rattle.reql_table_machine_spec.proofs.Numbers.{number_in}
use Rattle.reql_table_machine_spec.proofs.Rising.{number_none, numbers_from_rise}
use Rattle.reql_table_spec.specs.Indexes.{Indexes, IndexCmd, create, drop, rename, index_said, is_there, is_taken}
use Rattle.reql_table_spec.specs.Laws.{NumbersRise}
use Rattle.reql_table_spec.specs.Machine.{known_entry}
use Rattle.reql_table_spec.specs.Table.{feeding}

abbrev IsNone : Said Summary Plain → Type 0
IsNone s = numbers_in s ≡ []

by_two : (b : Bool) (x y : Said Summary Plain) → IsNone x → IsNone y → IsNone (cond b x y)
by_two true x y p q = p
by_two false x y p q = q

opens_none : (j : Indexes) (n : IndexCmd) → IsNone (index_said {M = Summary} {I = Plain} j n)
opens_none j (create name i) = by_two (is_there name j) said.IndexExists said.Changed refl refl
opens_none j (drop name) = by_two (is_there name j) said.Changed said.IndexMissing refl refl
opens_none j (rename old new overwrite) =
    by_two (not (is_there old j)) said.IndexMissing _ refl
    (by_two (same_text old new) said.Changed _ refl (by_two (is_taken new overwrite j) said.IndexExists said.Changed refl refl))

pub index_opens_none : (j : Indexes) (n : IndexCmd) → number_in (index_said {M = Summary} {I = Plain} j n) ≡ None
index_opens_none j n = number_none (index_said {M = Summary} {I = Plain} j n) (opens_none j n)

pub numbers_rise : NumbersRise
numbers_rise s history = numbers_from_rise (feeding s.most) opens_none s.table (map known_entry history)
