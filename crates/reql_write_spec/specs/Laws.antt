-- What a write's changes and counts are to its documents.
use Rattle.std.specs.Prelude.{◌≡◌, ℕ, ◌+◌, List, [], ◌∷◌, length, Bool, true, false, Option, Some, None, option_map, ◌↔◌, Ok, Err}
use Rattle.std.specs.List.{AllByRecursion}
use Rattle.reql_datum.specs.Answer.{Answer}
use Rattle.reql_datum.specs.Kinds.{is_storable}
use Rattle.reql_datum.specs.Order.{order}
use Rattle.reql_datum.specs.Plain.{Plain}
use Rattle.reql_memory.specs.Sorted.{AreRisingBy, find_by}
use Rattle.reql_term.specs.Views.{Document, Index}
use Rattle.reql_rules.specs.Lists.{Bytes}
use Rattle.reql_rules.specs.Types.{same}
use Rattle.reql_write_spec.specs.Treated.{Treated, Changed, changed}
use Rattle.reql_write_spec.specs.Treating.{field_in}
use Rattle.reql_write_spec.specs.Write.{Written, write, treated}
use Rattle.reql_write_spec.specs.declared.command.Returns.{Returns}
use Rattle.reql_write_spec.specs.declared.command.Returns.TheVariants as returns
use Rattle.reql_write_spec.specs.declared.command.Summary.{Summary}
use Rattle.reql_write_spec.specs.declared.command.WriteCmd.{WriteCmd}

-- of every write: a law of the documents before, of the command, and of what is written
abbrev pub OfWrites : (List Document → List (Bytes × Index) → WriteCmd → Written → Type 0) → Type 0
OfWrites law = (docs : List Document) (indexes : List (Bytes × Index)) (cmd : WriteCmd) → law docs indexes cmd (write docs indexes cmd)

-- a change is of the document that is there, and makes another of it
abbrev pub is_same : Option Plain → Option Plain → Bool
is_same None None = true
is_same (Some u) (Some v) = same u v
is_same u v = false

pub record Comes (docs : List Document) (c : Changed) : Type 0 where
  pub there : find_by order c.key docs ≡ c.old
  pub differs : is_same c.old c.new ≡ false

abbrev pub AllCome : List Document → List Changed → Type 0
AllCome docs [] = Unit {0}
AllCome docs (c ∷ cs) = Comes docs c × AllCome (changed docs c) cs

-- rules out a change that was computed on documents of another moment, and one that changes nothing
abbrev pub ChangesCome : Type 0
ChangesCome = OfWrites (λ docs indexes cmd w. AllCome docs w.changes)

-- how many a write treats; a fault of its rows counts once
abbrev pub number_treated : Answer (List Treated) → ℕ
number_treated (Ok ts) = length ts
number_treated (Err e) = 1

pub record AddsUp (n : ℕ) (cs : List Changed) (s : Summary) : Type 0 where
  pub each_once : s.deleted + (s.errors + (s.inserted + (s.replaced + (s.skipped + s.unchanged)))) ≡ n
  pub changes : s.deleted + (s.inserted + s.replaced) ≡ length cs

-- rules out a document that counts twice or not at all, and a change that counts as none
abbrev pub CountsAddUp : Type 0
CountsAddUp = OfWrites (λ docs indexes cmd w. AddsUp (number_treated (treated cmd.key docs indexes cmd.act)) w.changes w.summary)

-- rules out an error without a text, and a text without an error
abbrev pub ErrorsAreTold : Type 0
ErrorsAreTold = OfWrites (λ docs indexes cmd w. (w.summary.errors ≡ 0) ↔ (w.summary.first_error ≡ None))

-- how many are listed: none where none are wanted
abbrev pub number_listed : Returns → ℕ → ℕ → Option ℕ
number_listed returns.No all changes = None
number_listed returns.Changed all changes = Some changes
number_listed returns.Always all changes = Some all

abbrev pub number_each : Answer (List Treated) → ℕ
number_each (Ok ts) = length ts
number_each (Err e) = 0

-- rules out a list that leaves a change out, or that is there unasked
abbrev pub ListsTell : Type 0
ListsTell = OfWrites (λ docs indexes cmd w. option_map length w.summary.changes ≡ number_listed cmd.returns (number_each (treated cmd.key docs indexes cmd.act)) (length w.changes))

-- a document that can be stored, and has its key in the key field
abbrev pub IsGoodDocument : Bytes → Plain → Plain → Type 0
IsGoodDocument field key doc = (is_storable doc ≡ true) × (field_in field doc ≡ Some key)

abbrev pub IsLeftGood : Bytes → Plain → Option Plain → Type 0
IsLeftGood field key None = Unit {0}
IsLeftGood field key (Some doc) = IsGoodDocument field key doc

-- rules out, whatever the table was, a document that is put under another key than its own, and one that may not be stored
abbrev pub ChangesLeaveGood : Type 0
ChangesLeaveGood = OfWrites (λ docs indexes cmd w. AllByRecursion (λ (c : Changed). IsLeftGood cmd.key c.key c.new) w.changes)

-- a table whose documents rise by their keys, can be stored, and have their keys in the key field
pub record IsGood (field : Bytes) (docs : List Document) : Type 0 where
  pub rising : AreRisingBy order docs
  pub all : (key doc : Plain) → find_by order key docs ≡ Some doc → IsGoodDocument field key doc

-- rules out a document that is stored under another key than its own, and one that may not be stored
abbrev pub GoodTablesStay : Type 0
GoodTablesStay = OfWrites (λ docs indexes cmd w. IsGood cmd.key docs → IsGood cmd.key w.docs)
