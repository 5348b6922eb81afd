-- What is printed of an index's function reads back to one with the same entries.
use Rattle.std.proofs.Common.{◌≡◌, ℕ, List, Bool, true, false, ◌&&◌, if◌then◌else◌, Option, Some, None, IfSome, Ok, refl, sym, ap, subst, ◌∙◌}
use Rattle.std.specs.List.{filter}
use Rattle.reql_datum.specs.Keys.{is_key}
use Rattle.reql_datum.specs.Plain.{Plain, low, array, boolean, null, number, object, binary, time, text, high, items_of, listed}
use Rattle.reql_rules.specs.Sorting.{distinct}
use Rattle.reql_term.specs.Form.{Form, literal, several, keyed, variable, implicit, function, slot, operation}
use Rattle.reql_read.specs.Globals.{usual}
use Rattle.reql_read.specs.Query.{start, query_text}
use Rattle.reql_value_spec.specs.Index.{entries, entries_of_value, entries_of_answer, index_value}
use Rattle.reql_print.specs.Indexed.{entry_constant, made, keeps_limits, printed_constant, printed_index, IsNoLiteral, ReadsConstant, ReadsSameEntries}
use Rattle.reql_print.specs.Printed.{printed}
use Rattle.reql_print.proofs.Kept.{listed_again, kept_again}
use Rattle.reql_print.proofs.Made.{made_gives}

-- ---- constants with the same entries

by_key : (b : Bool) (p : Plain) → is_key p ≡ b → entries_of_value false (if b then p else null) ≡ entries_of_value false p
by_key true p is = refl
by_key false p is = rw is refl

same_values : (multi : Bool) (p : Plain) → entries_of_value multi (entry_constant multi p) ≡ entries_of_value multi p
same_values false p = by_key (is_key p) p refl
same_values true (array vs) = ap distinct (ap (filter is_key) (listed_again (filter is_key (listed vs))) ∙ kept_again (listed vs))
same_values true low = refl
same_values true (boolean b) = refl
same_values true null = refl
same_values true (number z) = refl
same_values true (object ms) = refl
same_values true (binary s) = refl
same_values true (time t) = refl
same_values true (text s) = refl
same_values true high = refl

same_entries : (multi : Bool) (p d : Plain) (g : Form) → index_value g d ≡ Ok (entry_constant multi p) → entries (g, multi) d ≡ entries (literal p, multi) d
same_entries multi p d g h = ap (entries_of_answer multi) h ∙ same_values multi p

-- ---- constants as they are printed

pub constant_printed : (p : Plain) (f : Form) (o : Option (List ℕ)) → keeps_limits p ≡ true → f ≡ made p → o ≡ printed f → o ≡ printed_constant p
constant_printed p f o keeps is same = rw keeps (same ∙ ap printed is)

pub no_constant : (p : Plain) (b : Bool) → b ≡ keeps_limits p → b ≡ false → ◌≡◌ {A = Option (List ℕ)} None (printed_constant p)
no_constant p b h is = rw (sym h ∙ is) refl

pub literal_printed : (multi : Bool) (p q : Plain) (o : Option (List ℕ)) → q ≡ entry_constant multi p → o ≡ printed_constant q → o ≡ printed_index multi (literal p)
literal_printed multi p q o is same = same ∙ ap printed_constant is

module _ {V : Type 0} (r : Option V) (items : V → List ℕ) where
  pub constant_reads : (p : Plain) (f : Form) → keeps_limits p ≡ true → f ≡ made p → IfSome r (λ v. query_text (items v) ≡ Ok (start f usual)) → IfSome r (λ v. ReadsConstant p (items v))
  constant_reads p f keeps is reads = elim r as (λ o. IfSome o (λ v. query_text (items v) ≡ Ok (start f usual)) → IfSome o (λ v. ReadsConstant p (items v))) [
    | None ↦ λ h. tt
    | Some v ↦ λ h. (f, h, λ d. subst (λ g. index_value g d ≡ Ok p) (sym is) (made_gives p d keeps))
  ] reads

  pub literal_reads : (multi : Bool) (p q : Plain) → q ≡ entry_constant multi p → IfSome r (λ v. ReadsConstant q (items v)) → IfSome r (λ v. ReadsSameEntries multi (literal p) (items v))
  literal_reads multi p q is reads = elim r as (λ o. IfSome o (λ v. ReadsConstant q (items v)) → IfSome o (λ v. ReadsSameEntries multi (literal p) (items v))) [
    | None ↦ λ h. tt
    | Some v ↦ λ h. (h.0, h.1, λ d. same_entries multi p d h.0 (h.2 d ∙ ap Ok is))
  ] reads

  pub function_reads : (multi : Bool) (f : Form) → IfSome r (λ v. query_text (items v) ≡ Ok (start f usual)) → IfSome r (λ v. ReadsSameEntries multi f (items v))
  function_reads multi f reads = elim r as (λ o. IfSome o (λ v. query_text (items v) ≡ Ok (start f usual)) → IfSome o (λ v. ReadsSameEntries multi f (items v))) [
    | None ↦ λ h. tt
    | Some v ↦ λ h. (f, h, λ d. refl)
  ] reads

-- ---- functions

pub function_printed : (multi : Bool) (f : Form) (o : Option (List ℕ)) → IsNoLiteral f → o ≡ printed f → o ≡ printed_index multi f
function_printed multi (literal p) o none same = absurd none
function_printed multi (several fs) o none same = same
function_printed multi (keyed ms) o none same = same
function_printed multi (variable n) o none same = same
function_printed multi implicit o none same = same
function_printed multi (function ids f) o none same = same
function_printed multi (slot n) o none same = same
function_printed multi (operation x fs ms) o none same = same
