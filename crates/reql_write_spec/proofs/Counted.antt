-- Each document that a write treats counts once, each change as one of three, and each error with its text; lists are as long as was asked for.
use Rattle.std.proofs.Common.{◌≡◌, refl, ap, ◌∙◌, ℕ, suc, ◌+◌, arith, List, [], ◌∷◌, map, length, Some, None, option_map, ◌↔◌, Ok, Err}
use Rattle.std.specs.List.{filter}
use Rattle.std.proofs.lemmas.List.{length-map}
use Rattle.reql_datum.specs.Answer.{Answer}
use Rattle.reql_datum.specs.Plain.{Plain}
use Rattle.reql_rules.specs.Lists.{Bytes, joined}
use Rattle.reql_write_spec.specs.Laws.{AddsUp, CountsAddUp, ErrorsAreTold, ListsTell, number_treated, number_listed, number_each}
use Rattle.reql_write_spec.specs.Treated.{Treated, inserted, replaced, deleted, unchanged, skipped, failed, Changed, changes_of, text_of, shown}
use Rattle.reql_write_spec.specs.Write.{treated, made_by, is_inserted, is_replaced, is_deleted, is_unchanged, is_skipped, is_change, errors_in, first, count, summary_of, all_changes}
use Rattle.reql_write_spec.specs.declared.command.Returns.{Returns}
use Rattle.reql_write_spec.specs.declared.command.Returns.TheVariants as returns

abbrev total : List Treated → ℕ
total ts = count is_deleted ts + (length (errors_in ts) + (count is_inserted ts + (count is_replaced ts + (count is_skipped ts + count is_unchanged ts))))

each_once : (ts : List Treated) → total ts ≡ length ts
each_once [] = refl
each_once (inserted key new ∷ ts) = omega (arith, each_once ts)
each_once (replaced key old new ∷ ts) = omega (arith, each_once ts)
each_once (deleted key old ∷ ts) = omega (arith, each_once ts)
each_once (unchanged d ∷ ts) = omega (arith, each_once ts)
each_once (skipped ∷ ts) = omega (arith, each_once ts)
each_once (failed why old ∷ ts) = omega (arith, each_once ts)

abbrev changes : List Treated → List Changed
changes ts = joined (map changes_of ts)

each_change : (ts : List Treated) → count is_deleted ts + (count is_inserted ts + count is_replaced ts) ≡ length (changes ts)
each_change [] = refl
each_change (inserted key new ∷ ts) = omega (arith, each_change ts)
each_change (replaced key old new ∷ ts) = omega (arith, each_change ts)
each_change (deleted key old ∷ ts) = omega (arith, each_change ts)
each_change (unchanged d ∷ ts) = each_change ts
each_change (skipped ∷ ts) = each_change ts
each_change (failed why old ∷ ts) = each_change ts

adds_up : (r : Returns) (made : List Plain) (a : Answer (List Treated)) → AddsUp (number_treated a) (all_changes a) (summary_of r made a)
adds_up r made (Ok ts) = record { each_once = each_once ts; changes = each_change ts }
adds_up r made (Err e) = record { each_once = refl; changes = refl }

pub counts_add_up : CountsAddUp
counts_add_up docs indexes cmd = adds_up cmd.returns (made_by cmd.act) (treated cmd.key docs indexes cmd.act)

first_told : (ss : List Bytes) → (length ss ≡ 0) ↔ (first ss ≡ None)
first_told [] = (λ h. refl, λ h. refl)
first_told (s ∷ ss) = (λ h. absurd (omega (arith, h)), λ h. absurd (cc (h)))

told : (r : Returns) (made : List Plain) (a : Answer (List Treated)) → ((summary_of r made a).errors ≡ 0) ↔ ((summary_of r made a).first_error ≡ None)
told r made (Ok ts) = first_told (errors_in ts)
told r made (Err e) = first_told (text_of e ∷ [])

pub errors_are_told : ErrorsAreTold
errors_are_told docs indexes cmd = told cmd.returns (made_by cmd.act) (treated cmd.key docs indexes cmd.act)

changes_listed : (ts : List Treated) → length (filter is_change ts) ≡ length (changes ts)
changes_listed [] = refl
changes_listed (inserted key new ∷ ts) = ap suc (changes_listed ts)
changes_listed (replaced key old new ∷ ts) = ap suc (changes_listed ts)
changes_listed (deleted key old ∷ ts) = ap suc (changes_listed ts)
changes_listed (unchanged d ∷ ts) = changes_listed ts
changes_listed (skipped ∷ ts) = changes_listed ts
changes_listed (failed why old ∷ ts) = changes_listed ts

lists : (r : Returns) (made : List Plain) (a : Answer (List Treated)) → option_map length (summary_of r made a).changes ≡ number_listed r (number_each a) (length (all_changes a))
lists returns.No made (Ok ts) = refl
lists returns.Changed made (Ok ts) = ap Some (length-map (filter is_change ts) shown ∙ changes_listed ts)
lists returns.Always made (Ok ts) = ap Some (length-map ts shown)
lists returns.No made (Err e) = refl
lists returns.Changed made (Err e) = refl
lists returns.Always made (Err e) = refl

pub lists_tell : ListsTell
lists_tell docs indexes cmd = lists cmd.returns (made_by cmd.act) (treated cmd.key docs indexes cmd.act)
