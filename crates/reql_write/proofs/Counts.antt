-- Counts add up over a list.
use Rattle.std.proofs.Common.{◌≡◌, refl, ap, suc, ◌+◌, Bool, true, false, if◌then◌else◌, List, [], ◌∷◌, length, arith}
use Rattle.std.specs.List.{filter}
use Rattle.reql_write_spec.specs.Treated.{Treated, inserted, replaced, deleted, unchanged, skipped, failed}
use Rattle.reql_write_spec.specs.Write.{count, errors_in}
use Rattle.reql_write.specs.Counting.{is_failed}

counts_by : (b : Bool) (t : Treated) (ts : List Treated) → length (if b then t ∷ ts else ts) ≡ length (if b then t ∷ [] else []) + length ts
counts_by true t ts = omega arith
counts_by false t ts = omega arith

pub counts_on : (test : Treated → Bool) (t : Treated) (ts : List Treated) → count test (t ∷ ts) ≡ count test (t ∷ []) + count test ts
counts_on test t ts = counts_by (test t) t (filter test ts)

pub errors_counted : (ts : List Treated) → count is_failed ts ≡ length (errors_in ts)
errors_counted [] = refl
errors_counted (inserted key new ∷ ts) = errors_counted ts
errors_counted (replaced key old new ∷ ts) = errors_counted ts
errors_counted (deleted key old ∷ ts) = errors_counted ts
errors_counted (unchanged d ∷ ts) = errors_counted ts
errors_counted (skipped ∷ ts) = errors_counted ts
errors_counted (failed why old ∷ ts) = ap suc (errors_counted ts)
