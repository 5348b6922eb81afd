-- That a session cuts a plan's answers by the batch that the plan counts by.
use Rattle.std.proofs.Common.{◌≡◌, ℕ, Bool, true, false, cond, refl, arith}
use Rattle.std.specs.Prelude.{◌<◌, ◌≤◌, nat_lt, min}
use Rattle.std.proofs.lemmas.Bool.{ltb-true, ltb-false}
use Rattle.reql_session_spec.specs.Tasks.{lesser}
use Rattle.reql_query_session_spec.specs.Laws.{BatchesAgree}

-- the lesser of two numbers
lesser_by : (m n : ℕ) (b : Bool) → nat_lt m n ≡ b → cond b m n ≡ min m n
lesser_by m n true e = let less : m < n = ltb-true m n e in omega arith
lesser_by m n false e = let not_less : n ≤ m = ltb-false m n e in omega arith

lesser_min : (m n : ℕ) → lesser m n ≡ min m n
lesser_min m n = lesser_by m n (nat_lt m n) refl

pub batches_agree : BatchesAgree
batches_agree keys limits plan = lesser_min plan.batch limits.batch
