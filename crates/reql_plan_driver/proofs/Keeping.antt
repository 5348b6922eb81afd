-- The feeds that a course keeps open.
use Rattle.std.proofs.Common.{◌≡◌, ℕ, Bool, true, false, not, cond, ◌||◌, List, [], ◌∷◌, map, filter, refl, ap}
use Rattle.std.specs.Prelude.{nat_eq}
use Rattle.reql_session_spec.specs.Requests.{Arm}
use Rattle.reql_session_spec.specs.Tasks.{others}
use Rattle.reql_session_api.specs.Meant.{arm_of, arms_of}
use Rattle.reql_session_api.specs.declared.answered.Arm as coded
use Rattle.reql_plan_driver.specs.Meeting.{at_slot}

abbrev pub is_other : ℕ → ℕ → coded.Arm → Bool
is_other slot feed a = not (nat_eq a.slot slot) || not (nat_eq a.feed feed)

with_first : (b : Bool) (x : coded.Arm) (xs : List coded.Arm) (ys : List Arm) → map arm_of xs ≡ ys → map arm_of (cond b (x ∷ xs) xs) ≡ cond b (arm_of x ∷ ys) ys
with_first true x xs ys e = ap (λ z. arm_of x ∷ z) e
with_first false x xs ys e = e

pub others_of : (slot feed : ℕ) (arms : List coded.Arm) → arms_of (filter (is_other slot feed) arms) ≡ others (at_slot slot feed) (arms_of arms)
others_of slot feed [] = refl
others_of slot feed (x ∷ xs) = with_first (is_other slot feed x) x (filter (is_other slot feed) xs) (others (at_slot slot feed) (arms_of xs)) (others_of slot feed xs)
