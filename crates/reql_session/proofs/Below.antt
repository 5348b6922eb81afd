-- Arms whose slots are there.
use Rattle.std.proofs.Common.{◌≡◌, ℕ, zero, suc, ◌<◌, ◌≤◌, Bool, true, false, true≢false, nat_lt, ◌&&◌, List, [], ◌∷◌, refl, sym, subst, ◌∙◌, arith}
use Rattle.std.proofs.lemmas.Bool.Decides.{nat_tests}
use Rattle.reql_session_api.specs.declared.answered.Arm as coded
use Rattle.reql_desk_moves.specs.Acting.{AreThere}
use Rattle.reql_session.specs.Batches.{are_below}

both : (b c : Bool) → (b && c) ≡ true → (b ≡ true) × (c ≡ true)
both true c e = (refl, e)
both false c e = absurd (true≢false (sym e))

truly : (m n : ℕ) → nat_lt m n ≡ true → m < n
truly m n e = grind (arith, nat_tests)

pub below_there : (n : ℕ) (arms : List coded.Arm) → are_below n arms ≡ true → AreThere n arms
below_there n [] e k d h = absurd (omega (arith, h))
below_there n (a ∷ rest) e zero d h = truly a.slot n (both (nat_lt a.slot n) (are_below n rest) e).0
below_there n (a ∷ rest) e (suc k) d h = below_there n rest (both (nat_lt a.slot n) (are_below n rest) e).1 k d (omega (arith, h))

there_more : (n m : ℕ) (arms : List coded.Arm) → n ≤ m → AreThere n arms → AreThere m arms
there_more n m arms le all k d h = omega (arith, all k d h, le)

-- arms that were looked at, seen again
pub there_here : (n m : ℕ) (seen here arms : List coded.Arm) → seen ≡ arms → here ≡ arms → n ≤ m → are_below n seen ≡ true → AreThere m here
there_here n m seen here arms was is le e = subst (AreThere m) (was ∙ sym is) (there_more n m seen le (below_there n seen e))
