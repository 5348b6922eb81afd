-- The slots of the feeds that a course keeps open are there.
use Rattle.std.proofs.Common.{◌≡◌, ℕ, ◌<◌, not, ◌||◌, All, List, [], ◌∷◌, Option, Some, None, sym, subst}
use Rattle.std.specs.Prelude.{nat_eq}
use Rattle.std.proofs.lemmas.List.Elements.{All-nil, All-cons, All-head, All-tail, All-push, All-map, All-filter}
use Rattle.reql_session_spec.specs.Requests.{Arm}
use Rattle.reql_session_api.specs.Meant.{arm_of, arms_of}
use Rattle.reql_session_api.specs.declared.answered.Arm as coded
use Rattle.reql_desk_moves.specs.Acting.{AreThere}
use Rattle.reql_plan_driver.specs.Meeting.{at_slot, without_closed, with_opened, noted}

module _ (count : ℕ) where
  abbrev IsBelow : Arm → Type 0
  IsBelow a = a.slot < count

  -- in the words of a session's story
  abbrev AreBelow : List Arm → Type 0
  AreBelow arms = All IsBelow arms

  below : (arms : List coded.Arm) → AreThere count arms → AreBelow (arms_of arms)
  below arms h = All-map IsBelow arm_of arms h

  there : (arms : List coded.Arm) → AreBelow (arms_of arms) → AreThere count arms
  there [] h = All-nil (λ (a : coded.Arm). a.slot < count)
  there (x ∷ xs) h = All-cons (λ (a : coded.Arm). a.slot < count) x xs (All-head IsBelow (arm_of x) (arms_of xs) h) (there xs (All-tail IsBelow (arm_of x) (arms_of xs) h))

  below_without : (slot : ℕ) (closed : Option ℕ) (arms : List Arm) → AreBelow arms → AreBelow (without_closed slot closed arms)
  below_without slot None arms h = h
  below_without slot (Some feed) arms h = All-filter (λ a. not (nat_eq a.slot slot) || not (nat_eq a.feed feed)) IsBelow arms h

  below_with : (slot : ℕ) (opened : Option ℕ) (arms : List Arm) → slot < count → AreBelow arms → AreBelow (with_opened slot opened arms)
  below_with slot None arms lt h = h
  below_with slot (Some feed) arms lt h = All-push IsBelow arms (at_slot slot feed) h lt

  below_noted : (slot : ℕ) (closed opened : Option ℕ) (arms : List Arm) → slot < count → AreBelow arms → AreBelow (noted slot closed opened arms)
  below_noted slot (Some feed) opened arms lt h = below_without slot (Some feed) arms h
  below_noted slot None opened arms lt h = below_with slot opened arms lt h

  pub there_same : (old new : List coded.Arm) → new ≡ old → AreThere count old → AreThere count new
  there_same old new e h = subst (AreThere count) (sym e) h

  -- after a command that was answered
  pub there_noted : (slot : ℕ) (closed opened : Option ℕ) (old now new : List coded.Arm) → slot < count → now ≡ old → arms_of new ≡ noted slot closed opened (arms_of now) → AreThere count old → AreThere count new
  there_noted slot closed opened old now new lt same e h = there new (subst AreBelow (sym e) (below_noted slot closed opened (arms_of now) lt (below now (there_same old now same h))))

  -- after one that was refused
  pub there_without : (slot : ℕ) (closed : Option ℕ) (old now new : List coded.Arm) → now ≡ old → arms_of new ≡ without_closed slot closed (arms_of now) → AreThere count old → AreThere count new
  there_without slot closed old now new same e h = there new (subst AreBelow (sym e) (below_without slot closed (arms_of now) (below now (there_same old now same h))))
