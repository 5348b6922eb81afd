-- A value without LITERALs is its own resolving; the members of a resolved object.
use Rattle.std.proofs.Common.{◌≡◌, List, [], ◌∷◌, ◌++◌, Bool, true, false, ◌&&◌, not, if◌then◌else◌, Option, Some, None, Less, refl, sym, ap, ◌∙◌, append-nil}
use Rattle.std.specs.List.{AllByRecursion}
use Rattle.std.specs.List.Sorted.{IsStrictlySortedBy}
use Rattle.std.specs.Map.{keys_of}
use Rattle.reql_datum.specs.Kinds.{is_literal, is_storable, are_members_storable}
use Rattle.reql_datum.specs.Members.{AreRising, text_order}
use Rattle.reql_datum.specs.Plain.{Plain, low, array, boolean, null, number, object, binary, time, text, high, Pairs, no_pairs, pair, pairs_of}
use Rattle.reql_datum.proofs.Members.{put_step}
use Rattle.reql_rules.specs.Lists.{Bytes}
use Rattle.reql_rules.specs.Merging.{resolved, resolved_pairs, literal_value}
use Rattle.reql_rules.specs.Patterns.{pair_also}
use Rattle.reql_path.specs.Building.{put_also, member_also}

pub both_left : (a b : Bool) → (a && b) ≡ true → a ≡ true
both_left true b h = refl
both_left false b h = cc

pub both_right : (a b : Bool) → (a && b) ≡ true → b ≡ true
both_right true b h = h
both_right false b h = cc

stands_at : (l : Bool) (ms : Pairs) (found : Option Plain) → not l ≡ true → resolved_pairs ms ≡ ms → (if l then found else Some (object (resolved_pairs ms))) ≡ Some (object ms)
stands_at true ms found h e = cc
stands_at false ms found h e = ap (λ t. Some (object t)) e

also_at : (k : Bytes) (v : Plain) (ms : Pairs) (o : Option Plain) → o ≡ Some v → pair_also k o ms ≡ pair k v ms
also_at k v ms o e = rw e refl

mutual
  pub resolved_storable : (v : Plain) → is_storable v ≡ true → resolved v ≡ Some v
  resolved_storable low h = refl
  resolved_storable (array vs) h = refl
  resolved_storable (boolean b) h = refl
  resolved_storable null h = refl
  resolved_storable (number n) h = refl
  resolved_storable (object ms) h =
      stands_at (is_literal ms) ms (literal_value ms) (both_left (not (is_literal ms)) (are_members_storable ms) h)
      (resolved_members ms (both_right (not (is_literal ms)) (are_members_storable ms) h))
  resolved_storable (binary s) h = refl
  resolved_storable (time t) h = refl
  resolved_storable (text s) h = refl
  resolved_storable high h = refl

  pub resolved_members : (ms : Pairs) → are_members_storable ms ≡ true → resolved_pairs ms ≡ ms
  resolved_members no_pairs h = refl
  resolved_members (pair k v ms) h =
      also_at k v (resolved_pairs ms) (resolved v) (resolved_storable v (both_left (is_storable v) (are_members_storable ms) h))
      ∙ ap (pair k v) (resolved_members ms (both_right (is_storable v) (are_members_storable ms) h))

pub ruleset resolves = (resolved_storable)

-- ---- the members of a resolved object
abbrev pub resolved_list : List (Bytes × Plain) → List (Bytes × Plain)
resolved_list [] = []
resolved_list (m ∷ ms) = member_also m.0 (resolved m.1) (resolved_list ms)

pub also_is : (k : Bytes) (o : Option Plain) (ms : List (Bytes × Plain)) → pairs_of (member_also k o ms) ≡ pair_also k o (pairs_of ms)
also_is k None ms = refl
also_is k (Some v) ms = refl

pub resolved_is : (ms : List (Bytes × Plain)) → pairs_of (resolved_list ms) ≡ resolved_pairs (pairs_of ms)
resolved_is [] = refl
resolved_is (m ∷ ms) = also_is m.0 (resolved m.1) (resolved_list ms) ∙ ap (pair_also m.0 (resolved m.1)) (resolved_is ms)

pub all_also : (P : Bytes → Type 0) (k : Bytes) (o : Option Plain) (ms : List (Bytes × Plain)) → P k → AllByRecursion P (keys_of ms) → AllByRecursion P (keys_of (member_also k o ms))
all_also P k None ms h all = all
all_also P k (Some v) ms h all = (h, all)

all_resolved : (P : Bytes → Type 0) (ms : List (Bytes × Plain)) → AllByRecursion P (keys_of ms) → AllByRecursion P (keys_of (resolved_list ms))
all_resolved P [] all = tt
all_resolved P (m ∷ ms) all = all_also P m.0 (resolved m.1) (resolved_list ms) all.0 (all_resolved P ms all.1)

pub rising_also : (k : Bytes) (o : Option Plain) (ms : List (Bytes × Plain)) → AllByRecursion (λ y. text_order k y ≡ Less) (keys_of ms) → AreRising ms → AreRising (member_also k o ms)
unfolding IsStrictlySortedBy
rising_also k None ms all up = up
rising_also k (Some v) ms all up = (all, up)

pub rising_resolved : (ms : List (Bytes × Plain)) → AreRising ms → AreRising (resolved_list ms)
unfolding IsStrictlySortedBy
rising_resolved [] up = tt
rising_resolved (m ∷ ms) up = rising_also m.0 (resolved m.1) (resolved_list ms) (all_resolved (λ y. text_order m.0 y ≡ Less) ms up.0) (rising_resolved ms up.1)

pub put_also_step : (done rest all : List (Bytes × Plain)) (k : Bytes) (o : Option Plain) → AreRising all → done ++ member_also k o rest ≡ all → put_also k o done ++ rest ≡ all
put_also_step done rest all k None up is = is
put_also_step done rest all k (Some v) up is = put_step done rest all k v up is

-- what is resolved, and what is left to be resolved, is all
pub record Resolves (done ms all : List (Bytes × Plain)) : Type 0 where
  pub adds_up : done ++ resolved_list ms ≡ all
  pub rising_all : AreRising all

pub resolves_start : (ms : List (Bytes × Plain)) → AreRising ms → Resolves [] ms (resolved_list ms)
resolves_start ms up = record { adds_up = refl; rising_all = rising_resolved ms up }

pub resolves_next : (done ms all rest : List (Bytes × Plain)) (k : Bytes) (v : Plain) (o : Option Plain) → ms ≡ (k, v) ∷ rest → o ≡ resolved v → Resolves done ms all → Resolves (put_also k o done) rest all
resolves_next done ms all rest k v o is e r =
    let next : resolved_list ms ≡ member_also k o (resolved_list rest) = rw (is, e) refl in
    record {
      adds_up = put_also_step done (resolved_list rest) all k o r.rising_all (ap (λ t. done ++ t) (sym next) ∙ r.adds_up);
      rising_all = r.rising_all;
    }

pub resolves_end : (done ms all : List (Bytes × Plain)) → ms ≡ [] → Resolves done ms all → done ≡ all
resolves_end done ms all is r = sym (append-nil done) ∙ ap (λ t. done ++ resolved_list t) (sym is) ∙ r.adds_up
