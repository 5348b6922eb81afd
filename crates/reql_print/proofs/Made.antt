-- A constant as a term that makes its arrays gives that constant.
use Rattle.std.proofs.Common.{◌≡◌, ℕ, suc, ◌≤◌, max, List, [], ◌∷◌, length, Bool, true, false, ◌&&◌, nat_le, nat_lt, if◌then◌else◌, Ok, refl, sym, ap, ◌∙◌, arith}
use Rattle.std.proofs.lemmas.Bool.Decides.{nat_tests}
use Rattle.reql_datum.specs.Answer.{Answer, ◌>>=◌}
use Rattle.reql_datum.specs.Plain.{Plain, low, array, boolean, null, number, object, binary, time, text, high, Plains, no_items, item, items_of, listed, depth, items_depth}
use Rattle.reql_datum.proofs.Back.{items_back}
use Rattle.reql_rules.specs.Lists.{each, array_of}
use Rattle.reql_rules.specs.Sizes.{max_depth, within}
use Rattle.reql_term.specs.Form.{Form}
use Rattle.reql_value_spec.specs.Index.{index_value}
use Rattle.reql_value_spec.specs.Meaning.{sense, form_senses}
use Rattle.reql_value_spec.specs.Meant.{Meant, one, Given, given}
use Rattle.reql_value_spec.specs.Sense.{value, argument, arguments}
use Rattle.reql_value_spec.specs.Wanted.{as_datum}
use Rattle.reql_value_spec.specs.World.{Vars, bare_world}
use Rattle.reql_print.specs.Indexed.{made, all_made, is_short, all_short, keeps_limits}

both : (a b : Bool) → (a && b) ≡ true → (a ≡ true) × (b ≡ true)
both true true h = (refl, refl)
both true false h = cc
both false b h = cc

abbrev all_given : Plains → List Given
all_given no_items = []
all_given (item v vs) = given (one v) ∷ all_given vs

each_given : (vs : Plains) → each as_datum (all_given vs) ≡ Ok (listed vs)
each_given no_items = refl
each_given (item v vs) = rw (each_given vs) refl

not_above : (a b : ℕ) → a ≤ b → nat_lt b a ≡ false
not_above a b h = grind (arith, nat_tests)

under : (a b : ℕ) → nat_le a b ≡ true → a ≤ b
under a b h = grind (arith, nat_tests)

-- an array that keeps the limits
array_within : (vs : Plains) → length (listed vs) ≤ 100000 → depth (array vs) ≤ max_depth → within 100000 (array vs) ≡ Ok (array vs)
array_within vs few shallow = rw (not_above (length (listed vs)) 100000 few, not_above (depth (array vs)) max_depth shallow) refl

module _ (vars : Vars) where
  abbrev Gives : Plain → Type 0
  Gives p = value (sense (made p)) bare_world vars ≡ Ok (one p)

  as_argument : (at : ℕ) (p : Plain) → Gives p → argument at (sense (made p)) bare_world vars ≡ Ok (given (one p))
  as_argument at (array vs) h = rw h refl
  as_argument at low h = refl
  as_argument at (boolean b) h = refl
  as_argument at null h = refl
  as_argument at (number z) h = refl
  as_argument at (object ms) h = refl
  as_argument at (binary s) h = refl
  as_argument at (time t) h = refl
  as_argument at (text s) h = refl
  as_argument at high h = refl

  abbrev GivesAll : Plains → Type 0
  GivesAll vs = (at : ℕ) → arguments argument at (form_senses (all_made vs)) bare_world vars ≡ Ok (all_given vs)

  array_gives : (vs : Plains) → GivesAll vs → length (listed vs) ≤ 100000 → depth (array vs) ≤ max_depth → Gives (array vs)
  array_gives no_items all few shallow = refl
  array_gives (item v vs) all few shallow = rw (all 0, each_given vs, items_back vs, array_within (item v vs) few shallow) refl

  mutual
    gives : (p : Plain) → is_short p ≡ true → depth p ≤ max_depth → Gives p
    gives (array vs) short shallow =
        let e = both (nat_le (length (listed vs)) 100000) (all_short vs) short in
        array_gives vs (gives_all vs e.1 (omega (arith, shallow))) (under (length (listed vs)) 100000 e.0) shallow
    gives low short shallow = refl
    gives (boolean b) short shallow = refl
    gives null short shallow = refl
    gives (number z) short shallow = refl
    gives (object ms) short shallow = refl
    gives (binary s) short shallow = refl
    gives (time t) short shallow = refl
    gives (text s) short shallow = refl
    gives high short shallow = refl

    gives_all : (vs : Plains) → all_short vs ≡ true → items_depth vs ≤ max_depth → GivesAll vs
    gives_all no_items short shallow at = refl
    gives_all (item v vs) short shallow at =
        let e = both (is_short v) (all_short vs) short in
        rw (as_argument at v (gives v e.0 (omega (arith, shallow))), gives_all vs e.1 (omega (arith, shallow)) (suc at)) refl

-- called as the function of an index
constant_value : (p d : Plain) → Gives [] p → index_value (made p) d ≡ Ok p
constant_value (array vs) d h = rw h refl
constant_value low d h = refl
constant_value (boolean b) d h = refl
constant_value null d h = refl
constant_value (number z) d h = refl
constant_value (object ms) d h = refl
constant_value (binary s) d h = refl
constant_value (time t) d h = refl
constant_value (text s) d h = refl
constant_value high d h = refl

pub made_gives : (p d : Plain) → keeps_limits p ≡ true → index_value (made p) d ≡ Ok p
made_gives p d h = let e = both (nat_le (depth p) max_depth) (is_short p) h in constant_value p d (gives [] p e.1 (under (depth p) max_depth e.0))
