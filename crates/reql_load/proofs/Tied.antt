-- What is folded is what the folds of feeds make of the items.
use Rattle.std.proofs.Common.{◌≡◌, ℕ, suc, ◌+◌, ◌≤◌, List, [], ◌∷◌, Option, Some, None, Bool, true, false, ◌&&◌, ◌||◌, cond, length, codes, refl, ◌∙◌, arith}
use Rattle.std.specs.Option.{option_and_then}
use Rattle.std.specs.List.{list_any}
use Rattle.reql_datum.specs.Plain.{Plain}
use Rattle.reql_rules.specs.Types.{same}
use Rattle.reql_bag.specs.Bag.{times}
use Rattle.reql_feed_spec.specs.Fold.{bag_fold, list_fold, cut}
use Rattle.reql_feed_spec.specs.Follows.{IsThere}
use Rattle.reql_feed_spec.specs.Shown.{member_at, read}
use Rattle.reql_load.specs.Folded.{is_state, is_there, is_below, folded_by, FoldsAsBag, BagsThatFollowFold, FoldsByPlaces}
use Rattle.reql_load.specs.declared.steps.Way.TheVariants as ways

neither : (b c : Bool) → (b || c) ≡ false → (b ≡ false) × (c ≡ false)
neither false c e = (refl, e)
neither true c e = cc

-- a step that was taken
went : (b s : Bool) (vs us ws : List Plain) (k : List Plain → Option (List Plain)) → b ≡ false → option_and_then k (cond b (Some vs) (cond s (Some us) None)) ≡ Some ws → (s ≡ true) × (k us ≡ Some ws)
went true s vs us ws k off e = cc
went false true vs us ws k off e = (refl, e)
went false false vs us ws k off e = cc

goes : (b s : Bool) (vs us : List Plain) (k : List Plain → Option (List Plain)) → b ≡ false → s ≡ true → option_and_then k (cond b (Some vs) (cond s (Some us) None)) ≡ k us
goes true s vs us k off on = cc
goes false true vs us k off on = refl
goes false false vs us k off on = cc

-- a value stands in a list where it stands there once or more often
any_once : (b : Bool) (n : ℕ) (rest : Bool) → (rest ≡ true → 1 ≤ n) → (b || rest) ≡ true → 1 ≤ cond b 1 0 + n
any_once true n rest h e = omega arith
any_once false n rest h e = omega (arith, h e)

once_any : (b : Bool) (n : ℕ) (rest : Bool) → (1 ≤ n → rest ≡ true) → 1 ≤ cond b 1 0 + n → (b || rest) ≡ true
once_any true n rest h e = refl
once_any false n rest h e = h (omega arith)

any_times : (v : Plain) (vs : List Plain) → list_any (same v) vs ≡ true → 1 ≤ times v vs
any_times v [] e = cc
any_times v (x ∷ xs) e = any_once (same v x) (times v xs) (list_any (same v) xs) (any_times v xs) e

times_any : (v : Plain) (vs : List Plain) → 1 ≤ times v vs → list_any (same v) vs ≡ true
times_any v [] h = absurd (omega arith)
times_any v (x ∷ xs) h = once_any (same v x) (times v xs) (list_any (same v) xs) (times_any v xs) h

is_there_is : (o : Option Plain) (vs : List Plain) → is_there o vs ≡ true → IsThere o vs
is_there_is None vs e = tt
is_there_is (Some v) vs e = any_times v vs e

there_is : (o : Option Plain) (vs : List Plain) → IsThere o vs → is_there o vs ≡ true
there_is None vs h = refl
there_is (Some v) vs h = times_any v vs h

pub as_bag : FoldsAsBag
as_bag vs ws [] none e = (tt, cc)
as_bag vs ws (i ∷ items) none e =
    let all = neither (is_state i) (list_any is_state items) none in
    let step = went (is_state i) (is_there (read i).old vs) vs (bag_fold vs (read i ∷ [])) ws (λ us. folded_by ways.AsBag us items) all.0 e in
    let rest = as_bag (bag_fold vs (read i ∷ [])) ws items all.1 step.1 in
    ((is_there_is (read i).old vs step.0, rest.0), rest.1)

pub follows : BagsThatFollowFold
follows vs [] none h = refl
follows vs (i ∷ items) none h =
    let all = neither (is_state i) (list_any is_state items) none in
    goes (is_state i) (is_there (read i).old vs) vs (bag_fold vs (read i ∷ [])) (λ us. folded_by ways.AsBag us items) all.0 (there_is (read i).old vs h.0)
    ∙ follows (bag_fold vs (read i ∷ [])) items all.1 h.1

pub by_places : FoldsByPlaces
by_places vs ws [] none e = cc
by_places vs ws (i ∷ items) none e =
    let all = neither (is_state i) (list_any is_state items) none in
    let step = went (is_state i) (is_below (length vs) (member_at (codes "old_offset") i) && is_below (suc (length (cut (read i).old_at vs))) (member_at (codes "new_offset") i)) vs (list_fold vs (read i ∷ [])) ws (λ us. folded_by ways.ByPlaces us items) all.0 e in
    by_places (list_fold vs (read i ∷ [])) ws items all.1 step.1
