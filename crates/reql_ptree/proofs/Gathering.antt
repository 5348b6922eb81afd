-- What a node adds to what was given, by what its sides add.
use Rattle.std.proofs.Common.{◌≡◌, ℕ, ◌+◌, ◌*◌, ◌-◌, ◌<◌, ◌≤◌, min, inl, inr, List, [], ◌∷◌, ◌++◌, length, take, Bool, true, false, Option, Some, None, Result, Ok, Err, IfOk, refl, sym, ap, ◌∙◌, subst, arith, length-append}
use Rattle.std.specs.List.{filter}
use Rattle.std.proofs.lemmas.Bool.{cases_lt}
use Rattle.std.proofs.lemmas.List.{length-map, take_all}
use Rattle.std.proofs.lemmas.List.Sums.{length-filter, count_by-le-length}
use Rattle.reql_datum.specs.Plain.{Plain}
use Rattle.reql_ptree.specs.Ends.{is_past, is_before, between, given, start_of, end_of}
use Rattle.reql_ptree.specs.Pairs.{AreRising, Opens}
use Rattle.reql_ptree.specs.Range.{lies_within, range_of}
use Rattle.reql_ptree.specs.Side.{IsNodeOf}
use Rattle.reql_ptree.specs.Spent.{IsSpent, credit}
use Rattle.reql_ptree.specs.Tall.{tall, least}
use Rattle.reql_ptree.proofs.Gathered.{given_rising, given_falling, length_given, then_given, full_given, length_now, credit_has, credit_past, credit_one}
use Rattle.reql_ptree.proofs.Ranges.{between_right, between_left, between_both}
use Rattle.reql_ptree.proofs.Spent.{sizes_of, path_end, path_one, path_left, path_right, spent_right, spent_left, spent_both, spent_cut, spent_none, credit_le}
use Rattle.reql_ptree.proofs.Ways.{opens_at}
use Rattle.reql_ptree.specs.declared.side.Node.{Node}

-- the room that a first part leaves
pub room_left : (falling : Bool) (most : ℕ) (o x : List Plain) (ms : List (Plain × Plain)) → x ≡ take most (o ++ given falling ms) → length x < most → (length ms < most - length o) × (most - length x ≡ most - length o - length ms)
room_left falling most o x ms is less =
    let e : length x ≡ min most (length o + length (given falling ms)) = length_now most o (given falling ms) [] x is in
    let f : length (given falling ms) ≡ length ms = length_given falling ms in
    (omega (arith, e, f, less), omega (arith, e, f, less))

pub opens_any : (ms : List (Plain × Plain)) → Opens (λ k. true ≡ true) ms
opens_any [] = tt
opens_any (m ∷ ms) = refl

pub waits_past : (low : Option (Plain × Bool)) (high : Option (Plain × Bool)) (first : Plain) (ms : List (Plain × Plain)) → is_past low first ≡ false → low ≡ None → Opens (λ k. is_before high k ≡ true) ms
waits_past None high first ms past is = absurd (cc)
waits_past (Some c) high first ms past is = absurd (cc)

module _ (low high : Option (Plain × Bool)) (p : List (Plain × Plain)) {d : List (Plain × Plain) × ℕ} {n : Node} (at : IsNodeOf d n) (up : AreRising (p ++ d.0)) (first : Plain) (first_is : Opens (λ k. k ≡ first) n.chunk) where
  abbrev lower : List (Plain × Plain)
  lower = between low None (p ++ n.left.0)

  abbrev upper : List (Plain × Plain)
  upper = between None high (n.chunk ++ n.right.0)

  pub waits_before : is_before high first ≡ true → Opens (λ k. is_before high k ≡ true) n.chunk
  waits_before h = opens_at (λ k. is_before high k ≡ true) first n.chunk first_is h

  -- the way goes on
  module _ (falling : Bool) (room s0 s1 s2 : ℕ) (step : s1 ≤ s0 + 1) where
    pub spends_right : is_past low first ≡ false → IsSpent (start_of falling low high) (end_of falling low high) (length n.chunk) (length n.right.0) n.right.1 room (length (between low high (n.chunk ++ n.right.0))) (credit low n.chunk) s1 s2
        → IsSpent (start_of falling low high) (end_of falling low high) (length p) (length d.0) d.1 room (length (between low high (p ++ d.0))) (credit low p) s0 s2
    spends_right past w =
        let e : credit low n.chunk ≡ credit low p = credit_past low first n.chunk past ∙ sym (credit_past low first p past) in
        let a : length (between low high (n.chunk ++ n.right.0)) ≡ length (between low high (p ++ d.0)) = sym (ap length (between_right low high p at up first first_is past)) in
        subst (λ a. IsSpent (start_of falling low high) (end_of falling low high) (length p) (length d.0) d.1 room a (credit low p) s0 s2) a
        (spent_right (sizes_of at) (length p) room (length (between low high (n.chunk ++ n.right.0))) (credit low p) s0 s1 s2 step falling low high first past
        (subst (λ c. IsSpent (start_of falling low high) (end_of falling low high) (length n.chunk) (length n.right.0) n.right.1 room (length (between low high (n.chunk ++ n.right.0))) c s1 s2) e w))

    pub spends_left : is_before high first ≡ false → IsSpent (start_of falling low high) (end_of falling low high) (length p) (length n.left.0) n.left.1 room (length (between low high (p ++ n.left.0))) (credit low p) s1 s2
        → IsSpent (start_of falling low high) (end_of falling low high) (length p) (length d.0) d.1 room (length (between low high (p ++ d.0))) (credit low p) s0 s2
    spends_left before w =
        let a : length (between low high (p ++ n.left.0)) ≡ length (between low high (p ++ d.0)) = sym (ap length (between_left low high p at up first first_is before)) in
        subst (λ a. IsSpent (start_of falling low high) (end_of falling low high) (length p) (length d.0) d.1 room a (credit low p) s0 s2) a
        (spent_left (sizes_of at) (length p) room (length (between low high (p ++ n.left.0))) (credit low p) s0 s1 s2 step falling low high first before w)

  -- or both ways
  module _ (past : is_past low first ≡ true) (before : is_before high first ≡ true) where
    parts : between low high (p ++ d.0) ≡ lower ++ upper
    parts = between_both low high p at up first first_is past before

    count : length (between low high (p ++ d.0)) ≡ length lower + length upper
    count = ap length parts ∙ length-append lower upper

    has_lower : credit low p ≤ length lower
    has_lower = credit_has low None p n.left.0 (λ _. opens_any p)

    has_upper : credit None n.chunk ≤ length upper
    has_upper = credit_has None high n.chunk n.right.0 (λ _. waits_before before)

    owes_one : credit None n.chunk ≡ 1
    owes_one = credit_one n.chunk at.node.chunk_is.some

    pub gives_rising : (most : ℕ) (o x y : List Plain) → x ≡ take most (o ++ given false lower) → y ≡ take most (x ++ given false upper) → y ≡ take most (o ++ given false (between low high (p ++ d.0)))
    gives_rising most o x y e f = then_given most o (given false lower) (given false upper) x e y f ∙ ap (λ t. take most (o ++ t)) (sym (ap (given false) parts ∙ given_rising lower upper))

    pub fills_rising : (most : ℕ) (o x : List Plain) → x ≡ take most (o ++ given false lower) → most ≤ length x → x ≡ take most (o ++ given false (between low high (p ++ d.0)))
    fills_rising most o x e full = full_given most o (given false lower) (given false upper) x e full ∙ ap (λ t. take most (o ++ t)) (sym (ap (given false) parts ∙ given_rising lower upper))

    pub gives_falling : (most : ℕ) (o x y : List Plain) → x ≡ take most (o ++ given true upper) → y ≡ take most (x ++ given true lower) → y ≡ take most (o ++ given true (between low high (p ++ d.0)))
    gives_falling most o x y e f = then_given most o (given true upper) (given true lower) x e y f ∙ ap (λ t. take most (o ++ t)) (sym (ap (given true) parts ∙ given_falling lower upper))

    pub fills_falling : (most : ℕ) (o x : List Plain) → x ≡ take most (o ++ given true upper) → most ≤ length x → x ≡ take most (o ++ given true (between low high (p ++ d.0)))
    fills_falling most o x e full = full_given most o (given true upper) (given true lower) x e full ∙ ap (λ t. take most (o ++ t)) (sym (ap (given true) parts ∙ given_falling lower upper))

    module _ (room s0 s1 s2 : ℕ) (step : s1 ≤ s0 + 1) where
      abbrev Whole : Option (Plain × Bool) → Option (Plain × Bool) → ℕ → Type 0
      Whole sa sb s = IsSpent sa sb (length p) (length d.0) d.1 room (length (between low high (p ++ d.0))) (credit low p) s0 s

      module _ (x : IsSpent low None (length p) (length n.left.0) n.left.1 room (length lower) (credit low p) s1 s2) where
        pub both_rising : (s3 : ℕ) → length lower < room → IsSpent None high (length n.chunk) (length n.right.0) n.right.1 (room - length lower) (length upper) (credit None n.chunk) s2 s3 → Whole low high s3
        both_rising s3 less y =
            subst (λ a. IsSpent low high (length p) (length d.0) d.1 room a (credit low p) s0 s3) (sym count)
            (spent_both (λ _ w. path_left (sizes_of at) (length p) w) (λ _ w. path_right (sizes_of at) (length p) w) low high room (length lower) (length upper) (credit low p) (credit low p) (credit None n.chunk) s0 s1 s2 step
            (omega (arith, owes_one)) (credit_le low p) (credit_le None n.chunk) has_upper x s3 less y)

        pub first_rising : Whole low high s2
        first_rising =
            elim (cases_lt (length lower) room) [
              | inl less ↦ both_rising s2 less (spent_none None high (length n.chunk) (length n.right.0) n.right.1 (room - length lower) (length upper) (credit None n.chunk) s2 (omega (arith, has_upper, owes_one, less)))
              | inr cut ↦ subst (λ a. IsSpent low high (length p) (length d.0) d.1 room a (credit low p) s0 s2) (sym count)
                  (spent_cut (λ _ w. path_left (sizes_of at) (length p) w) (λ _ w. path_right (sizes_of at) (length p) w) low high room (length lower) (length upper) (credit low p) (credit low p) (credit None n.chunk) s0 s1 s2 step
                  (omega (arith, owes_one)) (credit_le low p) (credit_le None n.chunk) has_upper x (path_one (sizes_of at) (length p)) cut)
            ]

      module _ (x : IsSpent high None (length n.chunk) (length n.right.0) n.right.1 room (length upper) (credit None n.chunk) s1 s2) where
        swapped : length upper + length lower ≡ length (between low high (p ++ d.0))
        swapped = omega (arith, count)

        pub both_falling : (s3 : ℕ) → length upper < room → IsSpent None low (length p) (length n.left.0) n.left.1 (room - length upper) (length lower) (credit low p) s2 s3 → Whole high low s3
        both_falling s3 less y =
            subst (λ a. IsSpent high low (length p) (length d.0) d.1 room a (credit low p) s0 s3) swapped
            (spent_both (λ _ w. path_right (sizes_of at) (length p) w) (λ _ w. path_left (sizes_of at) (length p) w) high low room (length upper) (length lower) (credit low p) (credit None n.chunk) (credit low p) s0 s1 s2 step
            (omega (arith, owes_one)) (credit_le None n.chunk) (credit_le low p) has_lower x s3 less y)

        pub first_falling : Whole high low s2
        first_falling =
            elim (cases_lt (length upper) room) [
              | inl less ↦ both_falling s2 less (spent_none None low (length p) (length n.left.0) n.left.1 (room - length upper) (length lower) (credit low p) s2 (omega (arith, has_lower, credit_le low p, less)))
              | inr cut ↦ subst (λ a. IsSpent high low (length p) (length d.0) d.1 room a (credit low p) s0 s2) swapped
                  (spent_cut (λ _ w. path_right (sizes_of at) (length p) w) (λ _ w. path_left (sizes_of at) (length p) w) high low room (length upper) (length lower) (credit low p) (credit None n.chunk) (credit low p) s0 s1 s2 step
                  (omega (arith, owes_one)) (credit_le None n.chunk) (credit_le low p) has_lower x (path_one (sizes_of at) (length p)) cut)
            ]

    -- by the direction that was found
    module _ (falling : Bool) where
      abbrev Spent_at : ℕ → ℕ → ℕ → Type 0
      Spent_at room s0 s = IsSpent (start_of falling low high) (end_of falling low high) (length p) (length d.0) d.1 room (length (between low high (p ++ d.0))) (credit low p) s0 s

      pub rising_full : falling ≡ false → (most : ℕ) (o x : List Plain) → x ≡ take most (o ++ given falling lower) → most ≤ length x → x ≡ take most (o ++ given falling (between low high (p ++ d.0)))
      rising_full is most o x = rw is (fills_rising most o x)

      pub falling_full : falling ≡ true → (most : ℕ) (o x : List Plain) → x ≡ take most (o ++ given falling upper) → most ≤ length x → x ≡ take most (o ++ given falling (between low high (p ++ d.0)))
      falling_full is most o x = rw is (fills_falling most o x)

      pub rising_ok : falling ≡ false → {A E : Type 0} (most : ℕ) (o x y : List Plain) (r : Result A E) → x ≡ take most (o ++ given falling lower) → IfOk r (λ _. y ≡ take most (x ++ given falling upper)) → IfOk r (λ _. y ≡ take most (o ++ given falling (between low high (p ++ d.0))))
      rising_ok is most o x y (Ok u) = rw is (gives_rising most o x y)
      rising_ok is most o x y (Err e) = λ _ _. tt

      pub falling_ok : falling ≡ true → {A E : Type 0} (most : ℕ) (o x y : List Plain) (r : Result A E) → x ≡ take most (o ++ given falling upper) → IfOk r (λ _. y ≡ take most (x ++ given falling lower)) → IfOk r (λ _. y ≡ take most (o ++ given falling (between low high (p ++ d.0))))
      falling_ok is most o x y (Ok u) = rw is (gives_falling most o x y)
      falling_ok is most o x y (Err e) = λ _ _. tt

      module _ (room s0 s1 s2 : ℕ) (step : s1 ≤ s0 + 1) where
        pub rising_first : falling ≡ false → IsSpent (start_of falling low None) (end_of falling low None) (length p) (length n.left.0) n.left.1 room (length lower) (credit low p) s1 s2 → Spent_at room s0 s2
        rising_first is = rw is (first_rising room s0 s1 s2 step)

        pub falling_first : falling ≡ true → IsSpent (start_of falling None high) (end_of falling None high) (length n.chunk) (length n.right.0) n.right.1 room (length upper) (credit None n.chunk) s1 s2 → Spent_at room s0 s2
        falling_first is = rw is (first_falling room s0 s1 s2 step)

      module _ (most : ℕ) (o x : List Plain) (s0 s1 s2 s3 : ℕ) (step : s1 ≤ s0 + 1) where
        pub rising_both : falling ≡ false → x ≡ take most (o ++ given falling lower) → length x < most
            → IsSpent (start_of falling low None) (end_of falling low None) (length p) (length n.left.0) n.left.1 (most - length o) (length lower) (credit low p) s1 s2
            → IsSpent (start_of falling None high) (end_of falling None high) (length n.chunk) (length n.right.0) n.right.1 (most - length x) (length upper) (credit None n.chunk) s2 s3
            → Spent_at (most - length o) s0 s3
        rising_both is = rw is (λ e less a b.
            let r = room_left false most o x lower e less in
            both_rising (most - length o) s0 s1 s2 step a s3 r.0 (subst (λ k. IsSpent None high (length n.chunk) (length n.right.0) n.right.1 k (length upper) (credit None n.chunk) s2 s3) r.1 b))

        pub falling_both : falling ≡ true → x ≡ take most (o ++ given falling upper) → length x < most
            → IsSpent (start_of falling None high) (end_of falling None high) (length n.chunk) (length n.right.0) n.right.1 (most - length o) (length upper) (credit None n.chunk) s1 s2
            → IsSpent (start_of falling low None) (end_of falling low None) (length p) (length n.left.0) n.left.1 (most - length x) (length lower) (credit low p) s2 s3
            → Spent_at (most - length o) s0 s3
        falling_both is = rw is (λ e less a b.
            let r = room_left true most o x upper e less in
            both_falling (most - length o) s0 s1 s2 step a s3 r.0 (subst (λ k. IsSpent None low (length p) (length n.left.0) n.left.1 k (length lower) (credit low p) s2 s3) r.1 b))

-- the steps of a whole tree
pub whole_spends : {sa sb : Option (Plain × Bool)} {n h room all owed s0 s1 : ℕ} → least h ≤ n → IsSpent sa sb 0 n h room all owed s0 s1 → s1 ≤ s0 + (2 * tall n + min room all)
whole_spends grown w = omega (arith, w.cost, path_end grown w.start_path, path_end grown w.end_path)

-- as many values as there are pairs are all
pub range_all : (bottom : Plain) (low_open : Bool) (top : Plain) (high_open : Bool) (ms : List (Plain × Plain)) (n : ℕ) → n ≡ length ms → take n (range_of bottom low_open top high_open ms) ≡ range_of bottom low_open top high_open ms
range_all bottom low_open top high_open ms n is =
    let found = filter (lies_within bottom low_open top high_open) ms in
    let few : length found ≤ length ms = omega (arith, length-filter (lies_within bottom low_open top high_open) ms, count_by-le-length (lies_within bottom low_open top high_open) ms) in
    take_all n (range_of bottom low_open top high_open ms) (omega (arith, few, is, length-map found (λ (m : Plain × Plain). m.1)))

pub ok_values : {E : Type 0} (r : Result (List Plain) E) (xs ys : List Plain) → IfOk r (λ items. items ≡ xs) → xs ≡ ys → IfOk r (λ items. items ≡ ys)
ok_values (Ok items) xs ys h e = h ∙ e
ok_values (Err why) xs ys h e = tt
