-- Each desk gets its pass, from the last to the first.
use Rattle.std.proofs.Common.{◌≡◌, ℕ, ◌+◌, ◌<◌, ◌≤◌, List, [], ◌∷◌, ◌++◌, length, refl, sym, ap, subst, ◌∙◌, arith, All, inl, inr, length-append, append-nil, append_assoc}
use Rattle.std.proofs.lemmas.Bool.{cases_eq}
use Rattle.std.specs.Prelude.{map, slice_index_or, slice_set}
use Rattle.std.specs.List.{range_with_len}
use Rattle.std.proofs.lemmas.List.{get_or-set_same, get_or-set_other, length-set, length_push, get_or_append_left, get_or_push, get_or_default, map_push}
use Rattle.std.proofs.lemmas.List.FromFn.{get_or-map-range_with_len, length-map-range_with_len, fill_by_all}
use Rattle.std.proofs.lemmas.List.{get_or-map, length-map}
use Rattle.std.proofs.lemmas.List.Elements.{All-map, All-push}
use Rattle.reql_shared.specs.Sight.{Object, Sight, unused, unused_passes}
use Rattle.reql_hall.specs.Rooms.{Rooms, Sitting, Sits, with_more, unused_desk, unused_desks}
use Rattle.reql_hall.specs.Sharing.{SharesOne, SharesAll}

module _ {C S : Type 0} where
  pub length_unused : (passes : List (Sight C S)) (o : Object S) (count : ℕ) → passes ≡ unused_passes o → o.passes ≡ count → length passes ≡ count
  length_unused passes o count e n = ap length e ∙ length-map-range_with_len (unused o) 0 o.passes ∙ n

module _ {S : Type 0} where
  map_objects : (C : Type 0) (slots : List (Object S)) (number : ℕ) → map (λ (p : Sight C S). p.object) (map (λ (o : Object S). unused o number) slots) ≡ slots
  map_objects C [] number = refl
  map_objects C (o ∷ slots) number = ap (λ l. o ∷ l) (map_objects C slots number)

module _ {C S NC NS : Type 0} where
  -- a desk with no slot
  abbrev pub seat_of : Sight NC NS → Sitting C S NC NS
  seat_of p = record { names = p; slots = [] }

  -- these passes are left of those that there were, and the desks from there on have theirs
  pub record Dealing (passes : List (Sight C S)) (desks : List (Sitting C S NC NS)) (left : List (Sight C S)) (now : List (Sitting C S NC NS)) : Type 0 where
    pub gone : List (Sight C S)
    pub front : passes ≡ left ++ gone
    pub many : length passes ≡ length desks
    pub same : length now ≡ length desks
    pub waiting : (k : ℕ) (d : Sitting C S NC NS) → k < length left → slice_index_or now k d ≡ slice_index_or desks k d
    pub dealt : (k : ℕ) (d : Sitting C S NC NS) (p : Sight C S) → length left ≤ k → k < length desks → slice_index_or now k d ≡ with_more (slice_index_or desks k d) (slice_index_or passes k p)

  pub deals_none : (passes : List (Sight C S)) (desks : List (Sitting C S NC NS)) → length passes ≡ length desks → Dealing passes desks passes desks
  deals_none passes desks e = record {
    gone = [];
    front = sym (append-nil passes);
    many = e;
    same = refl;
    waiting = λ k d lt. refl;
    dealt = λ k d p le lt. absurd (omega (arith, e, le, lt));
  }

  pub deals_one : (passes : List (Sight C S)) (desks : List (Sitting C S NC NS)) (left : List (Sight C S)) (now : List (Sitting C S NC NS)) (p : Sight C S) (rest : List (Sight C S)) (at : ℕ) (seat y : Sitting C S NC NS)
      → Dealing passes desks left now → left ≡ rest ++ p ∷ [] → at ≡ length rest → seat ≡ with_more (slice_index_or now at y) p → Dealing passes desks rest (slice_set now at seat)
  deals_one passes desks left now p rest at seat y i e a s =
      let long : length left ≡ length rest + 1 = ap length e ∙ length_push rest p in
      let all : length passes ≡ length left + length i.gone = ap length i.front ∙ length-append left i.gone in
      let in_desks : at < length desks = omega (arith, long, all, a, i.many) in
      let in_now : at < length now = omega (arith, in_desks, i.same) in
      let p_at : (q : Sight C S) → slice_index_or passes at q ≡ p = λ q.
      ap (λ l. slice_index_or l at q) (i.front ∙ ap (λ l. l ++ i.gone) e)
      ∙ get_or_append_left (rest ++ p ∷ []) i.gone q at (omega (arith, length_push rest p, a))
      ∙ get_or_push rest p q at (sym a) in
      record {
        gone = p ∷ i.gone;
        front = i.front ∙ ap (λ l. l ++ i.gone) e ∙ append_assoc rest (p ∷ []) i.gone;
        many = i.many;
        same = length-set now at seat ∙ i.same;
        waiting = λ k d lt. get_or-set_other now at k seat d (λ q. omega (arith, q, lt, a)) ∙ i.waiting k d (omega (arith, lt, long));
        dealt = λ k d q le lt. elim (cases_eq k at) [
          | inl same ↦ subst (λ n. slice_index_or (slice_set now at seat) n d ≡ with_more (slice_index_or desks n d) (slice_index_or passes n q)) (sym same)
              (get_or-set_same now at seat d in_now ∙ s
              ∙ (λ j. with_more ((i.waiting at y (omega (arith, long, a)) ∙ get_or_default desks at y d in_desks) j) (sym (p_at q) j)))
          | inr other ↦ get_or-set_other now at k seat d other ∙ i.dealt k d q (omega (arith, le, long, a, other)) lt
        ];
      }

  pub deals_all : (passes : List (Sight C S)) (desks : List (Sitting C S NC NS)) (left : List (Sight C S)) (now : List (Sitting C S NC NS)) → Dealing passes desks left now → length left ≡ 0 → (k : ℕ) (d : Sitting C S NC NS) (p : Sight C S) → k < length desks → slice_index_or now k d ≡ with_more (slice_index_or desks k d) (slice_index_or passes k p)
  deals_all passes desks left now i z k d p lt = i.dealt k d p (omega (arith, z)) lt

  pub shares_one : (start : S) (count : ℕ) (slots more : List (Object S)) (desks now : List (Sitting C S NC NS)) (passes : List (Sight C S)) (o : Object S)
      → o.start ≡ start → o.passes ≡ count → passes ≡ unused_passes o → more ≡ slots ++ o ∷ [] → length desks ≡ count
      → ((k : ℕ) (d : Sitting C S NC NS) (p : Sight C S) → k < length desks → slice_index_or now k d ≡ with_more (slice_index_or desks k d) (slice_index_or passes k p))
      → SharesOne start count slots more desks now
  shares_one start count slots more desks now passes o a n e m l h = record {
    object = o;
    start_is = a;
    count_is = n;
    slots_are = m;
    desks_are = λ k d lt.
        let one : slice_index_or passes k (unused o k) ≡ unused o k = ap (λ ps. slice_index_or ps k (unused o k)) e ∙ get_or-map-range_with_len (unused o) 0 o.passes k k (unused o k) (omega (arith, lt, n)) (omega arith) in
        h k d (unused o k) (omega (arith, lt, l)) ∙ ap (with_more (slice_index_or desks k d)) one;
  }

  pub shares_none : (count : ℕ) (desks : List (Sitting C S NC NS)) → length desks ≡ count → All (λ (d : Sitting C S NC NS). d.slots ≡ []) desks → SharesAll [] count [] desks desks
  shares_none count desks e h = record {
    starts_are = refl;
    counts_are = λ k d lt. absurd (omega (arith, lt));
    desks_are = λ k d lt i. record { names = (slice_index_or desks k d).names; slots = h k d (omega (arith, lt, e)) i };
  }

  pub shares_more : (starts : List S) (start : S) (count : ℕ) (slots more : List (Object S)) (desks now then : List (Sitting C S NC NS))
      → SharesAll starts count slots desks now → SharesOne start count slots more now then → SharesAll (starts ++ start ∷ []) count more desks then
  shares_more starts start count slots more desks now then s h = record {
    starts_are = ap (map (λ (o : Object S). o.start)) h.slots_are ∙ map_push (λ (o : Object S). o.start) slots h.object ∙ (λ i. s.starts_are i ++ h.start_is i ∷ []);
    counts_are = subst (λ l. All (λ (o : Object S). o.passes ≡ count) l) (sym h.slots_are) (All-push (λ (o : Object S). o.passes ≡ count) slots h.object s.counts_are h.count_is);
    desks_are = λ k d lt.
        h.desks_are k d lt
        ∙ (λ i. with_more (s.desks_are k d lt i) (unused h.object k))
        ∙ (λ i. record { names = (slice_index_or desks k d).names; slots = sym (ap (map (λ (o : Object S). unused o k)) h.slots_are ∙ map_push (λ (o : Object S). unused o k) slots h.object) i });
  }

  -- the desks at the start, with their passes on the slots
  pub unused_shared : (starts : List S) (names : Object NS) (passes : List (Sight NC NS)) (desks made : List (Sitting C S NC NS)) (slots : List (Object S)) (count : ℕ)
      → passes ≡ unused_passes names → names.passes ≡ count → desks ≡ map seat_of passes → length made ≡ length desks → SharesAll starts count slots desks made
      → made ≡ unused_desks record { names = names; slots = slots }
  unused_shared starts names passes desks made slots count p n d l s =
      let hall : Rooms S NS = record { names = names; slots = slots } in
      let f : ℕ → Sitting C S NC NS = unused_desk hall in
      let long : length passes ≡ names.passes = length_unused passes names names.passes p refl in
      let many : length made ≡ names.passes = l ∙ ap length d ∙ length-map passes seat_of ∙ long in
      fill_by_all f made names.passes (f 0) many (λ k lt.
      let name : (slice_index_or desks k (f 0)).names ≡ unused names k =
      ap (λ ds. (slice_index_or ds k (f 0)).names) d
      ∙ ap (λ (x : Sitting C S NC NS). x.names) (get_or-map seat_of passes k (unused names k) (f 0) (omega (arith, long, lt)))
      ∙ ap (λ ps. slice_index_or ps k (unused names k)) p
      ∙ get_or-map-range_with_len (unused names) 0 names.passes k k (unused names k) lt (omega arith) in
      s.desks_are k (f 0) (omega (arith, lt, n)) ∙ (λ i. record { names = name i; slots = map (λ (o : Object S). unused o k) slots }))

  pub unused_sits : (hall : Rooms S NS) (number : ℕ) → Sits {C = C} {S = S} {NC = NC} {NS = NS} hall (unused_desk hall number)
  unused_sits hall number = record {
    names = refl;
    slots = map_objects C hall.slots number;
    numbers = All-map (λ (p : Sight C S). p.number ≡ number) (λ (o : Object S). unused o number) hall.slots (λ k d lt. refl);
  }

  pub all_sit : (hall : Rooms S NS) (desks : List (Sitting C S NC NS)) → desks ≡ unused_desks hall → All (Sits hall) desks
  all_sit hall desks e = subst (λ l. All (Sits hall) l) (sym e) (All-map (Sits {C = C} {S = S} {NC = NC} {NS = NS} hall) (unused_desk hall) (range_with_len 0 hall.names.passes) (λ k d lt. unused_sits hall (slice_index_or (range_with_len 0 hall.names.passes) k d)))
