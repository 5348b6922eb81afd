-- Passes and desks are shown whole histories, one after another.
use Rattle.std.proofs.Common.{◌≡◌, ℕ, zero, suc, ◌+◌, ◌<◌, ◌≤◌, List, [], ◌∷◌, length, refl, sym, ap, subst, ◌∙◌, arith, All, inl, inr}
use Rattle.std.specs.Prelude.{map, slice_index_or, slice_set}
use Rattle.std.specs.List.{AllZip}
use Rattle.std.proofs.lemmas.Bool.{cases_eq, cases_lt}
use Rattle.std.proofs.lemmas.List.Elements.{All-set}
use Rattle.std.proofs.lemmas.List.{get_or-set_same, get_or-set_other, length-set, set-get_or, get_or-map, get_or_default, get_or_past, length-map}
use Rattle.reql_shared.specs.declared.recorded.Recorded.{Recorded}
use Rattle.reql_shared.specs.Sight.{Sight, Closing, Learns}
use Rattle.reql_hall.specs.Rooms.{Rooms, Sitting, Histories, Sits, LearnsAll, nobody, pass}

element : {A : Type 0} (xs : List A) (t : ℕ) → t < length xs → (x : A) × ((d : A) → slice_index_or xs t d ≡ x)
element [] t lt = absurd (omega (arith, lt))
element (x ∷ xs) zero lt = (x, λ d. refl)
element (x ∷ xs) (suc t) lt = element xs t (omega (arith, lt))

map_from_places : {A B : Type 0} (f : A → B) (xs ys : List A) → length ys ≡ length xs → ((k : ℕ) (d : A) → k < length xs → f (slice_index_or ys k d) ≡ f (slice_index_or xs k d)) → map f ys ≡ map f xs
map_from_places f [] [] l h = refl
map_from_places f [] (y ∷ ys) l h = absurd (omega (arith, l))
map_from_places f (x ∷ xs) [] l h = absurd (omega (arith, l))
map_from_places f (x ∷ xs) (y ∷ ys) l h = λ i. h 0 x (omega arith) i ∷ map_from_places f xs ys (omega (arith, l)) (λ k d lt. h (suc k) d (omega (arith, lt))) i

pub zip_from_places : {A B : Type 0} (R : A → B → Type 0) (xs : List A) (ys : List B) → length ys ≡ length xs → ((k : ℕ) (d : A) (e : B) → k < length xs → R (slice_index_or xs k d) (slice_index_or ys k e)) → AllZip R xs ys
zip_from_places R [] [] l h = tt
zip_from_places R [] (y ∷ ys) l h = absurd (omega (arith, l))
zip_from_places R (x ∷ xs) [] l h = absurd (omega (arith, l))
zip_from_places R (x ∷ xs) (y ∷ ys) l h = (h 0 x y (omega arith), zip_from_places R xs ys (omega (arith, l)) (λ k d e lt. h (suc k) d e (omega (arith, lt))))

module _ {E C S : Type 0} where
  -- the passes before this place have seen their whole histories, and the others are as they were
  pub record Checked (passes : List (Sight C S)) (slots : List (Closing E C S)) (now : List (Sight C S)) (still : List (Closing E C S)) (k : ℕ) : Type 0 where
    pub objects : map (λ (p : Sight C S). p.object) passes ≡ map (λ (f : Closing E C S). f.object) slots
    pub same : still ≡ slots
    pub many : length now ≡ length passes
    pub learnt : (j : ℕ) (p : Sight C S) (f : Closing E C S) → j < k → j < length passes → Learns (slice_index_or passes j p) (slice_index_or now j p) (slice_index_or slots j f).history
    pub rest : (j : ℕ) (p : Sight C S) → k ≤ j → slice_index_or now j p ≡ slice_index_or passes j p

  pub checked_none : (passes : List (Sight C S)) (slots : List (Closing E C S)) → map (λ (p : Sight C S). p.object) passes ≡ map (λ (f : Closing E C S). f.object) slots → Checked passes slots passes slots 0
  checked_none passes slots o = record {
    objects = o;
    same = refl;
    many = refl;
    learnt = λ j p f lt. absurd (omega (arith, lt));
    rest = λ j p le. refl;
  }

  pub as_many : (passes : List (Sight C S)) (slots : List (Closing E C S)) → map (λ (p : Sight C S). p.object) passes ≡ map (λ (f : Closing E C S). f.object) slots → length passes ≡ length slots
  as_many passes slots o = sym (length-map passes (λ (p : Sight C S). p.object)) ∙ ap length o ∙ length-map slots (λ (f : Closing E C S). f.object)

  -- the pass at this place is one of the engine there
  pub checks : (passes : List (Sight C S)) (slots : List (Closing E C S)) (now : List (Sight C S)) (still : List (Closing E C S)) (k : ℕ) (p : Sight C S) (f : Closing E C S)
      → Checked passes slots now still k → k < length passes → (slice_index_or now k p).object ≡ (slice_index_or still k f).object
  checks passes slots now still k p f c lt =
      ap (λ (x : Sight C S). x.object) (c.rest k p (omega arith)) ∙ sym (get_or-map (λ (x : Sight C S). x.object) passes k p f.object lt)
      ∙ ap (λ l. slice_index_or l k f.object) c.objects
      ∙ get_or-map (λ (x : Closing E C S). x.object) slots k f f.object (omega (arith, lt, as_many passes slots c.objects))
      ∙ ap (λ l. (slice_index_or l k f).object) (sym c.same)

  pub checked_one : (passes : List (Sight C S)) (slots : List (Closing E C S)) (now : List (Sight C S)) (still : List (Closing E C S)) (k : ℕ) (p q : Sight C S) (f g : Closing E C S)
      → Checked passes slots now still k → k < length passes → g ≡ slice_index_or still k f → Learns (slice_index_or now k p) q (slice_index_or still k f).history
      → Checked passes slots (slice_set now k q) (slice_set still k g) (k + 1)
  checked_one passes slots now still k p q f g c lt e l =
      let low : k < length now = omega (arith, lt, c.many) in
      let there : k < length still = omega (arith, lt, as_many passes slots c.objects, ap length c.same) in
      record {
        objects = c.objects;
        same = ap (slice_set still k) e ∙ set-get_or still k f ∙ c.same;
        many = length-set now k q ∙ c.many;
        learnt = λ j d h below in_passes. elim (cases_eq j k) [
          | inl same ↦ subst (λ n. Learns (slice_index_or passes n d) (slice_index_or (slice_set now k q) n d) (slice_index_or slots n h).history) (sym same)
              (subst (λ (x : Sight C S × Sight C S × Closing E C S). Learns x.0 x.1 x.2.history)
              (λ i. ((get_or_default now k p d low ∙ c.rest k d (omega arith)) i, sym (get_or-set_same now k q d low) i, (get_or_default still k f h there ∙ ap (λ l. slice_index_or l k h) c.same) i)) l)
          | inr other ↦ subst (λ x. Learns (slice_index_or passes j d) x (slice_index_or slots j h).history) (sym (get_or-set_other now k j q d other)) (c.learnt j d h (omega (arith, below, other)) in_passes)
        ];
        rest = λ j d le. get_or-set_other now k j q d (λ s. omega (arith, s, le)) ∙ c.rest j d (omega (arith, le));
      }

  -- the same with the pass that is read there
  pub checked_half : (passes : List (Sight C S)) (slots : List (Closing E C S)) (now : List (Sight C S)) (still : List (Closing E C S)) (k : ℕ) (p q : Sight C S) (f g : Closing E C S)
      → Checked passes slots now still k → k < length passes → p ≡ slice_index_or now k p → g ≡ slice_index_or still k f → Learns p q (slice_index_or still k f).history
      → Checked passes slots (slice_set now k q) (slice_set still k g) (k + 1)
  checked_half passes slots now still k p q f g c lt a e l =
      checked_one passes slots now still k p q f g c lt e (subst (λ x. Learns x q (slice_index_or still k f).history) a l)

module _ {E C S NC NS : Type 0} where
  pub learns_all : (old new : Sitting C S NC NS) (names : List (Recorded NC)) (slots : List (Closing E C S))
      → map (λ (p : Sight C S). p.object) old.slots ≡ map (λ (f : Closing E C S). f.object) slots
      → Learns old.names new.names names → length new.slots ≡ length old.slots
      → ((k : ℕ) (p : Sight C S) (f : Closing E C S) → k < length old.slots → Learns (slice_index_or old.slots k p) (slice_index_or new.slots k p) (slice_index_or slots k f).history)
      → LearnsAll old new (record { names = names; slots = map (λ (f : Closing E C S). f.history) slots })
  learns_all old new names slots o n many h = record {
    names = n;
    slots = λ some t. elim (cases_lt t (length old.slots)) [
      | inl lt ↦
          let f = element slots t (omega (arith, lt, as_many old.slots slots o)) in
          subst (λ (x : Sight C S × List (Recorded C)). Learns (pass some old t) x.0 x.1)
          (λ i. (get_or_default new.slots t (nobody some old) (nobody some new) (omega (arith, lt, many)) i, sym (get_or-map (λ (f : Closing E C S). f.history) slots t f.0 [] (omega (arith, lt, as_many old.slots slots o))) i))
          (h t (nobody some old) f.0 lt)
      | inr ge ↦
          subst (λ (x : Sight C S × Sight C S × List (Recorded C)). Learns x.0 x.1 x.2)
          (λ i. (sym (get_or_past old.slots t (nobody some old) ge) i, sym (get_or_past new.slots t (nobody some new) (omega (arith, ge, many))) i, sym (get_or_past (map (λ (f : Closing E C S). f.history) slots) t [] (omega (arith, ge, length-map slots (λ (f : Closing E C S). f.history), as_many old.slots slots o))) i))
          (record {
            object = λ i. record { id = (n.object i).id; start = some; passes = (n.object i).passes };
            number = n.number;
            seen = refl;
            more = ([], refl);
            mine = refl;
            marks = refl;
          })
    ];
  }

module _ {E C S NC NS : Type 0} where
  -- a desk that was shown whole histories is one of its hall still
  pub sits_learnt : (hall : Rooms S NS) (old new : Sitting C S NC NS) (names : List (Recorded NC)) (slots : List (Closing E C S))
      → Sits hall old → map (λ (p : Sight C S). p.object) old.slots ≡ map (λ (f : Closing E C S). f.object) slots
      → Learns old.names new.names names → length new.slots ≡ length old.slots
      → ((k : ℕ) (p : Sight C S) (f : Closing E C S) → k < length old.slots → Learns (slice_index_or old.slots k p) (slice_index_or new.slots k p) (slice_index_or slots k f).history)
      → Sits hall new
  sits_learnt hall old new names slots s o n many h =
      let there : (k : ℕ) → k < length old.slots → (f : Closing E C S) × ((d : Closing E C S) → slice_index_or slots k d ≡ f) = λ k lt. element slots k (omega (arith, lt, as_many old.slots slots o)) in
      record {
        names = n.object ∙ s.names;
        slots = map_from_places (λ (p : Sight C S). p.object) old.slots new.slots many (λ k d lt. (h k d (there k lt).0 lt).object) ∙ s.slots;
        numbers = λ k d lt. (h k d (there k (omega (arith, lt, many))).0 (omega (arith, lt, many))).number ∙ s.numbers k d (omega (arith, lt, many)) ∙ sym n.number;
      }

module _ {C S NC NS : Type 0} where
  -- the desks before this place have seen these histories, and the others are as they were
  pub record CheckedDesks (desks : List (Sitting C S NC NS)) (all : Histories C NC) (now : List (Sitting C S NC NS)) (k : ℕ) : Type 0 where
    pub many : length now ≡ length desks
    pub learnt : (j : ℕ) (d : Sitting C S NC NS) → j < k → j < length desks → LearnsAll (slice_index_or desks j d) (slice_index_or now j d) all
    pub rest : (j : ℕ) (d : Sitting C S NC NS) → k ≤ j → slice_index_or now j d ≡ slice_index_or desks j d

  pub desks_none : (desks : List (Sitting C S NC NS)) (all : Histories C NC) → CheckedDesks desks all desks 0
  desks_none desks all = record {
    many = refl;
    learnt = λ j d lt. absurd (omega (arith, lt));
    rest = λ j d le. refl;
  }

  pub desks_one : (desks : List (Sitting C S NC NS)) (all : Histories C NC) (now : List (Sitting C S NC NS)) (k : ℕ) (y new : Sitting C S NC NS)
      → CheckedDesks desks all now k → k < length desks → LearnsAll (slice_index_or now k y) new all → CheckedDesks desks all (slice_set now k new) (k + 1)
  desks_one desks all now k y new c lt l =
      let low : k < length now = omega (arith, lt, c.many) in
      record {
        many = length-set now k new ∙ c.many;
        learnt = λ j d below in_desks. elim (cases_eq j k) [
          | inl same ↦ subst (λ n. LearnsAll (slice_index_or desks n d) (slice_index_or (slice_set now k new) n d) all) (sym same)
              (subst (λ (x : Sitting C S NC NS × Sitting C S NC NS). LearnsAll x.0 x.1 all) (λ i. ((get_or_default now k y d low ∙ c.rest k d (omega arith)) i, sym (get_or-set_same now k new d low) i)) l)
          | inr other ↦ subst (λ x. LearnsAll (slice_index_or desks j d) x all) (sym (get_or-set_other now k j new d other)) (c.learnt j d (omega (arith, below, other)) in_desks)
        ];
        rest = λ j d le. get_or-set_other now k j new d (λ s. omega (arith, s, le)) ∙ c.rest j d (omega (arith, le));
      }

  pub desk_sits : (hall : Rooms S NS) (desks : List (Sitting C S NC NS)) (all : Histories C NC) (now : List (Sitting C S NC NS)) (k : ℕ) (y : Sitting C S NC NS)
      → All (Sits hall) desks → CheckedDesks desks all now k → k < length desks → Sits hall (slice_index_or now k y)
  desk_sits hall desks all now k y s c lt = subst (Sits hall) (sym (c.rest k y (omega arith))) (s k y lt)

  pub desks_all : (desks : List (Sitting C S NC NS)) (all : Histories C NC) (now : List (Sitting C S NC NS)) (k : ℕ) → CheckedDesks desks all now k → length desks ≤ k → AllZip (λ old new. LearnsAll old new all) desks now
  desks_all desks all now k c le = zip_from_places (λ old new. LearnsAll old new all) desks now c.many (λ j d e lt.
      subst (λ x. LearnsAll (slice_index_or desks j d) x all) (get_or_default now j d e (omega (arith, lt, c.many))) (c.learnt j d (omega (arith, lt, le)) lt))

module _ {E C S NE NC NS : Type 0} where
  -- engines that are as they were have the same histories
  pub learns_still : (names was : Closing NE NC NS) (slots before : List (Closing E C S)) (old new : Sitting C S NC NS) → names ≡ was → slots ≡ before
      → LearnsAll old new (record { names = names.history; slots = map (λ (f : Closing E C S). f.history) slots }) → LearnsAll old new (record { names = was.history; slots = map (λ (f : Closing E C S). f.history) before })
  learns_still names was slots before old new n s h = subst (λ (x : Closing NE NC NS × List (Closing E C S)). LearnsAll old new (record { names = x.0.history; slots = map (λ (f : Closing E C S). f.history) x.1 })) (λ i. (n i, s i)) h

  -- and the same objects
  pub desks_stay : (names was : Closing NE NC NS) (slots before : List (Closing E C S)) (desks : List (Sitting C S NC NS)) (k : ℕ) (new : Sitting C S NC NS) → names ≡ was → slots ≡ before
      → Sits (record { names = names.object; slots = map (λ (f : Closing E C S). f.object) slots }) new
      → All (Sits (record { names = was.object; slots = map (λ (f : Closing E C S). f.object) before })) desks
      → All (Sits (record { names = was.object; slots = map (λ (f : Closing E C S). f.object) before })) (slice_set desks k new)
  desks_stay names was slots before desks k new n s h all =
      All-set (Sits (record { names = was.object; slots = map (λ (f : Closing E C S). f.object) before })) desks k new
      (subst (λ (x : Closing NE NC NS × List (Closing E C S)). Sits (record { names = x.0.object; slots = map (λ (f : Closing E C S). f.object) x.1 }) new) (λ i. (n i, s i)) h) all
