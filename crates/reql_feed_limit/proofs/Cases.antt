-- A step by its cases: where the pair that goes stands in the value, and where the element that comes would stand.
use Rattle.std.proofs.Common.{◌≡◌, ℕ, zero, suc, ◌-◌, ◌<◌, ◌≤◌, nat_lt, List, [], ◌∷◌, length, get_or, Bool, true, false, ◌&&◌, cond, if◌then◌else◌, Option, Some, None, Ordering, Less, Equal, Greater, is_eq, refl, sym, ap, ◌∙◌, subst, arith, inl, inr}
use Rattle.std.specs.List.{remove, AllByRecursion}
use Rattle.std.specs.List.Sorted.{IsStrictlySortedBy}
use Rattle.std.specs.Map.{keys_of}
use Rattle.std.specs.Ordering.{is_lt}
use Rattle.std.proofs.lemmas.Bool.{cases_lt, lt-ltb, le-ltb}
use Rattle.std.proofs.lemmas.List.Edits.{length-remove}
use Rattle.reql_datum.specs.Plain.{Plain}
use Rattle.reql_datum.specs.Order.{order}
use Rattle.reql_memory.specs.Sorted.{AreRisingBy, find_by, without_by, IsHitBy, IsGapBy}
use Rattle.reql_memory.proofs.Sorted.{find_hit, find_gap, rising_rest}
use Rattle.reql_feed_limit.specs.Selection.{Element}
use Rattle.reql_feed_limit.specs.Items.{same, Item}
use Rattle.reql_feed_limit.specs.Differs.{Differs}
use Rattle.reql_feed_limit.specs.Edits.{with_gone}
use Rattle.reql_feed_limit.specs.Boundary.{after_all, next_value, near, coming, Fresh, Later, Turn}
use Rattle.reql_feed_limit.proofs.Maps.{Strict, same_key, itself, find_head, find_without}
use Rattle.reql_feed_limit.proofs.Indexed.{plain_strict}
use Rattle.reql_feed_limit.proofs.Steps.{differs_none, differs_new, differs_push, differs_left, differs_next, differs_moved, differs_same}

some_first : (a b : Bool) → a && b ≡ true → a ≡ true
some_first true b h = refl
some_first false b h = h

some_second : (a b : Bool) → a && b ≡ true → b ≡ true
some_second true b h = h
some_second false b h = let f : false ≡ true = h in cc

plain_same : (a b : Plain) → is_eq (order a b) ≡ true → a ≡ b
plain_same a b h = same_key order plain_strict a b h

carried : {es vs : List Element} {i : Item} (ws : List Element) → vs ≡ ws → Differs es ws i → Differs es vs i
carried ws is by = record { core = by.core; old = by.old; new = is ∙ by.new; left_fits = by.left_fits; came_fits = by.came_fits; apart = by.apart }

and_rest : (a b : Bool) → a ≡ true → a && b ≡ false → b ≡ false
and_rest true b h g = g
and_rest false b h g = let f : false ≡ true = h in cc

not_second : (a b : Bool) → b ≡ false → a && b ≡ false
not_second true b h = h
not_second false b h = refl

both_same : (x c : Element) → x.0 ≡ c.0 → x.1 ≡ c.1 → x ≡ c
both_same x c h g = ap (λ p. (p, x.1)) h ∙ ap (λ d. (c.0, d)) g

some_element : (d c : Element) → Some d ≡ Some c → d ≡ c
some_element d c h = cc

come_cond : (b : Bool) (d c : Element) → (if b then None else Some d) ≡ Some c → Some d ≡ Some c
come_cond true d c h = cc
come_cond false d c h = h

near_cond : (b : Bool) (d c : Element) → (if b then None else Some d) ≡ Some c → (b ≡ false) × (d ≡ c)
near_cond true d c h = let f : None ≡ Some c = h in cc
near_cond false d c h = (refl, some_element d c h)

near_of : (cmp : Plain → Plain → Ordering) (es : List Element) (o : Option Element) (c : Element) → near cmp es o ≡ Some c → after_all cmp es c.0 ≡ false
near_of cmp es None c h = let f : None ≡ Some c = h in cc
near_of cmp es (Some d) c h = let both = near_cond (after_all cmp es d.0) d c h in ap (λ (e : Element). after_all cmp es e.0) (sym both.1) ∙ both.0

come_of : (cmp : Plain → Plain → Ordering) (es : List Element) (b : Bool) (o : Option Element) (c : Element) → (if b then o else near cmp es o) ≡ Some c → o ≡ Some c
come_of cmp es true o c h = h
come_of cmp es false None c h = h
come_of cmp es false (Some d) c h = come_cond (after_all cmp es d.0) d c h

key_back : {A : Type 0} (b : Bool) (f : Option Plain) (x : Plain) → f ≡ Some x → cond b None f ≡ None → (b ≡ true → A) → A
key_back true f x h g on = on refl
key_back false f x h g on = absurd (let e : Some x ≡ None = sym h ∙ g in cc)

-- where two elements are not the same unless their pairs are
same_not : (d e : Element) (r : Bool) → same d e ≡ r → (is_eq (order d.0 e.0) ≡ true → ⊥) → r ≡ false
same_not d e false is ne = refl
same_not d e true is ne = absurd (ne (some_first (is_eq (order d.0 e.0)) (is_eq (order d.1 e.1)) is))

tight_of : (n k : ℕ) (next : Option Element) → k < n → (if nat_lt k n then None else next) ≡ None
tight_of n k next lt = rw (lt-ltb k n lt) refl

full_of : (n k : ℕ) (next : Option Element) → n ≤ k → (if nat_lt k n then None else next) ≡ next
full_of n k next le = rw (le-ltb k n le) refl

-- nothing is near a full value without elements
pub full_some : (cmp : Plain → Plain → Ordering) (size : ℕ) (es : List Element) (come : Option Element) (c : Element) → size ≤ length es → coming cmp size es come ≡ Some c → length es ≡ 0 → ⊥
full_some cmp size [] come c le comes is = let f : true ≡ false = near_of cmp [] come c (rw (le-ltb 0 size le) at comes) in cc
full_some cmp size (e ∷ es) come c le comes is = omega arith

module _ (cmp : Plain → Plain → Ordering) (strict : Strict cmp) where
  all_get : (P : Plain → Type 0) (es : List Element) (i : ℕ) (d : Element) → AllByRecursion P (keys_of es) → i < length es → P (get_or es i d).0
  all_get P [] i d all lt = absurd (omega arith)
  all_get P (e ∷ es) zero d all lt = all.0
  all_get P (e ∷ es) (suc i) d all lt = all_get P es i d all.1 (omega arith)

  -- an element at a place is found
  find_place : (es : List Element) (i : ℕ) (x : Element) → AreRisingBy cmp es → i < length es → get_or es i x ≡ x → find_by cmp x.0 es ≡ Some x.1
  unfolding IsStrictlySortedBy
  find_place [] i x up lt is = absurd (omega arith)
  find_place (e ∷ es) zero x up lt is = find_head cmp strict x.0 e es (ap (λ (d : Element). d.0) (sym is)) ∙ ap (λ (d : Element). Some d.1) is
  find_place (e ∷ es) (suc i) x up lt is =
      let above : cmp e.0 x.0 ≡ Less = rw is at (all_get (λ k. cmp e.0 k ≡ Less) es i x up.0 (omega arith)) in
      let other : is_eq (cmp x.0 e.0) ≡ false = ap is_eq (strict.total.antisymm x.0 e.0) ∙ rw above refl in
      rw other (find_place es i x up.1 (omega arith) is)

  -- what is beyond all is beyond each
  after_place : (es : List Element) (i : ℕ) (x : Element) (p : Plain) → after_all cmp es p ≡ true → i < length es → get_or es i x ≡ x → is_lt (cmp x.0 p) ≡ true
  after_place [] i x p h lt is = absurd (omega arith)
  after_place (e ∷ es) zero x p h lt is = ap (λ (d : Element). is_lt (cmp d.0 p)) (sym is) ∙ some_first (is_lt (cmp e.0 p)) (after_all cmp es p) h
  after_place (e ∷ es) (suc i) x p h lt is = after_place es i x p (some_second (is_lt (cmp e.0 p)) (after_all cmp es p) h) (omega arith) is

  not_same_after : (es : List Element) (i : ℕ) (x e : Element) → after_all cmp es e.0 ≡ true → i < length es → get_or es i x ≡ x → same x e ≡ false
  not_same_after es i x e h lt is =
      same_not x e (same x e) refl (λ tie. let p : x.0 ≡ e.0 = plain_same x.0 e.0 tie in let f : is_lt (cmp e.0 e.0) ≡ true = rw p at (after_place es i x e.0 h lt is) in let g : is_lt (cmp e.0 e.0) ≡ false = ap is_lt (itself cmp strict e.0) in cc)

  not_same_absent : (es : List Element) (i : ℕ) (x c : Element) → AreRisingBy cmp es → find_by cmp c.0 es ≡ None → i < length es → get_or es i x ≡ x → same x c ≡ false
  not_same_absent es i x c up none lt is =
      same_not x c (same x c) refl (λ tie. let p : x.0 ≡ c.0 = plain_same x.0 c.0 tie in let f : Some x.1 ≡ None = sym (find_place es i x up lt is) ∙ rw p none in cc)

  gap_later : (m : Element) (ms : List Element) (k : Plain) (i j : ℕ) → cmp k m.0 ≡ Greater → IsGapBy cmp (keys_of ms) k (if nat_lt i j then j - 1 else j) → IsGapBy cmp (keys_of (m ∷ ms)) k (if nat_lt (suc i) (suc j) then suc j - 1 else suc j)
  gap_later m ms k i zero above gap = rw (le-ltb (suc i) (suc zero) (omega arith)) (above, rw (le-ltb i zero (omega arith)) at gap)
  gap_later m ms k i (suc j) above gap =
      let e : suc (suc j) - 1 ≡ suc j = omega arith in
      let f : suc j - 1 ≡ j = omega arith in
      elim (cases_lt i (suc j)) [
        | inl lt ↦ rw (lt-ltb (suc i) (suc (suc j)) (omega arith), e) (above, rw (lt-ltb i (suc j) lt, f) at gap)
        | inr ge ↦ rw (le-ltb (suc i) (suc (suc j)) (omega arith)) (above, rw (le-ltb i (suc j) ge) at gap)
      ]

  pub gap_within : (es : List Element) (k : Plain) (j : ℕ) → IsGapBy cmp (keys_of es) k j → j ≤ length es
  gap_within [] k zero gap = omega arith
  gap_within [] k (suc j) gap = absurd gap
  gap_within (e ∷ es) k zero gap = omega arith
  gap_within (e ∷ es) k (suc j) gap = let h = gap_within es k j gap.1 in omega arith

  lt_flip : (a b : Plain) → cmp a b ≡ Greater → is_lt (cmp b a) ≡ true
  lt_flip a b h = ap is_lt (strict.total.antisymm b a) ∙ rw h refl

  -- what isn't after all would stand before the end
  gap_near : (es : List Element) (k : Plain) (j : ℕ) → after_all cmp es k ≡ false → IsGapBy cmp (keys_of es) k j → j < length es
  gap_near [] k j near gap = let f : true ≡ false = near in cc
  gap_near (e ∷ es) k zero near gap = omega arith
  gap_near (e ∷ es) k (suc j) near gap = let h = gap_near es k j (and_rest (is_lt (cmp e.0 k)) (after_all cmp es k) (lt_flip k e.0 gap.0) near) gap.1 in omega arith

  -- two hits are at one place
  hit_one : (es : List Element) (k l : Plain) (i j : ℕ) → AreRisingBy cmp es → IsHitBy cmp (keys_of es) k i → IsHitBy cmp (keys_of es) l j → k ≡ l → i ≡ j
  hit_one [] k l i j up h g e = absurd h
  hit_one (m ∷ ms) k l zero zero up h g e = refl
  hit_one (m ∷ ms) k l zero (suc j) up h g e = let f : cmp k m.0 ≡ Greater = rw e (g.0) in cc
  hit_one (m ∷ ms) k l (suc i) zero up h g e = let f : cmp k m.0 ≡ Equal = rw e g in let f2 : cmp k m.0 ≡ Greater = h.0 in cc
  hit_one (m ∷ ms) k l (suc i) (suc j) up h g e = ap suc (hit_one ms k l i j (rising_rest cmp strict.total m ms up) h.1 g.1 e)

  -- where a key would stand once an element has gone
  gap_low : (k : Plain) (m : Element) (ms : List Element) → AreRisingBy cmp (m ∷ ms) → cmp k m.0 ≡ Less → IsGapBy cmp (keys_of ms) k 0
  unfolding IsStrictlySortedBy
  gap_low k m [] up h = tt
  gap_low k m (n ∷ ns) up h = strict.total.trans k m.0 n.0 h up.0.0

  gap_behind : (k : Plain) (m : Element) (ms : List Element) → AreRisingBy cmp (m ∷ ms) → cmp k m.0 ≡ Equal → IsGapBy cmp (keys_of ms) k 0
  unfolding IsStrictlySortedBy
  gap_behind k m [] up h = tt
  gap_behind k m (n ∷ ns) up h = strict.total.congr k m.0 n.0 h ∙ up.0.0

  pub gap_removed : (es : List Element) (k : Plain) (i j : ℕ) → AreRisingBy cmp es → i < length es → IsGapBy cmp (keys_of es) k j → IsGapBy cmp (keys_of (remove es i)) k (if nat_lt i j then j - 1 else j)
  gap_removed [] k i j up lt gap = absurd (omega arith)
  gap_removed (m ∷ ms) k zero zero up lt gap = gap_low k m ms up gap
  gap_removed (m ∷ ms) k zero (suc j) up lt gap = let e : suc j - 1 ≡ j = omega arith in rw (lt-ltb 0 (suc j) (omega arith), e) (gap.1)
  gap_removed (m ∷ ms) k (suc i) zero up lt gap = rw (le-ltb (suc i) 0 (omega arith)) gap
  gap_removed (m ∷ ms) k (suc i) (suc j) up lt gap = gap_later m (remove ms i) k i j gap.0 (gap_removed ms k i j (rising_rest cmp strict.total m ms up) (omega arith) gap.1)

  pub hit_removed : (es : List Element) (k : Plain) (i : ℕ) → AreRisingBy cmp es → IsHitBy cmp (keys_of es) k i → IsGapBy cmp (keys_of (remove es i)) k i
  hit_removed [] k i up hit = absurd hit
  hit_removed (m ∷ ms) k zero up hit = gap_behind k m ms up hit
  hit_removed (m ∷ ms) k (suc i) up hit = (hit.0, hit_removed ms k i (rising_rest cmp strict.total m ms up) hit.1)

  hit_key : (es : List Element) (k : Plain) (i : ℕ) (x : Element) → IsHitBy cmp (keys_of es) k i → get_or es i x ≡ x → k ≡ x.0
  hit_key [] k i x hit is = absurd hit
  hit_key (e ∷ es) k zero x hit is = strict.one k e.0 hit ∙ ap (λ (d : Element). d.0) is
  hit_key (e ∷ es) k (suc i) x hit is = hit_key es k i x hit.1 is

  module _ (size : ℕ) (gone : Option Plain) (come next : Option Element) (es vs : List Element) (t : Turn cmp size gone come next es vs) where
    -- nothing leaves and nothing comes
    pub step_none : with_gone cmp gone es ≡ es → coming cmp size es come ≡ None → Differs es vs (record { left = None; came = None })
    step_none stays away =
        let by = differs_none cmp strict size gone (if nat_lt (length es) size then None else next) es t.few (tight_of size (length es) next) stays in
        carried _ (t.after ∙ ap (λ o. next_value cmp size gone o (if nat_lt (length es) size then None else next) es) away) by

    -- an element comes into a value with room
    pub step_new : (c : Element) (j : ℕ) → with_gone cmp gone es ≡ es → coming cmp size es come ≡ Some c → length es < size → IsGapBy cmp (keys_of es) c.0 j → j ≤ length es → Differs es vs (record { left = None; came = Some (j, c) })
    step_new c j stays comes lt gap le =
        carried _ (t.after ∙ ap (λ o. next_value cmp size gone o (if nat_lt (length es) size then None else next) es) comes ∙ ap (λ o. next_value cmp size gone (Some c) o es) (tight_of size (length es) next lt))
        (differs_new cmp strict size gone c j es lt stays gap le)

    coming_is : (c : Element) → coming cmp size es come ≡ Some c → come ≡ Some c
    coming_is c h = come_of cmp es (nat_lt (length es) size) come c h

    pub absent_here : (c : Element) → coming cmp size es come ≡ Some c → find_by cmp c.0 (with_gone cmp gone es) ≡ None
    absent_here c h = let P : Option Element → Type 0 = λ o. Fresh cmp gone o es in subst P (coming_is c h) t.fresh

    -- what comes stands nowhere while nothing goes
    pub not_hit : (c : Element) (i : ℕ) → coming cmp size es come ≡ Some c → with_gone cmp gone es ≡ es → IsHitBy cmp (keys_of es) c.0 i → ⊥
    not_hit c i comes same hit = let f : None ≡ Some (get_or es i c).1 = sym (ap (find_by cmp c.0) (sym same) ∙ absent_here c comes) ∙ find_hit cmp strict.total es c.0 i c hit in cc

    -- an element comes into a value that is full, whose last one leaves
    pub step_push : (c b : Element) (j k : ℕ) → with_gone cmp gone es ≡ es → coming cmp size es come ≡ Some c → size ≤ length es → suc k ≡ length es → IsGapBy cmp (keys_of es) c.0 j → get_or es k b ≡ b
        → Differs es vs (record { left = Some (k, b); came = Some (j, c) })
    step_push c b j k stays comes le is gap last =
        let few = t.few in
        let near_c : after_all cmp es c.0 ≡ false = near_of cmp es come c (rw (le-ltb (length es) size le) at comes) in
        let low_enough = gap_near es c.0 j near_c gap in
        let none : find_by cmp c.0 es ≡ None = ap (find_by cmp c.0) (sym stays) ∙ absent_here c comes in
        carried _ (t.after ∙ ap (λ o. next_value cmp size gone o (if nat_lt (length es) size then None else next) es) comes)
        (differs_push cmp strict size gone c b (if nat_lt (length es) size then None else next) j k es (omega arith) (omega arith) stays gap (omega arith) last (not_same_absent es k b c t.rising none (omega arith) last))

    goes_away : (g : Plain) → gone ≡ Some g → coming cmp size es come ≡ None → vs ≡ next_value cmp size (Some g) None (if nat_lt (length es) size then None else next) es
    goes_away g goes away = t.after ∙ ap (λ o. next_value cmp size gone o (if nat_lt (length es) size then None else next) es) away ∙ ap (λ o. next_value cmp size o None (if nat_lt (length es) size then None else next) es) goes

    -- an element leaves, and nothing follows
    pub step_left : (g : Plain) (x : Element) (i : ℕ) → gone ≡ Some g → IsHitBy cmp (keys_of es) g i → i < length es → get_or es i x ≡ x → coming cmp size es come ≡ None → (if nat_lt (length es) size then None else next) ≡ None → Differs es vs (record { left = Some (i, x); came = None })
    step_left g x i goes hit lt is away none =
        carried _ (goes_away g goes away ∙ ap (λ o. next_value cmp size (Some g) None o es) none) (differs_left cmp strict size g x i es t.few hit lt is)

    -- an element leaves a value that was full, and the next one follows
    pub step_next : (g : Plain) (x e : Element) (i k : ℕ) → gone ≡ Some g → IsHitBy cmp (keys_of es) g i → i < length es → get_or es i x ≡ x → coming cmp size es come ≡ None → size ≤ length es → suc k ≡ length es → next ≡ Some e
        → Differs es vs (record { left = Some (i, x); came = Some (k, e) })
    step_next g x e i k goes hit lt is away le more follows =
        let few = t.few in
        let later : after_all cmp es e.0 ≡ true = let P : Option Element → Type 0 = λ o. Later cmp o es in subst P follows t.later in
        carried _ (goes_away g goes away ∙ ap (λ o. next_value cmp size (Some g) None o es) (full_of size (length es) next le ∙ follows))
        (differs_next cmp strict size g x e i k es (omega arith) (omega arith) hit lt is (not_same_after es i x e later lt is))

    moves : (g : Plain) (c : Element) → gone ≡ Some g → coming cmp size es come ≡ Some c → vs ≡ next_value cmp size (Some g) (Some c) (if nat_lt (length es) size then None else next) es
    moves g c goes comes = t.after ∙ ap (λ o. next_value cmp size gone o (if nat_lt (length es) size then None else next) es) comes ∙ ap (λ o. next_value cmp size o (Some c) (if nat_lt (length es) size then None else next) es) goes

    -- one element leaves and another comes
    pub step_moved : (g : Plain) (x c : Element) (i k : ℕ) → gone ≡ Some g → IsHitBy cmp (keys_of es) g i → i < length es → get_or es i x ≡ x → coming cmp size es come ≡ Some c → IsGapBy cmp (keys_of es) c.0 k
        → Differs es vs (record { left = Some (i, x); came = Some ((if nat_lt i k then k - 1 else k), c) })
    step_moved g x c i k goes hit lt is comes gap =
        let there = gap_removed es c.0 i k t.rising lt gap in
        let fits = gap_within (remove es i) c.0 (if nat_lt i k then k - 1 else k) there in
        let short = length-remove es i lt in
        let none : find_by cmp c.0 es ≡ None = find_gap cmp strict.total es c.0 k t.rising gap in
        carried _ (moves g c goes comes)
        (differs_moved cmp strict size g x c (if nat_lt (length es) size then None else next) i (if nat_lt i k then k - 1 else k) es t.few (tight_of size (length es) next) hit lt is there (omega arith) (not_same_absent es i x c t.rising none lt is))

    -- what comes where something stands comes where the other leaves
    same_place : (g : Plain) (x c : Element) (i k : ℕ) → gone ≡ Some g → IsHitBy cmp (keys_of es) g i → coming cmp size es come ≡ Some c → IsHitBy cmp (keys_of es) c.0 k → k ≡ i
    same_place g x c i k goes hit comes there =
        let none : find_by cmp c.0 (without_by cmp g es) ≡ None = ap (λ o. find_by cmp c.0 (with_gone cmp o es)) (sym goes) ∙ absent_here c comes in
        let found : cond (is_eq (cmp c.0 g)) None (find_by cmp c.0 es) ≡ None = sym (find_without cmp strict es g c.0 t.rising) ∙ none in
        hit_one es c.0 g k i t.rising there hit (key_back (is_eq (cmp c.0 g)) (find_by cmp c.0 es) (get_or es k x).1 (find_hit cmp strict.total es c.0 k x there) found (λ tie. same_key cmp strict c.0 g tie))

    over_at : (b : Bool) (g : Plain) (x c : Element) (i : ℕ) → is_eq (order x.1 c.1) ≡ b → IsHitBy cmp (keys_of es) g i → i < length es → get_or es i x ≡ x → c.0 ≡ x.0 → IsGapBy cmp (keys_of (remove es i)) c.0 i
        → Differs es (next_value cmp size (Some g) (Some c) (if nat_lt (length es) size then None else next) es) (if b then record { left = None; came = None } else record { left = Some (i, x); came = Some (i, c) })
    over_at true g x c i tie hit lt is key gap =
        differs_same cmp strict size g x c (if nat_lt (length es) size then None else next) i es t.few (tight_of size (length es) next) hit lt is gap (both_same x c (sym key) (plain_same x.1 c.1 tie))
    over_at false g x c i tie hit lt is key gap =
        differs_moved cmp strict size g x c (if nat_lt (length es) size then None else next) i i es t.few (tight_of size (length es) next) hit lt is gap (omega arith) (not_second (is_eq (order x.0 c.0)) (is_eq (order x.1 c.1)) tie)

    -- a document is written over at its place
    pub step_over : (g : Plain) (x c : Element) (i k : ℕ) → gone ≡ Some g → IsHitBy cmp (keys_of es) g i → i < length es → get_or es i x ≡ x → coming cmp size es come ≡ Some c → IsHitBy cmp (keys_of es) c.0 k
        → Differs es vs (if is_eq (order x.1 c.1) then record { left = None; came = None } else record { left = Some (i, x); came = Some (i, c) })
    step_over g x c i k goes hit lt is comes there =
        let place : k ≡ i = same_place g x c i k goes hit comes there in
        let here : IsHitBy cmp (keys_of es) c.0 i = rw place at there in
        let key : c.0 ≡ x.0 = hit_key es c.0 i x here is in
        let gap = hit_removed es c.0 i t.rising here in
        let short = length-remove es i lt in
        carried _ (moves g c goes comes) (over_at (is_eq (order x.1 c.1)) g x c i refl hit lt is key gap)
