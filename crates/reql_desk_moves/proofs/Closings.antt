-- Closings of arms, one after another.
use Rattle.std.proofs.Common.{◌≡◌, inl, inr, ℕ, zero, ◌+◌, ◌<◌, ◌≤◌, get_or, Bool, true, false, not, cond, List, [], ◌∷◌, ◌++◌, length, map, filter, drop, Option, refl, sym, ap, subst, ◌∙◌, arith}
use Rattle.std.specs.Prelude.{nat_eq}
use Rattle.std.proofs.Math.ListN.{drop_of_length-le}
use Rattle.reql_shared.specs.Acts.{Ran, Denied}
use Rattle.reql_table_spec.specs.Machine.{State}
use Rattle.reql_table_spec.specs.declared.reply.Saved.TheVariants as saved
use Rattle.reql_session_spec.specs.Requests.{Arm, Answer, Internal}
use Rattle.reql_session_spec.specs.Books.{Books, Cursor, Open, closed}
use Rattle.reql_session_spec.specs.Tasks.{Talk, Task, Next, Closing, Firm, Stops, Drops, Settled, at, close, may_tell, only_tell, close_order}
use Rattle.reql_session_spec.specs.Session.{Mach, Leaving}
use Rattle.reql_session_spec.specs.Worlds.{Does, at_desk, with_out}
use Rattle.reql_session_spec.specs.declared.end.End.{End}
use Rattle.reql_session_spec.proofs.Going.{does_on}
use Rattle.reql_session_spec.proofs.Steps.{does_none, does_act}
use Rattle.reql_session_api.specs.Meant.{arm_of}
use Rattle.reql_desk_moves.specs.Acting.{AtDesk, ClosesArm}
use Rattle.reql_desk_moves.specs.Steps.{Steps, StopsArms, after_closing}
use Rattle.reql_session_api.specs.declared.answered.Arm as coded
use Rattle.reql_desk_moves.proofs.Stepping.{next_in, steps_none, steps_on, steps_ran, steps_denied}

tested_twice : {X : Type 0} (f : X → Bool) (x : X) (xs : List X) → filter f (filter f xs) ≡ filter f xs → (b : Bool) → f x ≡ b → filter f (cond b (x ∷ filter f xs) (filter f xs)) ≡ cond b (x ∷ filter f xs) (filter f xs)
tested_twice f x xs h true e = ap (λ b. cond b (x ∷ filter f (filter f xs)) (filter f (filter f xs))) e ∙ ap (λ z. x ∷ z) h
tested_twice f x xs h false e = h

filter_twice : {X : Type 0} (f : X → Bool) (xs : List X) → filter f (filter f xs) ≡ filter f xs
filter_twice f [] = refl
filter_twice f (x ∷ xs) = tested_twice f x xs (filter_twice f xs) (f x) refl

-- what was closed has nothing more to be closed
pub closed_twice : (token : ℕ) (b : Books) → closed token (closed token b) ≡ closed token b
closed_twice token b = λ i. record (closed token b) {
  cursors = filter_twice (λ (c : Cursor). not (nat_eq c.token token)) b.cursors i;
  feeds = filter_twice (λ (f : Open). not (nat_eq f.token token)) b.feeds i;
  waiting = filter_twice (λ t. not (nat_eq t token)) b.waiting i;
}

module _ {PL : Type 0} (k : Talk PL) (some : State) where
  -- the first arm of a settled closing, or of one after a drop
  pub closes_on : (p q : AtDesk) (b : Books) (token : ℕ) (arm : coded.Arm) (arms : List Arm) (a : Option Answer) (whole : Bool) → ClosesArm some p q arm whole → Steps k some p q (close b token (arm_of arm ∷ arms) Settled a) (close (closed token b) token arms Settled a)
  closes_on p q b token arm arms a true c = steps_ran k some p q b (Closing token (arm_of arm ∷ arms) Settled a) (close (closed token b) token arms Settled a) arm.slot (close_order arm.feed) c.0 c.1 (refl, refl) refl c.2
  closes_on p q b token arm arms a false c = steps_denied k some p q b (Closing token (arm_of arm ∷ arms) Settled a) (close (closed token b) token arms Settled a) arm.slot (close_order arm.feed) (refl, refl) refl c

  pub drops_on : (p q : AtDesk) (b : Books) (token : ℕ) (arm : coded.Arm) (arms : List Arm) (a : Option Answer) (whole : Bool) → ClosesArm some p q arm whole → Steps k some p q (close b token (arm_of arm ∷ arms) Drops a) (close (closed token b) token arms Settled a)
  drops_on p q b token arm arms a true c = steps_ran k some p q b (Closing token (arm_of arm ∷ arms) Drops a) (close (closed token b) token arms Settled a) arm.slot (close_order arm.feed) c.0 c.1 (refl, refl) refl c.2
  drops_on p q b token arm arms a false c = steps_denied k some p q b (Closing token (arm_of arm ∷ arms) Drops a) (close (closed token b) token arms Settled a) arm.slot (close_order arm.feed) (refl, refl) refl c

  pub stops_on : (p q : AtDesk) (b : Books) (token : ℕ) (arm : coded.Arm) (arms : List Arm) (a : Option Answer) → ClosesArm some p q arm true → Steps k some p q (close b token (arm_of arm ∷ arms) Stops a) (close (closed token b) token arms Settled a)
  stops_on p q b token arm arms a c = steps_ran k some p q b (Closing token (arm_of arm ∷ arms) Stops a) (close (closed token b) token arms Settled a) arm.slot (close_order arm.feed) c.0 c.1 (refl, refl) refl c.2

  pub stop_denied : (p q : AtDesk) (b : Books) (token : ℕ) (arm : coded.Arm) (arms : List Arm) (a : Option Answer) → ClosesArm some p q arm false → Steps k some p q (close b token (arm_of arm ∷ arms) Stops a) (only_tell b token Internal)
  stop_denied p q b token arm arms a c = steps_denied k some p q b (Closing token (arm_of arm ∷ arms) Stops a) (only_tell b token Internal) arm.slot (close_order arm.feed) (refl, refl) refl c

  -- the loop over the arms of a settled closing
  pub closing_next : (p q r : AtDesk) (b : Books) (token : ℕ) (a : Option Answer) (arms : List coded.Arm) (from i : ℕ) (arm : coded.Arm) (whole : Bool) → closed token b ≡ b → i < length arms → arm ≡ get_or arms i arm →
      Steps k some p q (close b token (map arm_of (drop from arms)) Settled a) (close b token (map arm_of (drop i arms)) Settled a) → ClosesArm some q r arm whole →
      Steps k some p r (close b token (map arm_of (drop from arms)) Settled a) (close b token (map arm_of (drop (i + 1) arms)) Settled a)
  closing_next p q r b token a arms from i arm whole e h is d c =
      steps_on k some p q r (close b token (map arm_of (drop from arms)) Settled a) (close b token (arm_of arm ∷ map arm_of (drop (i + 1) arms)) Settled a) (close b token (map arm_of (drop (i + 1) arms)) Settled a)
      (subst (λ z. Steps k some p q (close b token (map arm_of (drop from arms)) Settled a) (close b token z Settled a)) (next_in arm_of arms i arm arm h is) d)
      (subst (λ z. Steps k some q r (close b token (arm_of arm ∷ map arm_of (drop (i + 1) arms)) Settled a) (close z token (map arm_of (drop (i + 1) arms)) Settled a)) e (closes_on q r b token arm (map arm_of (drop (i + 1) arms)) a whole c))

  pub closing_all : (p q : AtDesk) (b : Books) (token : ℕ) (a : Option Answer) (arms : List coded.Arm) (from i : ℕ) → length arms ≤ i →
      Steps k some p q (close b token (map arm_of (drop from arms)) Settled a) (close b token (map arm_of (drop i arms)) Settled a) → Steps k some p q (close b token (map arm_of (drop from arms)) Settled a) (may_tell b token a)
  closing_all p q b token a arms from i h d = subst (λ z. Steps k some p q (close b token (map arm_of (drop from arms)) Settled a) (close b token (map arm_of z) Settled a)) (drop_of_length-le arms h) d

  first_in : (arms : List coded.Arm) (arm : coded.Arm) → 0 < length arms → arm ≡ get_or arms 0 arm → map arm_of arms ≡ arm_of arm ∷ map arm_of (drop 1 arms)
  first_in arms arm h is = next_in arm_of arms 0 arm arm h is

  pub stopped_all : (p q r : AtDesk) (b : Books) (token : ℕ) (a : Option Answer) (arms : List coded.Arm) (arm : coded.Arm) (whole : Bool) → whole ≡ true → 0 < length arms → arm ≡ get_or arms 0 arm → ClosesArm some p q arm whole →
      (closed token (closed token b) ≡ closed token b → Steps k some q r (close (closed token b) token (map arm_of (drop 1 arms)) Settled a) (may_tell (closed token b) token a)) → StopsArms k some p r b token (map arm_of arms) a true
  stopped_all p q r b token a arms arm whole w h is c d =
      subst (λ z. StopsArms k some p r b token z a true) (sym (first_in arms arm h is))
      (steps_on k some p q r (close b token (arm_of arm ∷ map arm_of (drop 1 arms)) Stops a) (close (closed token b) token (map arm_of (drop 1 arms)) Settled a) (may_tell (closed token b) token a)
      (stops_on p q b token arm (map arm_of (drop 1 arms)) a (subst (ClosesArm some p q arm) w c)) (d (closed_twice token b)))

  pub stopped_none : (p : AtDesk) (b : Books) (token : ℕ) (a : Option Answer) (arms : List coded.Arm) → length arms ≡ 0 → StopsArms k some p p b token (map arm_of arms) a true
  stopped_none p b token a [] e = steps_none k some p (may_tell b token a)
  stopped_none p b token a (x ∷ xs) e = absurd (omega (arith, e))

  pub stopped_denied : (p q : AtDesk) (b : Books) (token : ℕ) (a : Option Answer) (arms : List coded.Arm) (arm : coded.Arm) (whole : Bool) → whole ≡ false → 0 < length arms → arm ≡ get_or arms 0 arm → ClosesArm some p q arm whole → StopsArms k some p q b token (map arm_of arms) a false
  stopped_denied p q b token a arms arm whole w h is c = subst (λ z. StopsArms k some p q b token z a false) (sym (first_in arms arm h is)) (stop_denied p q b token arm (map arm_of (drop 1 arms)) a (subst (ClosesArm some p q arm) w c))

  pub ended_none : (p : AtDesk) (b : Books) (token : ℕ) (firm : Firm) (a : Option Answer) (arms : List coded.Arm) → length arms ≡ 0 → Steps k some p p (close b token (map arm_of arms) firm a) (may_tell (after_closing b token (map arm_of arms)) token a)
  ended_none p b token firm a [] e = steps_none k some p (may_tell b token a)
  ended_none p b token firm a (x ∷ xs) e = absurd (omega (arith, e))

  -- the first arm closes what is open, and then come the others
  ended_all : (p q r : AtDesk) (b : Books) (token : ℕ) (firm : Firm) (a : Option Answer) (arms : List coded.Arm) (arm : coded.Arm) → 0 < length arms → arm ≡ get_or arms 0 arm →
      Steps k some p q (close b token (arm_of arm ∷ map arm_of (drop 1 arms)) firm a) (close (closed token b) token (map arm_of (drop 1 arms)) Settled a) →
      (closed token (closed token b) ≡ closed token b → Steps k some q r (close (closed token b) token (map arm_of (drop 1 arms)) Settled a) (may_tell (closed token b) token a)) →
      Steps k some p r (close b token (map arm_of arms) firm a) (may_tell (after_closing b token (map arm_of arms)) token a)
  ended_all p q r b token firm a arms arm h is c d =
      subst (λ z. Steps k some p r (close b token z firm a) (may_tell (after_closing b token z) token a)) (sym (first_in arms arm h is))
      (steps_on k some p q r (close b token (arm_of arm ∷ map arm_of (drop 1 arms)) firm a) (close (closed token b) token (map arm_of (drop 1 arms)) Settled a) (may_tell (closed token b) token a)
      c (d (closed_twice token b)))

  pub settled_all : (p q r : AtDesk) (b : Books) (token : ℕ) (a : Option Answer) (arms : List coded.Arm) (arm : coded.Arm) (whole : Bool) → 0 < length arms → arm ≡ get_or arms 0 arm → ClosesArm some p q arm whole →
      (closed token (closed token b) ≡ closed token b → Steps k some q r (close (closed token b) token (map arm_of (drop 1 arms)) Settled a) (may_tell (closed token b) token a)) → Steps k some p r (close b token (map arm_of arms) Settled a) (may_tell (after_closing b token (map arm_of arms)) token a)
  settled_all p q r b token a arms arm whole h is c d = ended_all p q r b token Settled a arms arm h is (closes_on p q b token arm (map arm_of (drop 1 arms)) a whole c) d

  pub dropped_all : (p q r : AtDesk) (b : Books) (token : ℕ) (a : Option Answer) (arms : List coded.Arm) (arm : coded.Arm) (whole : Bool) → 0 < length arms → arm ≡ get_or arms 0 arm → ClosesArm some p q arm whole →
      (closed token (closed token b) ≡ closed token b → Steps k some q r (close (closed token b) token (map arm_of (drop 1 arms)) Settled a) (may_tell (closed token b) token a)) → Steps k some p r (close b token (map arm_of arms) Drops a) (may_tell (after_closing b token (map arm_of arms)) token a)
  dropped_all p q r b token a arms arm whole h is c d = ended_all p q r b token Drops a arms arm h is (drops_on p q b token arm (map arm_of (drop 1 arms)) a whole c) d

  -- a session that leaves
  abbrev pub Left : AtDesk → AtDesk → List Arm → List Arm → Type 0
  Left p q arms left = (m : Mach PL) (end : End) (rest : List Arm) → m.doing ≡ Leaving (arms ++ rest) end → Does k (at_desk some p m) (at_desk some q (record m { doing = Leaving (left ++ rest) end })) []

  pub left_none : (p : AtDesk) (arms : List Arm) → Left p p arms arms
  left_none p arms m end rest e = subst (λ d. Does k (at_desk some p m) (at_desk some p (record m { doing = d })) []) e (does_none k (at_desk some p m))

  left_one : (p q : AtDesk) (arm : coded.Arm) (m : Mach PL) (end : End) (rest : List Arm) (whole : Bool) → m.doing ≡ Leaving (arm_of arm ∷ rest) end → ClosesArm some p q arm whole → Does k (at_desk some p m) (at_desk some q (record m { doing = Leaving rest end })) []
  left_one p q arm m end rest true e c = does_act k (at_desk some p m) (at_desk some q (record m { doing = Leaving rest end })) arm.slot (Ran c.2.place (close_order arm.feed) c.0) c.1 c.2.acts.slots c.2.acts.names c.2.honest
      (λ out. inr (arm_of arm, refl, record { arms = rest; end = end; doing = e; there = refl; goes = refl }))
  left_one p q arm m end rest false e c = does_act k (at_desk some p m) (at_desk some q (record m { doing = Leaving rest end })) arm.slot (Denied c.place) saved.Yes c.acts.slots c.acts.names tt
      (λ out. inr (inr (arm_of arm, record { arms = rest; end = end; doing = e; there = refl; goes = refl })))

  pub left_next : (p q r : AtDesk) (arms : List coded.Arm) (i : ℕ) (arm : coded.Arm) (whole : Bool) → i < length arms → arm ≡ get_or arms i arm → Left p q (map arm_of arms) (map arm_of (drop i arms)) → ClosesArm some q r arm whole → Left p r (map arm_of arms) (map arm_of (drop (i + 1) arms))
  left_next p q r arms i arm whole h is l c m end rest e =
      let left : Mach PL = record m { doing = Leaving (map arm_of (drop i arms) ++ rest) end } in
      does_on k (at_desk some p m) (at_desk some q left) (at_desk some r (record m { doing = Leaving (map arm_of (drop (i + 1) arms) ++ rest) end })) [] [] (l m end rest e)
      (left_one q r arm left end (map arm_of (drop (i + 1) arms) ++ rest) whole (ap (λ z. Leaving (z ++ rest) end) (next_in arm_of arms i arm arm h is)) c)

  pub left_all : (p q : AtDesk) (arms : List coded.Arm) (i : ℕ) → length arms ≤ i → Left p q (map arm_of arms) (map arm_of (drop i arms)) → (m : Mach PL) (end : End) (rest : List Arm) → m.doing ≡ Leaving (map arm_of arms ++ rest) end → Does k (at_desk some p m) (at_desk some q (record m { doing = Leaving rest end })) []
  left_all p q arms i h l m end rest e = subst (λ z. Does k (at_desk some p m) (at_desk some q (record m { doing = Leaving (map arm_of z ++ rest) end })) []) (drop_of_length-le arms h) (l m end rest e)
