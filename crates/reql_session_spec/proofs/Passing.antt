-- A login that goes on as another one does, by the same input and the same rolls.
use Rattle.std.proofs.Common.{◌≡◌, ◌⊎◌, ℕ, List, [], ◌∷◌, ◌++◌, length, drop, Option, refl, sym, ap, subst, ◌∙◌, append_assoc, inl, inr}
use Rattle.std.proofs.lemmas.List.{drop_at}
use Rattle.reql_wire.specs.Greeting.{Greets}
use Rattle.reql_wire.specs.declared.greeter.Greeting.TheVariants as greeting
use Rattle.reql_wire.proofs.Greetings.{stands}
use Rattle.reql_login.specs.Turns.{Gate, after_roll, turn_of}
use Rattle.reql_login.specs.Turns as gates
use Rattle.reql_session_spec.specs.Tasks.{Talk}
use Rattle.reql_session_spec.specs.Logins.{Stage, Waiting, At, Admitted, Passed, account}
use Rattle.reql_session_spec.specs.Logins as logins
use Rattle.reql_session_spec.proofs.Messages.{IsPast, IsFine, Ahead, ahead_says, ahead_admits, ahead_rolls, fine_ahead, is_rolling, next_past, rolled_past, rolls_or_says, rolls_or_admits, turn_stands, with_more, rest_in, next_in}
use Rattle.reql_session_spec.proofs.Orders.{waits_not_over, at_not_over, at_not_waiting}

-- what follows fronts of one length
same_rest : (a b c d : List ℕ) → length a ≡ length c → a ++ b ≡ c ++ d → b ≡ d
same_rest a b c d n e = sym (drop_at a b (length a) refl) ∙ ap (drop (length a)) e ∙ drop_at c d (length a) (sym n)

-- rolls of a session, as those that a login takes and then others, or as a beginning of those that it takes
abbrev pub IsOf : List (Option (List ℕ)) → List (Option (List ℕ)) → List (Option (List ℕ)) → Type 0
IsOf rs own others = (rs ≡ own ++ others) ⊎ (own ≡ rs ++ others)

abbrev first_in : List (Option (List ℕ)) → Option (List ℕ) → Option (List ℕ)
first_in [] d = d
first_in (x ∷ xs) d = x

abbrev later_in : List (Option (List ℕ)) → List (Option (List ℕ))
later_in [] = []
later_in (x ∷ xs) = xs

later_rolls : (a b : Option (List ℕ)) (rs own others : List (Option (List ℕ))) → IsOf (a ∷ rs) (b ∷ own) others → (b ≡ a) × IsOf rs own others
later_rolls a b rs own others (inl e) = (sym (ap (λ z. first_in z a) e), inl (ap later_in e))
later_rolls a b rs own others (inr e) = (ap (λ z. first_in z a) e, inr (ap later_in e))

abbrev gate_in : Stage → Gate
gate_in (At gate) = gate
gate_in other = gates.Called

abbrev IsOn : Stage → Type 0
IsOn (At gate) = IsPast gate
IsOn other = Unit {0}

says_not_admits : (a b c d : List ℕ) (next : Gate) → gates.Says a b next ≡ gates.Admits c d → ⊥
says_not_admits a b c d next e = cc

module _ {PL : Type 0} (k : Talk PL) where
  says_more : (gate : Gate) (used more said : List ℕ) (next : Gate) → IsPast gate → turn_of (account k) gate used ≡ gates.Says said [] next → turn_of (account k) gate (used ++ more) ≡ gates.Says said more next
  says_more gate used more said next p e = turn_stands (account k) gate used more p (λ w. let f : gates.Says said [] next ≡ gates.Waits = sym e ∙ w in cc) ∙ ap (with_more more) e

  admits_more : (gate : Gate) (used more said : List ℕ) → IsPast gate → turn_of (account k) gate used ≡ gates.Admits said [] → turn_of (account k) gate (used ++ more) ≡ gates.Admits said more
  admits_more gate used more said p e = turn_stands (account k) gate used more p (λ w. let f : gates.Admits said [] ≡ gates.Waits = sym e ∙ w in cc) ∙ ap (with_more more) e

  -- the rest of a login that is admitted, with what follows it
  pub record Left (s : Stage) (stream tail : List ℕ) : Type 0 where
    pub login : List ℕ
    pub own : List (Option (List ℕ))
    pub passed : Passed k s login own Admitted
    pub all : stream ≡ login ++ tail
    pub on : IsOn s

  -- one stage, two ends of lists
  both : {A : Type 0} (used input x used2 input2 tail : List ℕ) → ((used ++ input) ++ x ≡ (used2 ++ input2) ++ tail) → (used ++ (input ++ x) ≡ used2 ++ (input2 ++ tail) → A) → A
  both used input x used2 input2 tail e f = f (sym (append_assoc used input x) ∙ e ∙ append_assoc used2 input2 tail)

  -- What is left of a login that is admitted, where a login has gone on by the same input and the same rolls.
  pub along : (a b : Stage) (bytes : List ℕ) (rs : List (Option (List ℕ))) → Passed k a bytes rs b
      → (c z : Stage) (login : List ℕ) (own : List (Option (List ℕ))) → Passed k c login own z → c ≡ a → z ≡ Admitted → IsOn a
      → (x tail : List ℕ) (p others : List (Option (List ℕ))) → bytes ++ x ≡ login ++ tail → IsOf (rs ++ p) own others → Left b x tail
  along a b bytes rs (logins.here stage) c z login own v same over on x tail p others e its =
      record { login = login; own = own; passed = subst (λ w. Passed k w login own Admitted) same (subst (λ w. Passed k c login own w) over v); all = e; on = on }
  along a b bytes rs (logins.calls own1 input1 rs1 stage1 g1 n1 p1) c z login own (logins.here stage) same over on x tail p others e its = absurd (waits_not_over (sym same ∙ over))
  along a b bytes rs (logins.calls own1 input1 rs1 stage1 g1 n1 p1) c z login own (logins.calls own2 input2 rs2 stage2 g2 n2 p2) same over on x tail p others e its =
      both own1 input1 x own2 input2 tail e (λ f. along (At gates.Greeted) b input1 rs p1 (At gates.Greeted) z input2 own p2 refl over tt x tail p others (same_rest own1 (input1 ++ x) own2 (input2 ++ tail) (n1 ∙ sym n2) f) its)
  along a b bytes rs (logins.calls own1 input1 rs1 stage1 g1 n1 p1) c z login own (logins.rolls at2 held2 roll2 rs2 input2 stage2 t2 p2) same over on x tail p others e its = absurd (at_not_waiting at2 same)
  along a b bytes rs (logins.calls own1 input1 rs1 stage1 g1 n1 p1) c z login own (logins.told at2 next2 used2 said2 input2 rs2 stage2 t2 p2) same over on x tail p others e its = absurd (at_not_waiting at2 same)
  along a b bytes rs (logins.calls own1 input1 rs1 stage1 g1 n1 p1) c z login own (logins.admits at2 used2 said2 t2) same over on x tail p others e its = absurd (at_not_waiting at2 same)
  along a b bytes rs (logins.rolls at1 held1 roll1 rs1 input1 stage1 t1 p1) c z login own (logins.here stage) same over on x tail p others e its = absurd (at_not_over at1 (sym same ∙ over))
  along a b bytes rs (logins.rolls at1 held1 roll1 rs1 input1 stage1 t1 p1) c z login own (logins.calls own2 input2 rs2 stage2 g2 n2 p2) same over on x tail p others e its = absurd (at_not_waiting at1 (sym same))
  along a b bytes rs (logins.rolls at1 held1 roll1 rs1 input1 stage1 t1 p1) c z login own (logins.rolls at2 held2 roll2 rs2 input2 stage2 t2 p2) same over on x tail p others e its =
      let w = later_rolls roll1 roll2 (rs1 ++ p) rs2 others its in
      let to : At (after_roll at2 roll2) ≡ At (after_roll at1 roll1) = (λ i. At (after_roll (gate_in (same i)) (w.0 i))) in
      along (At (after_roll at1 roll1)) b bytes rs1 p1 (At (after_roll at2 roll2)) z login rs2 p2 to over (rolled_past at1 roll1) x tail p others e w.1
  along a b bytes rs (logins.rolls at1 held1 roll1 rs1 input1 stage1 t1 p1) c z login own (logins.told at2 next2 used2 said2 input2 rs2 stage2 t2 p2) same over on x tail p others e its =
      rolls_or_says (account k) at1 held1 used2 said2 [] next2 t1 (ap (λ y. turn_of (account k) (gate_in y) used2) (sym same) ∙ t2)
  along a b bytes rs (logins.rolls at1 held1 roll1 rs1 input1 stage1 t1 p1) c z login own (logins.admits at2 used2 said2 t2) same over on x tail p others e its =
      rolls_or_admits (account k) at1 held1 used2 said2 [] t1 (ap (λ y. turn_of (account k) (gate_in y) used2) (sym same) ∙ t2)
  along a b bytes rs (logins.told at1 next1 used1 said1 input1 rs1 stage1 t1 p1) c z login own (logins.here stage) same over on x tail p others e its = absurd (at_not_over at1 (sym same ∙ over))
  along a b bytes rs (logins.told at1 next1 used1 said1 input1 rs1 stage1 t1 p1) c z login own (logins.calls own2 input2 rs2 stage2 g2 n2 p2) same over on x tail p others e its = absurd (at_not_waiting at1 (sym same))
  along a b bytes rs (logins.told at1 next1 used1 said1 input1 rs1 stage1 t1 p1) c z login own (logins.rolls at2 held2 roll2 rs2 input2 stage2 t2 p2) same over on x tail p others e its =
      rolls_or_says (account k) at1 held2 used1 said1 [] next1 (ap (λ y. turn_of (account k) (gate_in y) held2) (sym same) ∙ t2) t1
  along a b bytes rs (logins.told at1 next1 used1 said1 input1 rs1 stage1 t1 p1) c z login own (logins.told at2 next2 used2 said2 input2 rs2 stage2 t2 p2) same over on x tail p others e its =
      both used1 input1 x used2 input2 tail e (λ f.
      let of : turn_of (account k) at1 used2 ≡ gates.Says said2 [] next2 = ap (λ y. turn_of (account k) (gate_in y) used2) (sym same) ∙ t2 in
      let one : gates.Says said1 (input1 ++ x) next1 ≡ gates.Says said2 (input2 ++ tail) next2 = sym (says_more at1 used1 (input1 ++ x) said1 next1 on t1) ∙ ap (turn_of (account k) at1) f ∙ says_more at1 used2 (input2 ++ tail) said2 next2 on of in
      along (At next1) b input1 rs p1 (At next2) z input2 own p2 (sym (ap (λ y. At (next_in y)) one)) over (next_past (account k) at1 used1 said1 [] next1 t1) x tail p others (ap rest_in one) its)
  along a b bytes rs (logins.told at1 next1 used1 said1 input1 rs1 stage1 t1 p1) c z login own (logins.admits at2 used2 said2 t2) same over on x tail p others e its =
      let of : turn_of (account k) at1 used2 ≡ gates.Admits said2 [] = ap (λ y. turn_of (account k) (gate_in y) used2) (sym same) ∙ t2 in
      let f : used1 ++ (input1 ++ x) ≡ used2 ++ tail = sym (append_assoc used1 input1 x) ∙ e in
      let one : gates.Says said1 (input1 ++ x) next1 ≡ gates.Admits said2 tail = sym (says_more at1 used1 (input1 ++ x) said1 next1 on t1) ∙ ap (turn_of (account k) at1) f ∙ admits_more at1 used2 tail said2 on of in
      absurd (says_not_admits said1 (input1 ++ x) said2 tail next1 one)
  along a b bytes rs (logins.admits at1 used1 said1 t1) c z login own (logins.here stage) same over on x tail p others e its = absurd (at_not_over at1 (sym same ∙ over))
  along a b bytes rs (logins.admits at1 used1 said1 t1) c z login own (logins.calls own2 input2 rs2 stage2 g2 n2 p2) same over on x tail p others e its = absurd (at_not_waiting at1 (sym same))
  along a b bytes rs (logins.admits at1 used1 said1 t1) c z login own (logins.rolls at2 held2 roll2 rs2 input2 stage2 t2 p2) same over on x tail p others e its =
      rolls_or_admits (account k) at1 held2 used1 said1 [] (ap (λ y. turn_of (account k) (gate_in y) held2) (sym same) ∙ t2) t1
  along a b bytes rs (logins.admits at1 used1 said1 t1) c z login own (logins.told at2 next2 used2 said2 input2 rs2 stage2 t2 p2) same over on x tail p others e its =
      let of : turn_of (account k) at1 used2 ≡ gates.Says said2 [] next2 = ap (λ y. turn_of (account k) (gate_in y) used2) (sym same) ∙ t2 in
      let f : used1 ++ x ≡ used2 ++ (input2 ++ tail) = e ∙ append_assoc used2 input2 tail in
      let one : gates.Says said2 (input2 ++ tail) next2 ≡ gates.Admits said1 x = sym (says_more at1 used2 (input2 ++ tail) said2 next2 on of) ∙ ap (turn_of (account k) at1) (sym f) ∙ admits_more at1 used1 x said1 on t1 in
      absurd (says_not_admits said2 (input2 ++ tail) said1 x next2 one)
  along a b bytes rs (logins.admits at1 used1 said1 t1) c z login own (logins.admits at2 used2 said2 t2) same over on x tail p others e its =
      let of : turn_of (account k) at1 used2 ≡ gates.Admits said2 [] = ap (λ y. turn_of (account k) (gate_in y) used2) (sym same) ∙ t2 in
      let one : gates.Admits said1 x ≡ gates.Admits said2 tail = sym (admits_more at1 used1 x said1 on t1) ∙ ap (turn_of (account k) at1) e ∙ admits_more at1 used2 tail said2 on of in
      record { login = []; own = []; passed = logins.here Admitted; all = ap rest_in one; on = tt }

  -- what is ahead in a login that is admitted
  pub ahead : (a z : Stage) (login : List ℕ) (own : List (Option (List ℕ))) → Passed k a login own z → (gate : Gate) → a ≡ At gate → z ≡ Admitted → IsPast gate → (tail : List ℕ) → Ahead (account k) gate (login ++ tail)
  ahead a z login own (logins.here stage) gate same over past tail = absurd (at_not_over gate (sym same ∙ over))
  ahead a z login own (logins.calls own1 input1 rs1 stage1 g1 n1 p1) gate same over past tail = absurd (at_not_waiting gate (sym same))
  ahead a z login own (logins.rolls at1 held1 roll1 rs1 input1 stage1 t1 p1) gate same over past tail =
      let of : at1 ≡ gate = ap gate_in same in
      subst (λ g. Ahead (account k) g (login ++ tail)) of
      (ahead_rolls (account k) at1 roll1 (login ++ tail) (is_rolling (account k) at1 held1 t1) (ahead (At (after_roll at1 roll1)) z login rs1 p1 (after_roll at1 roll1) refl over (rolled_past at1 roll1) tail))
  ahead a z login own (logins.told at1 next1 used1 said1 input1 rs1 stage1 t1 p1) gate same over past tail =
      let of : at1 ≡ gate = ap gate_in same in
      let own_past : IsPast at1 = subst IsPast (sym of) past in
      subst (λ g. Ahead (account k) g ((used1 ++ input1) ++ tail)) of
      (subst (Ahead (account k) at1) (sym (append_assoc used1 input1 tail)) (ahead_says (account k) at1 (used1 ++ (input1 ++ tail)) said1 (input1 ++ tail) next1 own_past (says_more at1 used1 (input1 ++ tail) said1 next1 own_past t1)))
  ahead a z login own (logins.admits at1 used1 said1 t1) gate same over past tail =
      let of : at1 ≡ gate = ap gate_in same in
      let own_past : IsPast at1 = subst IsPast (sym of) past in
      subst (λ g. Ahead (account k) g (used1 ++ tail)) of (ahead_admits (account k) at1 (used1 ++ tail) said1 tail own_past (admits_more at1 used1 tail said1 own_past t1))

  pub fine : (gate : Gate) (login tail : List ℕ) (own : List (Option (List ℕ))) → Passed k (At gate) login own Admitted → IsPast gate → IsFine (turn_of (account k) gate (login ++ tail))
  fine gate login tail own p past = fine_ahead (account k) gate (login ++ tail) (ahead (At gate) Admitted login own p gate refl refl past tail)

  -- a login that has begun has its version
  pub started : (a b : Stage) (bytes : List ℕ) (rs : List (Option (List ℕ))) → Passed k a bytes rs b → a ≡ Waiting → ((b ≡ Waiting) × (bytes ≡ [])) ⊎ ((more : List ℕ) → Greets k.key (bytes ++ more) (greeting.Login 4))
  started a b bytes rs (logins.here stage) e = inl (e, refl)
  started a b bytes rs (logins.calls own1 input1 rs1 stage1 g1 n1 p1) e =
      inr (λ more. subst (λ z. Greets k.key z (greeting.Login 4)) (sym (append_assoc own1 input1 more)) (stands k.key own1 (input1 ++ more) (greeting.Login 4) (λ f. cc) g1))
  started a b bytes rs (logins.rolls at1 held1 roll1 rs1 input1 stage1 t1 p1) e = absurd (at_not_waiting at1 e)
  started a b bytes rs (logins.told at1 next1 used1 said1 input1 rs1 stage1 t1 p1) e = absurd (at_not_waiting at1 e)
  started a b bytes rs (logins.admits at1 used1 said1 t1) e = absurd (at_not_waiting at1 e)
