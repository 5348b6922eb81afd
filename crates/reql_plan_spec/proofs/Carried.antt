-- What a plan carries out of a request's term: CHANGES over planned arguments at its root, and none in the arms of a BRANCH there.
use Rattle.std.proofs.Common.{◌≡◌, ℕ, ℤ, ◌+◌, List, [], ◌∷◌, ◌++◌, Bool, true, false, ◌&&◌, Option, Some, None, Ok, refl, sym, subst, inl, inr}
use Rattle.reql_datum.specs.Answer.{◌>>=◌}
use Rattle.reql_term.specs.Form.{Form, literal, several, keyed, variable, implicit, function, slot, operation, Forms, no_forms, form, NamedForms, forms_of, named_of}
use Rattle.reql_term.specs.Table.{fits, task_of, naming_of}
use Rattle.reql_term.specs.declared.op.Op.{Op}
use Rattle.reql_term.specs.declared.op.Op.TheVariants as op
use Rattle.reql_term.specs.declared.role.Task.{Task}
use Rattle.reql_term.specs.declared.role.Task.TheVariants as task
use Rattle.reql_rewrite.specs.Rewrite.{or_else, rewritten, all_rewritten, named_rewritten}
use Rattle.reql_rules.specs.Lists.{Bytes}
use Rattle.reql_faults.specs.Faults.{unless, may_stand, fits_task, is_named, changes_faults, task_faults, own, place_if, is_arm, place_at, Around, around_root, faults, part_faults, named_faults, first_fault, plan_fault}
use Rattle.reql_faults.specs.Faults as faults
use Rattle.reql_faults.specs.Places.{count}
use Rattle.reql_faults.specs.declared.fault.CompileFault.{CompileFault}
use Rattle.reql_faults.specs.declared.standing.Place.{Place}
use Rattle.reql_faults.specs.declared.standing.Place.TheVariants as place
use Rattle.reql_catalog.specs.Catalog.{Named}
use Rattle.reql_naming.specs.Named.{with_options, value_rule, command_answer, by_naming, op_rule, names_rule, resolved}
use Rattle.reql_naming.specs.Named as names
use Rattle.reql_table_spec.proofs.Closed.{then_ok, same_ok}
use Rattle.reql_table_spec.proofs.Reading.{both}
use Rattle.reql_plan_spec.specs.Follows.{takes_all, are_planned}
use Rattle.reql_plan_spec.specs.Opens.{is_asked, are_asked, fields_asked, unless_leaks, at_time, carried_as, PlannedFeedsAreRead}
use Rattle.reql_plan_spec.specs.Reads.{leaks, all_leak, named_leak, is_now, now_rule}
use Rattle.reql_plan_spec.proofs.Closing.{neither, all_planned, operation_becomes, all_planned_then}
use Rattle.reql_plan_spec.proofs.Opened.{feeds_are_read}
use Rattle.reql_plan_spec.proofs.Planned.{none_of, nothing_known, commands, parts_fit, IsFound, naming_said, looked_up, all_looked_up}

-- at the root of a term CHANGES stands over planned arguments, and below it there is none
abbrev pub SoundBy : Task → Bool → Forms → Type 0 → Type 0
SoundBy task.Feed true fs arms = are_planned fs ≡ true
SoundBy task.Feed false fs arms = ⊥
SoundBy task.Branch root fs arms = arms
SoundBy t root fs arms = Unit {0}

abbrev mutual
  pub SoundAt : Bool → Form → Type 0
  SoundAt root (operation o fs ms) = SoundBy (task_of o) root fs (AreBelow fs)
  SoundAt root f = Unit {0}

  pub AreBelow : Forms → Type 0
  AreBelow no_forms = Unit {0}
  AreBelow (form f fs) = SoundAt false f × AreBelow fs

abbrev pub Sound : Form → Type 0
Sound f = SoundAt true f

-- ---- where CHANGES may not stand
abbrev is_root : Place → Bool
is_root place.Root = true
is_root p = false

abbrev is_feed : Task → Bool
is_feed task.Feed = true
is_feed t = false

kept_below : (p : Place) (b : Bool) → is_root p ≡ false → is_root (place_if p b) ≡ false
kept_below p true h = h
kept_below p false h = refl

arm_below : (p : Place) (i n : ℕ) → is_root (faults.arm_at p i n) ≡ false
arm_below place.Root i n = kept_below place.Arm (is_arm i n) refl
arm_below p i n = refl

below : (p : Place) (t : Task) (i n : ℕ) → is_root (place_at p t i n) ≡ false
below p task.Branch i n = arm_below p i n
below p task.ForEach i n = kept_below place.Each _ refl
below p t i n = refl

no_changes : (p : Place) (fs : Forms) (ms : NamedForms) → is_root p ≡ false → changes_faults p fs ms ≡ [] → ⊥
no_changes place.Root fs ms r h = cc (r)
no_changes p fs ms r h = cc (h)

no_feed : (p : Place) (t : Task) (fs : Forms) (ms : NamedForms) → is_root p ≡ false → task_faults p t fs ms ≡ [] → is_feed t ≡ false
no_feed p task.Feed fs ms r h = absurd (no_changes p fs ms r h)
no_feed p t fs ms r h = refl

own_none : (p : Place) (o : Op) (fs : Forms) (ms : NamedForms) → own p o fs ms ≡ [] → task_faults p (task_of o) fs ms ≡ []
unfolding own
own_none p o fs ms h =
    let a = none_of (unless (may_stand p (task_of o)) _) _ h in
    let b = none_of (unless (fits_task (task_of o) fs) _) _ a.1 in
    (none_of (unless (is_named (naming_of o) fs ms) _) (task_faults p (task_of o) fs ms) b.1).1

by_below : (t : Task) (root : Bool) (fs : Forms) → is_feed t ≡ false → AreBelow fs → SoundBy t root fs (AreBelow fs)
by_below task.Feed root fs h arms = absurd (cc (h))
by_below task.Branch root fs h arms = arms
by_below t root fs h arms = tt

-- ---- what the rule of names says of a term
found_sound : (root : Bool) (g : Form) → IsFound g → SoundAt root g
found_sound root g (inl x) = subst (SoundAt root) (sym x.1) tt
found_sound root g (inr x) = subst (SoundAt root) (sym x.1) tt

command_task : (root : Bool) (o : Op) (fs : Forms) (ms : NamedForms) → commands o ≡ true → SoundAt root (operation o fs ms)
command_task root op.DbCreate fs ms h = tt
command_task root op.DbDrop fs ms h = tt
command_task root op.TableCreate fs ms h = tt
command_task root op.TableDrop fs ms h = tt
command_task root o fs ms h = absurd (cc (h))

module _ (ns : Named) (db : Bytes) where
  abbrev IsSound : Bool → Option Form → Type 0
  IsSound root None = Unit {0}
  IsSound root (Some g) = SoundAt root g

  value_sound : (root : Bool) (x : Option Form) (o : Op) (fs : Forms) → by_naming ns db (naming_of o) fs ≡ Ok x → IsSound root x
  value_sound root None o fs h = tt
  value_sound root (Some g) o fs h = found_sound root g (naming_said ns db (naming_of o) fs (Some g) h)

  command_sound : (root : Bool) (o : Op) (fs : Forms) (ms : NamedForms) (x : Option Form) → commands o ≡ true → command_answer ns db o fs ms ≡ Ok x → IsSound root x
  command_sound root o fs ms x c h =
      let a = then_ok (rewritten (value_rule ns db) (keyed ms)) (λ f. Ok (Some (with_options o fs f))) x h in
      let b = then_ok (named_rewritten (value_rule ns db) ms) (λ hs. Ok (keyed (named_of hs))) a.0 a.1 in
      let same : Some (with_options o fs (keyed (named_of b.0))) ≡ x =
      subst (λ f. Some (with_options o fs f) ≡ x) (sym (same_ok (keyed (named_of b.0)) a.0 b.2)) (same_ok (Some (with_options o fs a.0)) x a.2) in
      subst (IsSound root) same (command_task root o fs (named_of b.0) c)

  rule_by : (root : Bool) (b : Bool) (o : Op) (fs : Forms) (ms : NamedForms) (x : Option Form) → commands o ≡ b
      → names.either b (command_answer ns db o fs ms) (by_naming ns db (naming_of o) fs) ≡ Ok x → IsSound root x
  rule_by root true o fs ms x c h = command_sound root o fs ms x c h
  rule_by root false o fs ms x c h = value_sound root x o fs h

  rule_sound : (root : Bool) (o : Op) (fs : Forms) (ms : NamedForms) (x : Option Form) → op_rule ns db o fs ms ≡ Ok x → IsSound root x
  unfolding op_rule
  rule_sound root o fs ms x h = rule_by root (commands o) o fs ms x refl h

  -- the parts of an operation as they are looked up
  abbrev ByParts : Bool → Op → Forms → Form → Type 0
  ByParts root o fs g = (gs : List Form) (hs : List (Bytes × Form)) → all_rewritten (names_rule ns db) fs ≡ Ok gs
      → operation o (forms_of gs) (named_of hs) ≡ g → SoundBy (task_of o) root (forms_of gs) (AreBelow (forms_of gs))

  operation_sound : (root : Bool) (o : Op) (fs : Forms) (ms : NamedForms) (g : Form) (x : Option Form) → op_rule ns db o fs ms ≡ Ok x → ByParts root o fs g
      → or_else x (looked_up ns db o fs ms) ≡ Ok g → SoundAt root g
  operation_sound root o fs ms g (Some f) said parts h = subst (SoundAt root) (same_ok f g h) (rule_sound root o fs ms (Some f) said)
  operation_sound root o fs ms g None said parts h =
      let a = then_ok (all_rewritten (names_rule ns db) fs) (λ gs. named_rewritten (names_rule ns db) ms >>= λ hs. Ok
      (operation o (forms_of gs) (named_of hs))) g h in
      let b = then_ok (named_rewritten (names_rule ns db) ms) (λ hs. Ok (operation o (forms_of a.0) (named_of hs))) g a.2 in
      let same = same_ok (operation o (forms_of a.0) (named_of b.0)) g b.2 in
      subst (SoundAt root) same (parts a.0 b.0 a.1 same)

  operation_by : (root : Bool) (o : Op) (fs : Forms) (ms : NamedForms) (g : Form) → ByParts root o fs g → rewritten (names_rule ns db) (operation o fs ms) ≡ Ok g
      → SoundAt root g
  operation_by root o fs ms g parts h =
      let a = then_ok (op_rule ns db o fs ms) (λ x. or_else x (looked_up ns db o fs ms)) g h in
      operation_sound root o fs ms g a.0 a.1 parts a.2

  -- what is no operation stays none
  plain_sound : (root : Bool) (f g : Form) → ((o : Op) (fs : Forms) (ms : NamedForms) → operation o fs ms ≡ f → SoundAt root g) → rewritten (names_rule ns db) f ≡ Ok g
      → SoundAt root g
  plain_sound root (literal d) g by h = subst (SoundAt root) (same_ok (literal d) g h) tt
  plain_sound root (several fs) g by h =
      let a = then_ok (all_rewritten (names_rule ns db) fs) (λ gs. Ok (several (forms_of gs))) g h in
      subst (SoundAt root) (same_ok (several (forms_of a.0)) g a.2) tt
  plain_sound root (keyed ms) g by h =
      let a = then_ok (named_rewritten (names_rule ns db) ms) (λ hs. Ok (keyed (named_of hs))) g h in
      subst (SoundAt root) (same_ok (keyed (named_of a.0)) g a.2) tt
  plain_sound root (variable n) g by h = subst (SoundAt root) (same_ok (variable n) g h) tt
  plain_sound root implicit g by h = subst (SoundAt root) (same_ok implicit g h) tt
  plain_sound root (function ids f) g by h =
      let a = then_ok (rewritten (names_rule ns db) f) (λ b. Ok (function ids b)) g h in
      subst (SoundAt root) (same_ok (function ids a.0) g a.2) tt
  plain_sound root (slot n) g by h = subst (SoundAt root) (same_ok (slot n) g h) tt
  plain_sound root (operation o fs ms) g by h = by o fs ms refl

  -- below the root there is no CHANGES
  mutual
    below_sound : (a : Around) (f g : Form) → is_root a.place ≡ false → faults a f ≡ [] → rewritten (names_rule ns db) f ≡ Ok g → SoundAt false g
    below_sound a (operation o fs ms) g r none h =
        let p = none_of (own a.place o fs ms) (part_faults a (task_of o) (count fs) 0 fs ++ named_faults (faults.at place.Inside a) ms) none in
        let q = none_of (part_faults a (task_of o) (count fs) 0 fs) (named_faults (faults.at place.Inside a) ms) p.1 in
        operation_by false o fs ms g (λ gs hs e same. by_below (task_of o) false (forms_of gs)
        (no_feed a.place (task_of o) fs ms r (own_none a.place o fs ms p.0)) (parts_sound a (task_of o) (count fs) 0 fs gs q.0 e)) h
    below_sound a (literal d) g r none h = plain_sound false (literal d) g (λ o fs ms e. absurd (cc (e))) h
    below_sound a (several fs) g r none h = plain_sound false (several fs) g (λ o gs ms e. absurd (cc (e))) h
    below_sound a (keyed ms) g r none h = plain_sound false (keyed ms) g (λ o fs ns e. absurd (cc (e))) h
    below_sound a (variable n) g r none h = plain_sound false (variable n) g (λ o fs ms e. absurd (cc (e))) h
    below_sound a implicit g r none h = plain_sound false implicit g (λ o fs ms e. absurd (cc (e))) h
    below_sound a (function ids f) g r none h = plain_sound false (function ids f) g (λ o fs ms e. absurd (cc (e))) h
    below_sound a (slot n) g r none h = plain_sound false (slot n) g (λ o fs ms e. absurd (cc (e))) h

    parts_sound : (a : Around) (t : Task) (n i : ℕ) (fs : Forms) (gs : List Form) → part_faults a t n i fs ≡ []
        → all_rewritten (names_rule ns db) fs ≡ Ok gs → AreBelow (forms_of gs)
    parts_sound a t n i no_forms gs none h = subst (λ x. AreBelow (forms_of x)) (same_ok [] gs h) tt
    parts_sound a t n i (form f fs) gs none h =
        let p = none_of (faults (faults.at (place_at a.place t i n) a) f) (part_faults a t n (i + 1) fs) none in
        let x = then_ok (rewritten (names_rule ns db) f) (λ g. all_rewritten (names_rule ns db) fs >>= λ rest. Ok (g ∷ rest)) gs h in
        let y = then_ok (all_rewritten (names_rule ns db) fs) (λ rest. Ok (x.0 ∷ rest)) gs x.2 in
        subst (λ z. AreBelow (forms_of z)) (same_ok (x.0 ∷ y.0) gs y.2)
        (below_sound (faults.at (place_at a.place t i n) a) f x.0 (below a.place t i n) p.0 x.1, parts_sound a t n (i + 1) fs y.0 p.1 y.1)

  -- ---- at the root CHANGES stands over planned arguments
  abbrev RootBy : Op → Type 0
  RootBy o = (fs : Forms) (ms : NamedForms) (gs : List Form) (hs : List (Bytes × Form)) → is_asked (operation o fs ms) ≡ true
      → faults around_root (operation o fs ms) ≡ [] → all_rewritten (names_rule ns db) fs ≡ Ok gs
      → leaks false (operation o (forms_of gs) (named_of hs)) ≡ false → SoundBy (task_of o) true (forms_of gs) (AreBelow (forms_of gs))

  changes_by : RootBy op.Changes
  changes_by fs ms gs hs asked none e free =
      let p = none_of (own place.Root op.Changes fs ms) (part_faults around_root task.Feed (count fs) 0 fs ++ named_faults
      (faults.at place.Inside around_root) ms) none in
      let q = none_of (part_faults around_root task.Feed (count fs) 0 fs) (named_faults (faults.at place.Inside around_root) ms) p.1 in
      let r = both (fits op.Changes (count fs) && takes_all op.Changes ms) (are_asked fs && fields_asked ms) asked in
      let s = both (are_asked fs) (fields_asked ms) r.1 in
      all_planned (forms_of gs) (all_looked_up ns db true [] fs gs
      (parts_fit true [] around_root task.Feed (count fs) 0 fs nothing_known (λ i. refl) (λ x. s.0) q.0) e)
      (neither (all_leak true (forms_of gs)) (named_leak true (named_of hs)) free).0

  other_by : (o : Op) → is_feed (task_of o) ≡ false → RootBy o
  other_by o other fs ms gs hs asked none e free =
      let p = none_of (own place.Root o fs ms) (part_faults around_root (task_of o) (count fs) 0 fs ++ named_faults
      (faults.at place.Inside around_root) ms) none in
      let q = none_of (part_faults around_root (task_of o) (count fs) 0 fs) (named_faults (faults.at place.Inside around_root) ms) p.1 in
      by_below (task_of o) true (forms_of gs) other (parts_sound around_root (task_of o) (count fs) 0 fs gs q.0 e)

  root_by : (o : Op) → RootBy o
  root_by op.Changes = changes_by
  root_by o = other_by o refl

  abbrev RootSound : Form → Form → Type 0
  RootSound f g = is_asked f ≡ true → faults around_root f ≡ [] → rewritten (names_rule ns db) f ≡ Ok g → leaks false g ≡ false → Sound g

  operation_root : (o : Op) (fs : Forms) (ms : NamedForms) (g : Form) → RootSound (operation o fs ms) g
  operation_root o fs ms g asked none h free =
      operation_by true o fs ms g (λ gs hs e same. root_by o fs ms gs hs asked none e (subst (λ z. leaks false z ≡ false) (sym same) free)) h

  pub root_sound : (f g : Form) → RootSound f g
  root_sound f g asked none h free =
      plain_sound true f g (λ o fs ms same. subst (λ z. RootSound z g) same (operation_root o fs ms g) asked none h free) h

-- a term that has a plan has no fault
no_faults : (es : List CompileFault) → first_fault es ≡ None → es ≡ []
no_faults [] h = refl
no_faults (e ∷ es) h = absurd (cc (h))

pub resolved_sound : (ns : Named) (db : Bytes) (f g : Form) → is_asked f ≡ true → plan_fault f ≡ None → resolved ns db f ≡ Ok g
    → leaks false g ≡ false → Sound g
resolved_sound ns db f g asked none h free = root_sound ns db f g asked (no_faults (faults around_root f) none) h free

-- ---- with a moment in the place of NOW
module _ (moment : ℤ) where
  by_then : (t : Task) (root : Bool) (fs : Forms) (gs : List Form) → SoundBy t root fs (AreBelow fs) → all_rewritten (now_rule moment) fs ≡ Ok gs
      → (AreBelow fs → AreBelow (forms_of gs)) → SoundBy t root (forms_of gs) (AreBelow (forms_of gs))
  by_then task.Feed true fs gs s e arms = all_planned_then moment fs gs s e
  by_then task.Feed false fs gs s e arms = absurd s
  by_then task.Branch root fs gs s e arms = arms s
  by_then t root fs gs s e arms = tt

  mutual
    pub sound_then : (root : Bool) (f g : Form) → SoundAt root f → rewritten (now_rule moment) f ≡ Ok g → SoundAt root g
    sound_then root (operation o fs ms) g s h =
        operation_becomes moment (SoundAt root) (is_now o) o fs ms g tt (λ gs hs d e. by_then (task_of o) root fs gs s d (λ arms. all_sound_then fs gs arms d)) h
    sound_then root (literal d) g s h = subst (SoundAt root) (same_ok (literal d) g h) tt
    sound_then root (several fs) g s h =
        let a = then_ok (all_rewritten (now_rule moment) fs) (λ gs. Ok (several (forms_of gs))) g h in
        subst (SoundAt root) (same_ok (several (forms_of a.0)) g a.2) tt
    sound_then root (keyed ms) g s h =
        let a = then_ok (named_rewritten (now_rule moment) ms) (λ hs. Ok (keyed (named_of hs))) g h in
        subst (SoundAt root) (same_ok (keyed (named_of a.0)) g a.2) tt
    sound_then root (variable n) g s h = subst (SoundAt root) (same_ok (variable n) g h) tt
    sound_then root implicit g s h = subst (SoundAt root) (same_ok implicit g h) tt
    sound_then root (function ids f) g s h =
        let a = then_ok (rewritten (now_rule moment) f) (λ b. Ok (function ids b)) g h in
        subst (SoundAt root) (same_ok (function ids a.0) g a.2) tt
    sound_then root (slot n) g s h = subst (SoundAt root) (same_ok (slot n) g h) tt

    all_sound_then : (fs : Forms) (gs : List Form) → AreBelow fs → all_rewritten (now_rule moment) fs ≡ Ok gs → AreBelow (forms_of gs)
    all_sound_then no_forms gs s h = subst (λ x. AreBelow (forms_of x)) (same_ok [] gs h) tt
    all_sound_then (form f fs) gs s h =
        let a = then_ok (rewritten (now_rule moment) f) (λ g. all_rewritten (now_rule moment) fs >>= λ rest. Ok (g ∷ rest)) gs h in
        let b = then_ok (all_rewritten (now_rule moment) fs) (λ rest. Ok (a.0 ∷ rest)) gs a.2 in
        subst (λ x. AreBelow (forms_of x)) (same_ok (a.0 ∷ b.0) gs b.2) (sound_then false f a.0 s.0 a.1, all_sound_then fs b.0 s.1 b.1)

pub time_sound : (moment : Option ℤ) (f g : Form) → Sound f → at_time moment f ≡ Ok g → Sound g
time_sound None f g s h = subst Sound (same_ok f g h) s
time_sound (Some n) f g s h = sound_then n true f g s h

leak_free : (b : Bool) (f g : Form) → unless_leaks b f ≡ Ok g → (b ≡ false) × (f ≡ g)
leak_free true f g h = absurd (cc (h))
leak_free false f g h = (refl, same_ok f g h)

pub carried_sound : (ns : Named) (db : Bytes) (moment : Option ℤ) (f g : Form) → is_asked f ≡ true → plan_fault f ≡ None
    → carried_as ns db moment f ≡ Ok g → Sound g
carried_sound ns db moment f g asked none h =
    let a = then_ok (resolved ns db f) (λ x. unless_leaks (leaks false x) x >>= at_time moment) g h in
    let b = then_ok (unless_leaks (leaks false a.0) a.0) (at_time moment) g a.2 in
    let c = leak_free (leaks false a.0) a.0 b.0 b.1 in
    time_sound moment a.0 g (resolved_sound ns db f a.0 asked none a.1 c.0) (subst (λ x. at_time moment x ≡ Ok g) (sym c.1) b.2)

pub planned_feeds_are_read : PlannedFeedsAreRead
planned_feeds_are_read ns db moment f fs ms e x asked none h opens =
    feeds_are_read e fs ms x (carried_sound ns db moment f (operation op.Changes fs ms) asked none h) opens
