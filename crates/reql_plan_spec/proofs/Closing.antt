-- That the arguments of CHANGES are planned: no function of theirs names a table, and NOW in them is a moment.
use Rattle.std.proofs.Common.{◌≡◌, ℕ, ℤ, pos, List, [], ◌∷◌, ◌++◌, Bool, true, false, ◌&&◌, ◌||◌, not, Ok, refl, subst}
use Rattle.reql_datum.specs.Answer.{Answer, ◌>>=◌}
use Rattle.reql_datum.specs.Plain.{time}
use Rattle.reql_term.specs.Form.{Form, literal, several, keyed, variable, implicit, function, slot, operation, Forms, no_forms, form, NamedForms, no_named, named, forms_of, named_of}
use Rattle.reql_term.specs.Table.{fits}
use Rattle.reql_term.specs.declared.op.Op.{Op}
use Rattle.reql_rewrite.specs.Rewrite.{or_else, rewritten, all_rewritten, named_rewritten}
use Rattle.reql_rules.specs.Lists.{Bytes}
use Rattle.reql_faults.specs.Places.{count}
use Rattle.reql_faults.specs.Shapes.{part_of, is_table_part}
use Rattle.reql_write_spec.specs.Selecting.{slots, slots_of, slots_named}
use Rattle.reql_feed_spec.specs.Kept.{is_free, are_free, fields_free}
use Rattle.reql_table_spec.proofs.Closed.{then_ok, same_ok}
use Rattle.reql_table_spec.proofs.Reading.{both}
use Rattle.reql_plan_spec.specs.Follows.{takes_all, is_fit, is_planned, are_planned, fields_planned}
use Rattle.reql_plan_spec.specs.Reads.{is_any, leaks, all_leak, named_leak, is_now, at_now, now_rule}
use Rattle.reql_plan_spec.proofs.Planned.{tables, Fit, AllFit, FieldsFit, same_count, same_takes}

both_are : (a b : Bool) → a ≡ true → b ≡ true → a && b ≡ true
both_are a b h k = rw (h, k) refl

is_not : (b : Bool) → b ≡ false → not b ≡ true
is_not b h = rw h refl

pub neither : (a b : Bool) → a || b ≡ false → (a ≡ false) × (b ≡ false)
neither true b h = absurd (cc (h))
neither false b h = (refl, h)

-- ---- a function that names no table, and whose variables are bound, is free
no_slots : (xs ys : List ℕ) → is_any (xs ++ ys) ≡ false → (is_any xs ≡ false) × (is_any ys ≡ false)
no_slots [] ys h = (refl, h)
no_slots (x ∷ xs) ys h = absurd (cc (h))

mutual
  free : (scope : List (List ℕ)) (f : Form) → Fit tables false scope f → is_any (slots f) ≡ false → is_free scope f ≡ true
  free scope (literal d) p h = refl
  free scope (several fs) p h = all_free scope fs p h
  free scope (keyed ms) p h = named_free scope ms p h
  free scope (variable id) p h = p
  free scope implicit p h = p
  free scope (function ids body) p h = free (ids ∷ scope) body p h
  free scope (slot n) p h = absurd (cc (h))
  free scope (operation o fs ms) p h =
      let q = no_slots (slots_of fs) (slots_named ms) h in
      both_are (are_free scope fs) (fields_free scope ms) (all_free scope fs p.2.0 q.0) (named_free scope ms p.2.1 q.1)

  all_free : (scope : List (List ℕ)) (fs : Forms) → AllFit tables false scope fs → is_any (slots_of fs) ≡ false → are_free scope fs ≡ true
  all_free scope no_forms p h = refl
  all_free scope (form f fs) p h =
      let q = no_slots (slots f) (slots_of fs) h in
      both_are (is_free scope f) (are_free scope fs) (free scope f p.0 q.0) (all_free scope fs p.1 q.1)

  named_free : (scope : List (List ℕ)) (ms : NamedForms) → FieldsFit tables false scope ms → is_any (slots_named ms) ≡ false
      → fields_free scope ms ≡ true
  named_free scope no_named p h = refl
  named_free scope (named k f ms) p h =
      let q = no_slots (slots f) (slots_named ms) h in
      both_are (is_free scope f) (fields_free scope ms) (free scope f p.0 q.0) (named_free scope ms p.1 q.1)

-- ---- where no function leaks, what was looked up is planned
mutual
  pub planned : (f : Form) → Fit tables true [] f → leaks true f ≡ false → is_planned f ≡ true
  planned (literal d) p h = refl
  planned (several fs) p h = all_planned fs p h
  planned (keyed ms) p h = named_planned ms p h
  planned (variable id) p h = refl
  planned implicit p h = refl
  planned (function ids body) p h = free (ids ∷ []) body p (neither (is_any (slots body)) (leaks true body) h).0
  planned (slot n) p h = refl
  planned (operation o fs ms) p h =
      let q = neither (all_leak true fs) (named_leak true ms) h in
      let fit : is_fit o fs ms ≡ true = both_are (not (is_table_part (part_of o))) (fits o (count fs) && takes_all o ms)
      (is_not (is_table_part (part_of o)) p.0) (p.1 refl) in
      both_are (is_fit o fs ms) (are_planned fs && fields_planned ms) fit
      (both_are (are_planned fs) (fields_planned ms) (all_planned fs p.2.0 q.0) (named_planned ms p.2.1 q.1))

  pub all_planned : (fs : Forms) → AllFit tables true [] fs → all_leak true fs ≡ false → are_planned fs ≡ true
  all_planned no_forms p h = refl
  all_planned (form f fs) p h =
      let q = neither (leaks true f) (all_leak true fs) h in
      both_are (is_planned f) (are_planned fs) (planned f p.0 q.0) (all_planned fs p.1 q.1)

  named_planned : (ms : NamedForms) → FieldsFit tables true [] ms → named_leak true ms ≡ false → fields_planned ms ≡ true
  named_planned no_named p h = refl
  named_planned (named k f ms) p h =
      let q = neither (leaks true f) (named_leak true ms) h in
      both_are (is_planned f) (fields_planned ms) (planned f p.0 q.0) (named_planned ms p.1 q.1)

-- ---- a moment in the place of NOW leaves it so
module _ (moment : ℤ) where
  abbrev timed : Op → Forms → NamedForms → Answer Form
  timed o fs ms = all_rewritten (now_rule moment) fs >>= λ gs. named_rewritten (now_rule moment) ms >>= λ hs. Ok
      (operation o (forms_of gs) (named_of hs))

  -- an operation becomes a literal, or has its parts rewritten
  pub operation_becomes : (Good : Form → Type 0) (b : Bool) (o : Op) (fs : Forms) (ms : NamedForms) (g : Form) → Good (literal (time (moment, pos 0)))
      → ((gs : List Form) (hs : List (Bytes × Form)) → all_rewritten (now_rule moment) fs ≡ Ok gs → named_rewritten (now_rule moment) ms ≡ Ok hs
      → Good (operation o (forms_of gs) (named_of hs)))
      → or_else (at_now b moment) (timed o fs ms) ≡ Ok g → Good g
  operation_becomes Good true o fs ms g now parts h = subst Good (same_ok (literal (time (moment, pos 0))) g h) now
  operation_becomes Good false o fs ms g now parts h =
      let a = then_ok (all_rewritten (now_rule moment) fs) (λ gs. named_rewritten (now_rule moment) ms >>= λ hs. Ok
      (operation o (forms_of gs) (named_of hs))) g h in
      let b = then_ok (named_rewritten (now_rule moment) ms) (λ hs. Ok (operation o (forms_of a.0) (named_of hs))) g a.2 in
      subst Good (same_ok (operation o (forms_of a.0) (named_of b.0)) g b.2) (parts a.0 b.0 a.1 b.1)

  mutual
    free_then : (scope : List (List ℕ)) (f g : Form) → is_free scope f ≡ true → rewritten (now_rule moment) f ≡ Ok g → is_free scope g ≡ true
    free_then scope (literal d) g p h = subst (λ x. is_free scope x ≡ true) (same_ok (literal d) g h) refl
    free_then scope (several fs) g p h =
        let a = then_ok (all_rewritten (now_rule moment) fs) (λ gs. Ok (several (forms_of gs))) g h in
        subst (λ x. is_free scope x ≡ true) (same_ok (several (forms_of a.0)) g a.2) (all_free_then scope fs a.0 p a.1)
    free_then scope (keyed ms) g p h =
        let a = then_ok (named_rewritten (now_rule moment) ms) (λ hs. Ok (keyed (named_of hs))) g h in
        subst (λ x. is_free scope x ≡ true) (same_ok (keyed (named_of a.0)) g a.2) (named_free_then scope ms a.0 p a.1)
    free_then scope (variable n) g p h = subst (λ x. is_free scope x ≡ true) (same_ok (variable n) g h) p
    free_then scope implicit g p h = subst (λ x. is_free scope x ≡ true) (same_ok implicit g h) p
    free_then scope (function ids f) g p h =
        let a = then_ok (rewritten (now_rule moment) f) (λ b. Ok (function ids b)) g h in
        subst (λ x. is_free scope x ≡ true) (same_ok (function ids a.0) g a.2) (free_then (ids ∷ scope) f a.0 p a.1)
    free_then scope (slot n) g p h = absurd (cc (p))
    free_then scope (operation o fs ms) g p h =
        let q = both (are_free scope fs) (fields_free scope ms) p in
        operation_becomes (λ x. is_free scope x ≡ true) (is_now o) o fs ms g refl
        (λ gs hs d e. both_are (are_free scope (forms_of gs)) (fields_free scope (named_of hs)) (all_free_then scope fs gs q.0 d)
        (named_free_then scope ms hs q.1 e)) h

    all_free_then : (scope : List (List ℕ)) (fs : Forms) (gs : List Form) → are_free scope fs ≡ true → all_rewritten (now_rule moment) fs ≡ Ok gs
        → are_free scope (forms_of gs) ≡ true
    all_free_then scope no_forms gs p h = subst (λ x. are_free scope (forms_of x) ≡ true) (same_ok [] gs h) refl
    all_free_then scope (form f fs) gs p h =
        let q = both (is_free scope f) (are_free scope fs) p in
        let a = then_ok (rewritten (now_rule moment) f) (λ g. all_rewritten (now_rule moment) fs >>= λ rest. Ok (g ∷ rest)) gs h in
        let b = then_ok (all_rewritten (now_rule moment) fs) (λ rest. Ok (a.0 ∷ rest)) gs a.2 in
        subst (λ x. are_free scope (forms_of x) ≡ true) (same_ok (a.0 ∷ b.0) gs b.2)
        (both_are (is_free scope a.0) (are_free scope (forms_of b.0)) (free_then scope f a.0 q.0 a.1) (all_free_then scope fs b.0 q.1 b.1))

    named_free_then : (scope : List (List ℕ)) (ms : NamedForms) (hs : List (Bytes × Form)) → fields_free scope ms ≡ true
        → named_rewritten (now_rule moment) ms ≡ Ok hs → fields_free scope (named_of hs) ≡ true
    named_free_then scope no_named hs p h = subst (λ x. fields_free scope (named_of x) ≡ true) (same_ok [] hs h) refl
    named_free_then scope (named k f ms) hs p h =
        let q = both (is_free scope f) (fields_free scope ms) p in
        let a = then_ok (rewritten (now_rule moment) f) (λ g. named_rewritten (now_rule moment) ms >>= λ rest. Ok ((k, g) ∷ rest)) hs h in
        let b = then_ok (named_rewritten (now_rule moment) ms) (λ rest. Ok ((k, a.0) ∷ rest)) hs a.2 in
        subst (λ x. fields_free scope (named_of x) ≡ true) (same_ok ((k, a.0) ∷ b.0) hs b.2)
        (both_are (is_free scope a.0) (fields_free scope (named_of b.0)) (free_then scope f a.0 q.0 a.1) (named_free_then scope ms b.0 q.1 b.1))

  -- an operation whose parts are planned still, with as many arguments and the same options
  still_planned : (o : Op) (fs : Forms) (ms : NamedForms) (gs : List Form) (hs : List (Bytes × Form)) → all_rewritten (now_rule moment) fs ≡ Ok gs
      → named_rewritten (now_rule moment) ms ≡ Ok hs
      → is_fit o fs ms ≡ true → are_planned (forms_of gs) ≡ true → fields_planned (named_of hs) ≡ true
      → is_planned (operation o (forms_of gs) (named_of hs)) ≡ true
  still_planned o fs ms gs hs d e fit all fields =
      let still : is_fit o (forms_of gs) (named_of hs) ≡ true =
      rw (same_count (now_rule moment) fs gs d, same_takes (now_rule moment) o ms hs e) fit in
      both_are (is_fit o (forms_of gs) (named_of hs)) (are_planned (forms_of gs) && fields_planned (named_of hs)) still
      (both_are (are_planned (forms_of gs)) (fields_planned (named_of hs)) all fields)

  mutual
    planned_then : (f g : Form) → is_planned f ≡ true → rewritten (now_rule moment) f ≡ Ok g → is_planned g ≡ true
    planned_then (literal d) g p h = subst (λ x. is_planned x ≡ true) (same_ok (literal d) g h) refl
    planned_then (several fs) g p h =
        let a = then_ok (all_rewritten (now_rule moment) fs) (λ gs. Ok (several (forms_of gs))) g h in
        subst (λ x. is_planned x ≡ true) (same_ok (several (forms_of a.0)) g a.2) (all_planned_then fs a.0 p a.1)
    planned_then (keyed ms) g p h =
        let a = then_ok (named_rewritten (now_rule moment) ms) (λ hs. Ok (keyed (named_of hs))) g h in
        subst (λ x. is_planned x ≡ true) (same_ok (keyed (named_of a.0)) g a.2) (named_planned_then ms a.0 p a.1)
    planned_then (variable n) g p h = subst (λ x. is_planned x ≡ true) (same_ok (variable n) g h) refl
    planned_then implicit g p h = subst (λ x. is_planned x ≡ true) (same_ok implicit g h) refl
    planned_then (function ids f) g p h =
        let a = then_ok (rewritten (now_rule moment) f) (λ b. Ok (function ids b)) g h in
        subst (λ x. is_planned x ≡ true) (same_ok (function ids a.0) g a.2) (free_then (ids ∷ []) f a.0 p a.1)
    planned_then (slot n) g p h = subst (λ x. is_planned x ≡ true) (same_ok (slot n) g h) refl
    planned_then (operation o fs ms) g p h =
        let q = both (is_fit o fs ms) (are_planned fs && fields_planned ms) p in
        let r = both (are_planned fs) (fields_planned ms) q.1 in
        operation_becomes (λ x. is_planned x ≡ true) (is_now o) o fs ms g refl
        (λ gs hs d e. still_planned o fs ms gs hs d e q.0 (all_planned_then fs gs r.0 d) (named_planned_then ms hs r.1 e)) h

    pub all_planned_then : (fs : Forms) (gs : List Form) → are_planned fs ≡ true → all_rewritten (now_rule moment) fs ≡ Ok gs
        → are_planned (forms_of gs) ≡ true
    all_planned_then no_forms gs p h = subst (λ x. are_planned (forms_of x) ≡ true) (same_ok [] gs h) refl
    all_planned_then (form f fs) gs p h =
        let q = both (is_planned f) (are_planned fs) p in
        let a = then_ok (rewritten (now_rule moment) f) (λ g. all_rewritten (now_rule moment) fs >>= λ rest. Ok (g ∷ rest)) gs h in
        let b = then_ok (all_rewritten (now_rule moment) fs) (λ rest. Ok (a.0 ∷ rest)) gs a.2 in
        subst (λ x. are_planned (forms_of x) ≡ true) (same_ok (a.0 ∷ b.0) gs b.2)
        (both_are (is_planned a.0) (are_planned (forms_of b.0)) (planned_then f a.0 q.0 a.1) (all_planned_then fs b.0 q.1 b.1))

    named_planned_then : (ms : NamedForms) (hs : List (Bytes × Form)) → fields_planned ms ≡ true → named_rewritten (now_rule moment) ms ≡ Ok hs
        → fields_planned (named_of hs) ≡ true
    named_planned_then no_named hs p h = subst (λ x. fields_planned (named_of x) ≡ true) (same_ok [] hs h) refl
    named_planned_then (named k f ms) hs p h =
        let q = both (is_planned f) (fields_planned ms) p in
        let a = then_ok (rewritten (now_rule moment) f) (λ g. named_rewritten (now_rule moment) ms >>= λ rest. Ok ((k, g) ∷ rest)) hs h in
        let b = then_ok (named_rewritten (now_rule moment) ms) (λ rest. Ok ((k, a.0) ∷ rest)) hs a.2 in
        subst (λ x. fields_planned (named_of x) ≡ true) (same_ok ((k, a.0) ∷ b.0) hs b.2)
        (both_are (is_planned a.0) (fields_planned (named_of b.0)) (planned_then f a.0 q.0 a.1) (named_planned_then ms b.0 q.1 b.1))
