-- What planning leaves of the arguments of CHANGES: a term without a fault, its tables looked up.
use Rattle.std.proofs.Common.{◌≡◌, ℕ, suc, ◌+◌, nat_eq, List, [], ◌∷◌, ◌++◌, map, Bool, true, false, ◌&&◌, ◌||◌, cond, Option, Some, None, is_some, Ok, refl, sym, ap, subst, ◌∙◌, ◌⊎◌, inl, inr, eqb-true, arith}
use Rattle.std.specs.List.{list_any}
use Rattle.std.specs.Map.{keys_of}
use Rattle.std.specs.Ordering.{is_eq}
use Rattle.reql_datum.specs.Answer.{Answer, ◌>>=◌}
use Rattle.reql_datum.specs.Members.{text_order}
use Rattle.reql_datum.specs.Plain.{text}
use Rattle.reql_term.specs.Form.{Form, literal, several, keyed, variable, implicit, function, slot, operation, Forms, no_forms, form, NamedForms, no_named, named, forms_of, named_of}
use Rattle.reql_term.specs.Table.{fits, task_of, naming_of}
use Rattle.reql_term.specs.declared.op.Op.{Op}
use Rattle.reql_term.specs.declared.op.Op.TheVariants as op
use Rattle.reql_term.specs.declared.role.Naming.{Naming}
use Rattle.reql_term.specs.declared.role.Naming.TheVariants as naming
use Rattle.reql_term.specs.declared.role.Task.{Task}
use Rattle.reql_term.specs.declared.role.Task.TheVariants as task
use Rattle.reql_rewrite.specs.Rewrite.{Saying, or_else, rewritten, all_rewritten, named_rewritten}
use Rattle.reql_rules.specs.Lists.{Bytes}
use Rattle.reql_faults.specs.Faults.{unless, may_stand, own, place_at, Around, faults, member_faults, part_faults, named_faults}
use Rattle.reql_faults.specs.Faults as faults
use Rattle.reql_faults.specs.Places.{count, option}
use Rattle.reql_faults.specs.Shapes.{part_of, is_table_part}
use Rattle.reql_faults.specs.declared.fault.CompileFault.{CompileFault}
use Rattle.reql_faults.specs.declared.standing.Place.TheVariants as place
use Rattle.reql_catalog.specs.Catalog.{Named, is_name, slot_of, tables_of}
use Rattle.reql_naming.specs.Named as names
use Rattle.reql_naming.specs.Named.{first_name, pair_of, db_of, found, slot_or, checked_db, checked_table, listed, by_naming, is_command, op_rule, names_rule}
use Rattle.reql_value_spec.specs.Depends.{is_bound, is_single, has_single}
use Rattle.reql_table_spec.proofs.Closed.{then_ok, same_ok}
use Rattle.reql_table_spec.proofs.Reading.{both}
use Rattle.reql_plan_spec.specs.Follows.{takes_all}
use Rattle.reql_plan_spec.specs.Opens.{is_asked, are_asked, fields_asked}

-- ---- lists that have nothing, and what a fault that is not there says
pub none_of : {A : Type 0} (xs ys : List A) → xs ++ ys ≡ [] → (xs ≡ []) × (ys ≡ [])
none_of [] ys h = (refl, h)
none_of (x ∷ xs) ys h = absurd (cc (h))

pub no_fault : (b : Bool) (e : CompileFault) → unless b e ≡ [] → b ≡ true
no_fault true e h = refl
no_fault false e h = absurd (cc (h))

either : (a b : Bool) → a || b ≡ true → (a ≡ true) ⊎ (b ≡ true)
either true b h = inl refl
either false b h = inr h

or_left : (a b : Bool) → a ≡ true → a || b ≡ true
or_left true b h = refl
or_left false b h = absurd (cc (h))

or_right : (a b : Bool) → b ≡ true → a || b ≡ true
or_right true b h = refl
or_right false b h = h

-- ---- the variables that are bound around a term
pub record Knows (scope : List (List ℕ)) (ids : List ℕ) (row : Bool) : Type 0 where
  pub bound : (n : ℕ) → faults.is_bound n ids ≡ true → is_bound scope n ≡ true
  pub single : row ≡ true → has_single scope ≡ true

pub nothing_known : Knows [] [] false
nothing_known = record { bound = λ n h. absurd (cc (h)); single = λ h. absurd (cc (h)) }

bound_split : (n : ℕ) (ids more : List ℕ) → faults.is_bound n (ids ++ more) ≡ true → (faults.is_bound n more ≡ true) ⊎ (faults.is_bound n ids ≡ true)
bound_split n [] more h = inl h
bound_split n (k ∷ ks) more h = elim (either (nat_eq k n) (faults.is_bound n (ks ++ more)) h) [
  | inl e ↦ inr (or_left (nat_eq k n) (faults.is_bound n ks) e)
  | inr e ↦ elim (bound_split n ks more e) [
    | inl x ↦ inl x
    | inr x ↦ inr (or_right (nat_eq k n) (faults.is_bound n ks) x)
  ]
]

itself : (n : ℕ) → nat_eq n n ≡ true
itself n = grind arith

turned : (k n : ℕ) → nat_eq k n ≡ true → nat_eq n k ≡ true
turned k n h = subst (λ x. nat_eq n x ≡ true) (sym (eqb-true k n h)) (itself n)

bound_here : (n : ℕ) (ids : List ℕ) → faults.is_bound n ids ≡ true → list_any (nat_eq n) ids ≡ true
bound_here n [] h = absurd (cc (h))
bound_here n (k ∷ ks) h = elim (either (nat_eq k n) (faults.is_bound n ks) h) [
  | inl e ↦ or_left (nat_eq n k) (list_any (nat_eq n) ks) (turned k n e)
  | inr e ↦ or_right (nat_eq n k) (list_any (nat_eq n) ks) (bound_here n ks e)
]

one_is_single : (ids : List ℕ) → faults.is_one ids ≡ is_single ids
one_is_single [] = refl
one_is_single (k ∷ []) = refl
one_is_single (k ∷ l ∷ ls) = refl

knows_more : (scope : List (List ℕ)) (ids more : List ℕ) (row : Bool) → Knows scope ids row
    → Knows (more ∷ scope) (ids ++ more) (faults.is_one more || row)
knows_more scope ids more row known = record {
  bound = λ n h. elim (bound_split n ids more h) [
    | inl e ↦ or_left (list_any (nat_eq n) more) (is_bound scope n) (bound_here n more e)
    | inr e ↦ or_right (list_any (nat_eq n) more) (is_bound scope n) (known.bound n e)
  ];
  single = λ h. elim (either (faults.is_one more) row h) [
    | inl e ↦ or_left (is_single more) (has_single scope) (sym (one_is_single more) ∙ e)
    | inr e ↦ or_right (is_single more) (has_single scope) (known.single e)
  ];
}

-- ---- a term before and after its names are looked up: each variable is bound, no command stands in it before and no table by its names after;
-- outside functions each operator has arguments and options that it takes
abbrev Takes : Bool → Op → Forms → NamedForms → Type 0
Takes outside o fs ms = outside ≡ true → (fits o (count fs) && takes_all o ms) ≡ true

module _ (L : Op → Bool) where
  abbrev mutual
    pub Fit : Bool → List (List ℕ) → Form → Type 0
    Fit out scope (literal d) = Unit {0}
    Fit out scope (several fs) = AllFit out scope fs
    Fit out scope (keyed ms) = FieldsFit out scope ms
    Fit out scope (variable id) = is_bound scope id ≡ true
    Fit out scope implicit = has_single scope ≡ true
    Fit out scope (function ids body) = Fit false (ids ∷ scope) body
    Fit out scope (slot n) = Unit {0}
    Fit out scope (operation o fs ms) = (L o ≡ false) × (Takes out o fs ms) × (AllFit out scope fs × FieldsFit out scope ms)

    pub AllFit : Bool → List (List ℕ) → Forms → Type 0
    AllFit out scope no_forms = Unit {0}
    AllFit out scope (form f fs) = Fit out scope f × AllFit out scope fs

    pub FieldsFit : Bool → List (List ℕ) → NamedForms → Type 0
    FieldsFit out scope no_named = Unit {0}
    FieldsFit out scope (named k f ms) = Fit out scope f × FieldsFit out scope ms

abbrev pub commands : Op → Bool
commands o = is_command (naming_of o)

abbrev pub tables : Op → Bool
tables o = is_table_part (part_of o)

-- ---- what a term without a fault is, that stands inside another
abbrev inside : List ℕ → Bool → Around
inside ids row = record { place = place.Inside; ids = ids; row = row }

stays_inside : (t : Task) (i n : ℕ) → place_at place.Inside t i n ≡ place.Inside
stays_inside task.Branch i n = refl
stays_inside task.ForEach i n = refl
stays_inside t i n = refl

no_command : (o : Op) → may_stand place.Inside (task_of o) ≡ true → commands o ≡ false
no_command op.DbCreate h = absurd (cc (h))
no_command op.DbDrop h = absurd (cc (h))
no_command op.TableCreate h = absurd (cc (h))
no_command op.TableDrop h = absurd (cc (h))
no_command o h = refl

own_none : (o : Op) (fs : Forms) (ms : NamedForms) → own place.Inside o fs ms ≡ [] → commands o ≡ false
unfolding own
own_none o fs ms h = no_command o (no_fault (may_stand place.Inside (task_of o)) _ (none_of (unless (may_stand place.Inside (task_of o)) _) _ h).0)

-- whether a term is asked of, where that is known: outside functions
abbrev Asks : Bool → Bool → Type 0
Asks out asked = out ≡ true → asked ≡ true

ask_both : (out a b : Bool) → Asks out (a && b) → Asks out a × Asks out b
ask_both out a b h = (λ e. (both a b (h e)).0, λ e. (both a b (h e)).1)

mutual
  fit : (out : Bool) (scope : List (List ℕ)) (ids : List ℕ) (row : Bool) (f : Form) → Knows scope ids row → Asks out (is_asked f)
      → faults (inside ids row) f ≡ [] → Fit commands out scope f
  fit out scope ids row (literal d) known asked h = tt
  fit out scope ids row (several fs) known asked h = members_fit out scope ids row fs known asked h
  fit out scope ids row (keyed ms) known asked h = fields_fit out scope ids row ms known asked h
  fit out scope ids row (variable id) known asked h = known.bound id (no_fault (faults.is_bound id ids) _ h)
  fit out scope ids row implicit known asked h = known.single (no_fault row _ h)
  fit out scope ids row (function more body) known asked h =
      fit false (more ∷ scope) (ids ++ more) (faults.is_one more || row) body (knows_more scope ids more row known) (λ e. absurd (cc (e))) h
  fit out scope ids row (slot n) known asked h = tt
  fit out scope ids row (operation o fs ms) known asked h =
      let a = none_of (own place.Inside o fs ms) (part_faults (inside ids row) (task_of o) (count fs) 0 fs ++ named_faults (inside ids row) ms) h in
      let b = none_of (part_faults (inside ids row) (task_of o) (count fs) 0 fs) (named_faults (inside ids row) ms) a.1 in
      let p = ask_both out (fits o (count fs) && takes_all o ms) (are_asked fs && fields_asked ms) asked in
      let q = ask_both out (are_asked fs) (fields_asked ms) p.1 in (
        own_none o fs ms a.0,
        p.0,
        (
          parts_fit out scope (inside ids row) (task_of o) (count fs) 0 fs known
              (λ i. stays_inside (task_of o) i (count fs)) q.0 b.0,
          fields_fit out scope ids row ms known q.1 b.1,
        ),
      )

  members_fit : (out : Bool) (scope : List (List ℕ)) (ids : List ℕ) (row : Bool) (fs : Forms) → Knows scope ids row → Asks out (are_asked fs)
      → member_faults (inside ids row) fs ≡ [] → AllFit commands out scope fs
  members_fit out scope ids row no_forms known asked h = tt
  members_fit out scope ids row (form f fs) known asked h =
      let a = none_of (faults (inside ids row) f) (member_faults (inside ids row) fs) h in
      let p = ask_both out (is_asked f) (are_asked fs) asked in
      (fit out scope ids row f known p.0 a.0, members_fit out scope ids row fs known p.1 a.1)

  pub parts_fit : (out : Bool) (scope : List (List ℕ)) (a : Around) (t : Task) (n i : ℕ) (fs : Forms) → Knows scope a.ids a.row
      → ((i : ℕ) → place_at a.place t i n ≡ place.Inside) → Asks out (are_asked fs) → part_faults a t n i fs ≡ [] → AllFit commands out scope fs
  parts_fit out scope a t n i no_forms known within asked h = tt
  parts_fit out scope a t n i (form f fs) known within asked h =
      let x = none_of (faults (faults.at (place_at a.place t i n) a) f) (part_faults a t n (i + 1) fs) h in
      let p = ask_both out (is_asked f) (are_asked fs) asked in (
        fit out scope a.ids a.row f known p.0 (subst (λ z. faults (faults.at z a) f ≡ []) (within i) x.0),
        parts_fit out scope a t n (i + 1) fs known
            within p.1 x.1,
      )

  pub fields_fit : (out : Bool) (scope : List (List ℕ)) (ids : List ℕ) (row : Bool) (ms : NamedForms) → Knows scope ids row
      → Asks out (fields_asked ms) → named_faults (inside ids row) ms ≡ [] → FieldsFit commands out scope ms
  fields_fit out scope ids row no_named known asked h = tt
  fields_fit out scope ids row (named k f ms) known asked h =
      let a = none_of (faults (inside ids row) f) (named_faults (inside ids row) ms) h in
      let p = ask_both out (is_asked f) (fields_asked ms) asked in
      (fit out scope ids row f known p.0 a.0, fields_fit out scope ids row ms known p.1 a.1)

-- ---- a rewritten term has as many arguments, and options of the same names
module _ (rule : Saying) where
  pub same_count : (fs : Forms) (gs : List Form) → all_rewritten rule fs ≡ Ok gs → count (forms_of gs) ≡ count fs
  same_count no_forms gs h = subst (λ x. count (forms_of x) ≡ 0) (same_ok [] gs h) refl
  same_count (form f fs) gs h =
      let a = then_ok (rewritten rule f) (λ g. all_rewritten rule fs >>= λ rest. Ok (g ∷ rest)) gs h in
      let b = then_ok (all_rewritten rule fs) (λ rest. Ok (a.0 ∷ rest)) gs a.2 in
      subst (λ x. count (forms_of x) ≡ suc (count fs)) (same_ok (a.0 ∷ b.0) gs b.2) (ap suc (same_count fs b.0 b.1))

  some_step : (b : Bool) (f g : Form) (x y : Option Form) → is_some x ≡ is_some y → is_some (cond b (Some f) x) ≡ is_some (cond b (Some g) y)
  some_step true f g x y h = refl
  some_step false f g x y h = h

  same_option : (k : Bytes) (ms : NamedForms) (ns : List (Bytes × Form)) → named_rewritten rule ms ≡ Ok ns
      → is_some (option k (named_of ns)) ≡ is_some (option k ms)
  same_option k no_named ns h = subst (λ x. is_some (option k (named_of x)) ≡ false) (same_ok [] ns h) refl
  same_option k (named l f ms) ns h =
      let a = then_ok (rewritten rule f) (λ g. named_rewritten rule ms >>= λ rest. Ok ((l, g) ∷ rest)) ns h in
      let b = then_ok (named_rewritten rule ms) (λ rest. Ok ((l, a.0) ∷ rest)) ns a.2 in
      subst (λ x. is_some (option k (named_of x)) ≡ is_some (option k (named l f ms))) (same_ok ((l, a.0) ∷ b.0) ns b.2)
      (some_step (is_eq (text_order k l)) a.0 f (option k (named_of b.0)) (option k ms) (same_option k ms b.0 b.1))

  pub same_takes : (o : Op) (ms : NamedForms) (ns : List (Bytes × Form)) → named_rewritten rule ms ≡ Ok ns
      → takes_all o (named_of ns) ≡ takes_all o ms
  same_takes o no_named ns h = subst (λ x. takes_all o (named_of x) ≡ true) (same_ok [] ns h) refl
  same_takes o (named k f ms) ns h =
      let a = then_ok (rewritten rule f) (λ g. named_rewritten rule ms >>= λ rest. Ok ((k, g) ∷ rest)) ns h in
      let b = then_ok (named_rewritten rule ms) (λ rest. Ok ((k, a.0) ∷ rest)) ns a.2 in
      subst (λ x. takes_all o (named_of x) ≡ takes_all o (named k f ms)) (same_ok ((k, a.0) ∷ b.0) ns b.2)
      (rw (same_option k ms b.0 b.1, same_takes o ms b.0 b.1) refl)

-- ---- what the rule of names says where no command stands: a table's slot, or a list of names
abbrev pub IsFound : Form → Type 0
IsFound g = ((n : ℕ) × (g ≡ slot n)) ⊎ ((names : List Bytes) × (g ≡ several (forms_of (map literal (map text names)))))

abbrev pub Said : Option Form → Type 0
Said None = Unit {0}
Said (Some g) = IsFound g

texts_fit : (L : Op → Bool) (out : Bool) (scope : List (List ℕ)) (names : List Bytes) → AllFit L out scope (forms_of (map literal (map text names)))
texts_fit L out scope [] = tt
texts_fit L out scope (s ∷ names) = (tt, texts_fit L out scope names)

found_fits : (L : Op → Bool) (out : Bool) (scope : List (List ℕ)) (g : Form) → IsFound g → Fit L out scope g
found_fits L out scope g (inl x) = subst (Fit L out scope) (sym x.1) tt
found_fits L out scope g (inr x) = subst (Fit L out scope) (sym x.1) (texts_fit L out scope x.0)

listed_said : (names : List Bytes) (x : Option Form) → listed names ≡ Ok x → Said x
listed_said names x h = subst Said (same_ok (Some (several (forms_of (map literal (map text names))))) x h) (inr (names, refl))

slot_said : (p : Bytes × Bytes) (n : Option ℕ) (x : Option Form) → slot_or p n ≡ Ok x → Said x × (x ≡ None → ⊥)
slot_said p None x h = absurd (cc (h))
slot_said p (Some n) x h = subst (λ y. Said y × (y ≡ None → ⊥)) (same_ok (Some (slot n)) x h) (inl (n, refl), λ e. cc (e))

found_said : (b : Bool) (p : Bytes × Bytes) (n : Option ℕ) (x : Option Form) → found b (slot_or p n) ≡ Ok x → Said x × (x ≡ None → ⊥)
found_said true p n x h = slot_said p n x h
found_said false p n x h = absurd (cc (h))

table_said : (ns : Named) (p : Bytes × Bytes) (x : Option Form) → checked_table ns p ≡ Ok x → Said x × (x ≡ None → ⊥)
table_said ns p x h =
    let a = then_ok (checked_db ns p.0) (λ _. found (is_name p.1) (slot_or p (slot_of p.0 p.1 ns))) x h in
    found_said (is_name p.1) p (slot_of p.0 p.1 ns) x a.2

pub naming_said : (ns : Named) (db : Bytes) (n : Naming) (fs : Forms) (x : Option Form) → by_naming ns db n fs ≡ Ok x → Said x
naming_said ns db naming.Database fs x h =
    let a = then_ok (checked_db ns (first_name fs)) (λ _. Ok None) x h in
    subst Said (same_ok None x a.2) tt
naming_said ns db naming.Table fs x h = (table_said ns (pair_of db fs) x h).0
naming_said ns db naming.Databases fs x h = listed_said (keys_of ns.dbs) x h
naming_said ns db naming.Tables fs x h =
    let a = then_ok (checked_db ns (db_of db fs)) (λ _. listed (tables_of (db_of db fs) ns)) x h in
    listed_said (tables_of (db_of db fs) ns) x a.2
naming_said ns db n fs x h = subst Said (same_ok None x h) tt

no_table : (ns : Named) (db : Bytes) (o : Op) (fs : Forms) (x : Option Form) → by_naming ns db (naming_of o) fs ≡ Ok x → x ≡ None → tables o ≡ false
no_table ns db op.Table fs x h e = absurd ((table_said ns (pair_of db fs) x h).1 e)
no_table ns db o fs x h e = refl

pub not_command : (b : Bool) (c v : Answer (Option Form)) (x : Option Form) → b ≡ false → names.either b c v ≡ Ok x → v ≡ Ok x
not_command true c v x e h = absurd (cc (e))
not_command false c v x e h = h

pub value_said : (ns : Named) (db : Bytes) (o : Op) (fs : Forms) (ms : NamedForms) (x : Option Form) → commands o ≡ false
    → op_rule ns db o fs ms ≡ Ok x → by_naming ns db (naming_of o) fs ≡ Ok x
unfolding op_rule
value_said ns db o fs ms x c h = not_command (commands o) _ (by_naming ns db (naming_of o) fs) x c h

module _ (ns : Named) (db : Bytes) where
  abbrev pub looked_up : Op → Forms → NamedForms → Answer Form
  looked_up o fs ms = all_rewritten (names_rule ns db) fs >>= λ gs. named_rewritten (names_rule ns db) ms >>= λ hs. Ok
      (operation o (forms_of gs) (named_of hs))

  operation_fits : (out : Bool) (scope : List (List ℕ)) (o : Op) (fs : Forms) (ms : NamedForms) (g : Form) (x : Option Form) → commands o ≡ false
      → Takes out o fs ms → op_rule ns db o fs ms ≡ Ok x
      → ((gs : List Form) → all_rewritten (names_rule ns db) fs ≡ Ok gs → AllFit tables out scope (forms_of gs))
      → ((hs : List (Bytes × Form)) → named_rewritten (names_rule ns db) ms ≡ Ok hs → FieldsFit tables out scope (named_of hs))
      → or_else x (looked_up o fs ms) ≡ Ok g → Fit tables out scope g
  operation_fits out scope o fs ms g (Some f) c takes said all fields h =
      subst (Fit tables out scope) (same_ok f g h) (found_fits tables out scope f
      (naming_said ns db (naming_of o) fs (Some f) (value_said ns db o fs ms (Some f) c said)))
  operation_fits out scope o fs ms g None c takes said all fields h =
      let a = then_ok (all_rewritten (names_rule ns db) fs) (λ gs. named_rewritten (names_rule ns db) ms >>= λ hs. Ok
      (operation o (forms_of gs) (named_of hs))) g h in
      let b = then_ok (named_rewritten (names_rule ns db) ms) (λ hs. Ok (operation o (forms_of a.0) (named_of hs))) g a.2 in
      let still : Takes out o (forms_of a.0) (named_of b.0) =
      λ e. rw (same_count (names_rule ns db) fs a.0 a.1, same_takes (names_rule ns db) o ms b.0 b.1) (takes e) in
      subst (Fit tables out scope) (same_ok (operation o (forms_of a.0) (named_of b.0)) g b.2)
      (no_table ns db o fs None (value_said ns db o fs ms None c said) refl, still, (all a.0 a.1, fields b.0 b.1))

  mutual
    pub looked_up_fits : (out : Bool) (scope : List (List ℕ)) (f g : Form) → Fit commands out scope f → rewritten (names_rule ns db) f ≡ Ok g
        → Fit tables out scope g
    looked_up_fits out scope (literal d) g p h = subst (Fit tables out scope) (same_ok (literal d) g h) tt
    looked_up_fits out scope (several fs) g p h =
        let a = then_ok (all_rewritten (names_rule ns db) fs) (λ gs. Ok (several (forms_of gs))) g h in
        subst (Fit tables out scope) (same_ok (several (forms_of a.0)) g a.2) (all_looked_up out scope fs a.0 p a.1)
    looked_up_fits out scope (keyed ms) g p h =
        let a = then_ok (named_rewritten (names_rule ns db) ms) (λ hs. Ok (keyed (named_of hs))) g h in
        subst (Fit tables out scope) (same_ok (keyed (named_of a.0)) g a.2) (fields_looked_up out scope ms a.0 p a.1)
    looked_up_fits out scope (variable n) g p h = subst (Fit tables out scope) (same_ok (variable n) g h) p
    looked_up_fits out scope implicit g p h = subst (Fit tables out scope) (same_ok implicit g h) p
    looked_up_fits out scope (function ids f) g p h =
        let a = then_ok (rewritten (names_rule ns db) f) (λ b. Ok (function ids b)) g h in
        subst (Fit tables out scope) (same_ok (function ids a.0) g a.2) (looked_up_fits false (ids ∷ scope) f a.0 p a.1)
    looked_up_fits out scope (slot n) g p h = subst (Fit tables out scope) (same_ok (slot n) g h) tt
    looked_up_fits out scope (operation o fs ms) g p h =
        let a = then_ok (op_rule ns db o fs ms) (λ x. or_else x (looked_up o fs ms)) g h in
        operation_fits out scope o fs ms g a.0 p.0 p.1 a.1 (λ gs e. all_looked_up out scope fs gs p.2.0 e)
        (λ hs e. fields_looked_up out scope ms hs p.2.1 e) a.2

    pub all_looked_up : (out : Bool) (scope : List (List ℕ)) (fs : Forms) (gs : List Form) → AllFit commands out scope fs
        → all_rewritten (names_rule ns db) fs ≡ Ok gs → AllFit tables out scope (forms_of gs)
    all_looked_up out scope no_forms gs p h = subst (λ x. AllFit tables out scope (forms_of x)) (same_ok [] gs h) tt
    all_looked_up out scope (form f fs) gs p h =
        let a = then_ok (rewritten (names_rule ns db) f) (λ g. all_rewritten (names_rule ns db) fs >>= λ rest. Ok (g ∷ rest)) gs h in
        let b = then_ok (all_rewritten (names_rule ns db) fs) (λ rest. Ok (a.0 ∷ rest)) gs a.2 in
        subst (λ x. AllFit tables out scope (forms_of x)) (same_ok (a.0 ∷ b.0) gs b.2)
        (looked_up_fits out scope f a.0 p.0 a.1, all_looked_up out scope fs b.0 p.1 b.1)

    fields_looked_up : (out : Bool) (scope : List (List ℕ)) (ms : NamedForms) (hs : List (Bytes × Form)) → FieldsFit commands out scope ms
        → named_rewritten (names_rule ns db) ms ≡ Ok hs → FieldsFit tables out scope (named_of hs)
    fields_looked_up out scope no_named hs p h = subst (λ x. FieldsFit tables out scope (named_of x)) (same_ok [] hs h) tt
    fields_looked_up out scope (named k f ms) hs p h =
        let a = then_ok (rewritten (names_rule ns db) f) (λ g. named_rewritten (names_rule ns db) ms >>= λ rest. Ok ((k, g) ∷ rest)) hs h in
        let b = then_ok (named_rewritten (names_rule ns db) ms) (λ rest. Ok ((k, a.0) ∷ rest)) hs a.2 in
        subst (λ x. FieldsFit tables out scope (named_of x)) (same_ok ((k, a.0) ∷ b.0) hs b.2)
        (looked_up_fits out scope f a.0 p.0 a.1, fields_looked_up out scope ms b.0 p.1 b.1)
