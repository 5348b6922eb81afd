-- That a settled term has the value that it had.
use Rattle.std.proofs.Common.{◌≡◌, ℕ, zero, suc, nat_eq, length, List, [], ◌∷◌, Bool, true, false, true≢false, not, ◌&&◌, if◌then◌else◌, slice_get, Ok, Err, refl, sym, ap, subst, ◌∙◌}
use Rattle.std.specs.List.{list_all}
use Rattle.reql_datum.specs.Answer.{Answer, ◌>>=◌, Reason, no_text, query_logic, non_existence, resource_limit, op_failed, user}
use Rattle.reql_datum.specs.Plain.{Plain}
use Rattle.reql_term.specs.Form.{Form, literal, several, keyed, variable, implicit, function, slot, operation, Forms, no_forms, form, NamedForms, no_named, named, forms_of, named_of}
use Rattle.reql_term.specs.Table.{fits, takes, way_of}
use Rattle.reql_term.specs.declared.op.Op.{Op}
use Rattle.reql_term.specs.declared.role.Way.{Way}
use Rattle.reql_term.specs.declared.role.Way.TheVariants as way
use Rattle.reql_rules.specs.Faults.{misplaced, misplaced_order}
use Rattle.reql_rules.specs.Lists.{Bytes}
use Rattle.reql_value_spec.specs.Meaning as meaning
use Rattle.reql_value_spec.specs.Meaning.{sense, form_senses, named_senses, sense_by, sense_of, is_fit, ordered}
use Rattle.reql_value_spec.specs.Meant.{Meant, one, Given, given, directed, late, Rule}
use Rattle.reql_value_spec.specs.Sense as senses
use Rattle.reql_value_spec.specs.Sense.{Sense, plain, func, sorter, raiser, value, key_argument, option, index_option, default_option, options, call_of, call, calls_of, key_arguments, Arguments, Optional, Application, taking, strict, sorting, filtering}
use Rattle.reql_value_spec.specs.Sequenced.{by_groups}
use Rattle.reql_value_spec.specs.Table.{rule_of}
use Rattle.reql_value_spec.specs.World.{World, Vars}
use Rattle.reql_table_spec.proofs.Closed.{then_ok, same_ok}
use Rattle.reql_table_spec.proofs.Reading.{both}
use Rattle.reql_plan_spec.specs.Settled.{Test, datum_of, evaluated, is_direction, is_error, keeps_argument, keeps_option, nothing_kept, kept_or, argument, arguments, named_arguments, settled, first_settled}
use Rattle.reql_plan_spec.specs.Settling.{Stands, Either, ArgumentStands, ArgumentsStand, OptionsStand, DataStand, FirstDataStand, is_whole, is_stack, first_is_stack, SettledMeansTheSame}

fails : {A : Type 0} (why : Reason) (a : A) → Err why ≡ Ok a → ⊥
fails why a h = cc

abbrev given_of : Answer Meant → Answer Given
given_of a = a >>= λ m. Ok (given m)

abbrev directed_of : Bool → Answer Given → Answer Given
directed_of down a = a >>= λ g. Ok (directed down g)

abbrev sorted_of : Answer Meant → Answer Meant
sorted_of a = a >>= λ m. Err misplaced_order

abbrev is_raiser : Sense → Bool
is_raiser (raiser texted f) = true
is_raiser s = false

-- settled in the world u, evaluated in the world w
module _ (u w : World) where
  -- two terms that give the same, wherever they stand
  record Same (s t : Sense) : Type 0 where
    valued : value s w [] ≡ value t w []
    argued : (at : ℕ) → senses.argument at s w [] ≡ senses.argument at t w []
    keyed_by : (at : ℕ) → key_argument at s w [] ≡ key_argument at t w []
    indexed : index_option s w [] ≡ index_option t w []
    called_by : (ds : List Plain) → call_of s w [] ds ≡ call_of t w [] ds

  itself : (s : Sense) → Same s s
  itself s = record { valued = refl; argued = λ at. refl; keyed_by = λ at. refl; indexed = refl; called_by = λ ds. refl }

  plain_same : (f g : World → Vars → Answer Meant) → f w [] ≡ g w [] → Same (plain f) (plain g)
  plain_same f g h = record { valued = h; argued = λ at. ap given_of h; keyed_by = λ at. ap given_of h; indexed = ap given_of h; called_by = λ ds. refl }

  raiser_same : (b : Bool) (f g : World → Vars → Answer Meant) → f w [] ≡ g w [] → Same (raiser b f) (raiser b g)
  raiser_same b f g h = record { valued = h; argued = λ at. ap given_of h; keyed_by = λ at. ap given_of h; indexed = ap given_of h; called_by = λ ds. refl }

  sorter_same : (down : Bool) (s t : Sense) → Same s t → Same (sorter down s) (sorter down t)
  sorter_same down s t same = record {
    valued = ap sorted_of same.valued;
    argued = λ at. ap (λ a. given_of (sorted_of a)) same.valued;
    keyed_by = λ at. ap (directed_of down) (same.argued at);
    indexed = ap (λ a. directed_of down (given_of a)) same.valued;
    called_by = same.called_by;
  }

  -- a datum in the place of a term that gives it
  data_same : (s : Sense) (d : Plain) → value s w [] ≡ Ok (one d) → Same s (plain (λ v vars. Ok (one d)))
  data_same (plain f) d h = plain_same f (λ v vars. Ok (one d)) h
  data_same (func o f) d h = absurd (cc (h))
  data_same (sorter down s) d h = absurd (fails misplaced_order (one d) (then_ok (value s w []) (λ m. Err misplaced_order) (one d) h).2)
  data_same (raiser texted f) d h = record { valued = h; argued = λ at. ap given_of h; keyed_by = λ at. ap given_of h; indexed = ap given_of h; called_by = λ ds. refl }

  -- ---- lists of them
  abbrev AreSame : List Sense → List Sense → Type 0
  AreSame [] [] = Unit {0}
  AreSame (s ∷ ss) (t ∷ ts) = Same s t × AreSame ss ts
  AreSame ss ts = ⊥

  taken_same : (ss ts : List Sense) (at : ℕ) → AreSame ss ts → senses.arguments senses.argument at ss w [] ≡ senses.arguments senses.argument at ts w []
  taken_same [] [] at a = refl
  taken_same (s ∷ ss) (t ∷ ts) at a = λ i. (a.0.argued at i >>= λ g. taken_same ss ts (suc at) a.1 i >>= λ gs. Ok (g ∷ gs))
  taken_same [] (t ∷ ts) at a = absurd a
  taken_same (s ∷ ss) [] at a = absurd a

  keys_same : (ss ts : List Sense) (at : ℕ) → AreSame ss ts → senses.arguments key_argument at ss w [] ≡ senses.arguments key_argument at ts w []
  keys_same [] [] at a = refl
  keys_same (s ∷ ss) (t ∷ ts) at a = λ i. (a.0.keyed_by at i >>= λ g. keys_same ss ts (suc at) a.1 i >>= λ gs. Ok (g ∷ gs))
  keys_same [] (t ∷ ts) at a = absurd a
  keys_same (s ∷ ss) [] at a = absurd a

  ordered_same : (ss ts : List Sense) → AreSame ss ts → key_arguments ss w [] ≡ key_arguments ts w []
  ordered_same [] [] a = refl
  ordered_same (s ∷ ss) (t ∷ ts) a = λ i. (a.0.argued 0 i >>= λ g. keys_same ss ts 1 a.1 i >>= λ gs. Ok (g ∷ gs))
  ordered_same [] (t ∷ ts) a = absurd a
  ordered_same (s ∷ ss) [] a = absurd a

  call_same : (ss ts : List Sense) (at : ℕ) (ds : List Plain) → AreSame ss ts → call (slice_get ss at) w [] ds ≡ call (slice_get ts at) w [] ds
  call_same [] [] at ds a = refl
  call_same (s ∷ ss) (t ∷ ts) zero ds a = a.0.called_by ds
  call_same (s ∷ ss) (t ∷ ts) (suc at) ds a = call_same ss ts at ds a.1
  call_same [] (t ∷ ts) at ds a = absurd a
  call_same (s ∷ ss) [] at ds a = absurd a

  calls_same : (ss ts : List Sense) → AreSame ss ts → calls_of ss w [] ≡ calls_of ts w []
  calls_same ss ts a = λ i at ds. call_same ss ts at ds a i

  length_same : (ss ts : List Sense) → AreSame ss ts → length ss ≡ length ts
  length_same [] [] a = refl
  length_same (s ∷ ss) (t ∷ ts) a = ap suc (length_same ss ts a.1)
  length_same [] (t ∷ ts) a = absurd a
  length_same (s ∷ ss) [] a = absurd a

  -- options, as their operator takes them
  abbrev NamedSame : Optional → List (Bytes × Sense) → List (Bytes × Sense) → Type 0
  NamedSame take [] [] = Unit {0}
  NamedSame take (o ∷ os) (p ∷ ps) = ((o.0 ≡ p.0) × (take o.1 w [] ≡ take p.1 w [])) × NamedSame take os ps
  NamedSame take os ps = ⊥

  named_itself : (take : Optional) (os : List (Bytes × Sense)) → NamedSame take os os
  named_itself take [] = tt
  named_itself take (o ∷ os) = ((refl, refl), named_itself take os)

  options_same : (take : Optional) (os ps : List (Bytes × Sense)) → NamedSame take os ps → options take os w [] ≡ options take ps w []
  options_same take [] [] a = refl
  options_same take (o ∷ os) (p ∷ ps) a = λ i. (a.0.1 i >>= λ g. options_same take os ps a.1 i >>= λ gs. Ok ((a.0.0 i, g) ∷ gs))
  options_same take [] (p ∷ ps) a = absurd a
  options_same take (o ∷ os) [] a = absurd a

  takes_same : (op : Op) (take : Optional) (os ps : List (Bytes × Sense)) → NamedSame take os ps → list_all (λ (o : Bytes × Sense). takes op o.0) os ≡ list_all (λ (o : Bytes × Sense). takes op o.0) ps
  takes_same op take [] [] a = refl
  takes_same op take (o ∷ os) (p ∷ ps) a = λ i. takes op (a.0.0 i) && takes_same op take os ps a.1 i
  takes_same op take [] (p ∷ ps) a = absurd a
  takes_same op take (o ∷ os) [] a = absurd a

  taking_same : (args : Arguments) (opt : Optional) (applied : Application) (rule : Rule) (ss ts : List Sense) (os ps : List (Bytes × Sense)) → args ss w [] ≡ args ts w [] → options opt os w [] ≡ options opt ps w []
      → calls_of ss w [] ≡ calls_of ts w [] → taking args opt applied rule ss os w [] ≡ taking args opt applied rule ts ps w []
  taking_same args opt applied rule ss ts os ps a o c = λ i. (a i >>= λ gs. o i >>= λ opts. applied w.array_limit (λ hs. rule w (c i) hs opts) gs)

  -- ---- an operator over them
  abbrev take_of : Way → Optional
  take_of way.Sorting = index_option
  take_of way.Filtering = default_option
  take_of v = option

  abbrev is_known : Way → Bool
  is_known way.Strict = true
  is_known way.Sorting = true
  is_known way.Filtering = true
  is_known way.Rising = true
  is_known way.Falling = true
  is_known way.Raising = true
  is_known v = false

  direction_same : (down : Bool) (ss ts : List Sense) → AreSame ss ts → Same (ordered down ss) (ordered down ts)
  direction_same down [] [] a = itself (ordered down [])
  direction_same down (s ∷ ss) (t ∷ ts) a = sorter_same down s t a.0
  direction_same down [] (t ∷ ts) a = absurd a
  direction_same down (s ∷ ss) [] a = absurd a

  module _ (rule : Rule) (ss ts : List Sense) (os ps : List (Bytes × Sense)) (same : AreSame ss ts) where
    strict_same : NamedSame option os ps → strict rule ss os w [] ≡ strict rule ts ps w []
    strict_same n = taking_same (senses.arguments senses.argument 0) option by_groups rule ss ts os ps (taken_same ss ts 0 same) (options_same option os ps n) (calls_same ss ts same)

    by_same : (v : Way) → is_known v ≡ true → NamedSame (take_of v) os ps → Same (sense_by v rule ss os) (sense_by v rule ts ps)
    by_same way.Strict k n = plain_same (strict rule ss os) (strict rule ts ps) (strict_same n)
    by_same way.Sorting k n = plain_same (sorting rule ss os) (sorting rule ts ps)
        (taking_same key_arguments index_option by_groups rule ss ts os ps (ordered_same ss ts same) (options_same index_option os ps n) (calls_same ss ts same))
    by_same way.Filtering k n = plain_same (filtering rule ss os) (filtering rule ts ps)
        (taking_same (senses.arguments senses.argument 0) default_option by_groups rule ss ts os ps (taken_same ss ts 0 same) (options_same default_option os ps n) (calls_same ss ts same))
    by_same way.Rising k n = direction_same false ss ts same
    by_same way.Falling k n = direction_same true ss ts same
    by_same way.Raising k n =
        subst (λ m. Same (raiser (not (nat_eq (length ss) 0)) (strict rule ss os)) (raiser (not (nat_eq m 0)) (strict rule ts ps))) (length_same ss ts same)
        (raiser_same (not (nat_eq (length ss) 0)) (strict rule ss os) (strict rule ts ps) (strict_same n))
    by_same v k n = absurd (cc (k))

  if_same : (b c : Bool) (s t u : Sense) → b ≡ c → Same s t → Same (if b then s else u) (if c then t else u)
  if_same true c s t u h same = subst (λ x. Same s (if x then t else u)) h same
  if_same false c s t u h same = subst (λ x. Same u (if x then t else u)) h (itself u)

  op_same : (o : Op) (ss ts : List Sense) (os ps : List (Bytes × Sense)) → is_known (way_of o) ≡ true → AreSame ss ts → NamedSame (take_of (way_of o)) os ps → Same (sense_of o ss os) (sense_of o ts ps)
  op_same o ss ts os ps k a n = if_same (is_fit o ss os) (is_fit o ts ps) (sense_by (way_of o) (rule_of o) ss os) (sense_by (way_of o) (rule_of o) ts ps) (plain (λ v vars. Err misplaced))
      (λ i. fits o (length_same ss ts a i) && takes_same o (take_of (way_of o)) os ps n i) (by_same (rule_of o) ss ts os ps a (way_of o) k n)

  -- ---- an argument that is evaluated
  settled_ok : (a : Answer Meant) (m : Meant) → meaning.settled a ≡ Ok m → a ≡ Ok m
  settled_ok (Ok n) m h = h
  settled_ok (Err no_text) m h = absurd (cc (h))
  settled_ok (Err (query_logic s)) m h = h
  settled_ok (Err (non_existence s)) m h = h
  settled_ok (Err (resource_limit s)) m h = h
  settled_ok (Err (op_failed s)) m h = h
  settled_ok (Err (user s)) m h = h

  abbrev Becomes : Form → Form → Type 0
  Becomes f g = Same (sense f) (sense g)

  evaluated_same : (f g : Form) → evaluated u f ≡ Ok g → Stands u w f → (d : Plain) × (literal d ≡ g) × Becomes f (literal d)
  evaluated_same f g h stands =
      let d = then_ok (datum_of u f) (λ d. Ok (literal d)) g h in
      (d.0, same_ok (literal d.0) g d.2, data_same (sense f) d.0 (settled_ok (value (sense f) w []) (one d.0) (stands d.0 d.1)))

  evaluated_becomes : (f g : Form) → evaluated u f ≡ Ok g → Stands u w f → Becomes f g
  evaluated_becomes f g h r = let e = evaluated_same f g h r in subst (Becomes f) e.1 e.2

  -- an argument that may keep its operator
  kept_becomes : (b : Bool) (o : Op) (fs : Forms) (ms : NamedForms) (g : Form) → (b ≡ true → is_known (way_of o) ≡ true)
      → ((gs : List Form) → ArgumentsStand nothing_kept u w fs → arguments nothing_kept u fs ≡ Ok gs → AreSame (form_senses fs) (form_senses (forms_of gs)))
      → Either b (ArgumentsStand nothing_kept u w fs) (Stands u w (operation o fs ms))
      → kept_or b (arguments nothing_kept u fs >>= λ gs. Ok (operation o (forms_of gs) ms)) (evaluated u (operation o fs ms)) ≡ Ok g → Becomes (operation o fs ms) g
  kept_becomes true o fs ms g known below r h =
      let a = then_ok (arguments nothing_kept u fs) (λ gs. Ok (operation o (forms_of gs) ms)) g h in
      subst (Becomes (operation o fs ms)) (same_ok (operation o (forms_of a.0) ms) g a.2)
      (op_same o (form_senses fs) (form_senses (forms_of a.0)) (named_senses ms) (named_senses ms) (known refl) (below a.0 r a.1) (named_itself (take_of (way_of o)) (named_senses ms)))
  kept_becomes false o fs ms g known below r h = evaluated_becomes (operation o fs ms) g h r

  abbrev Known : (Op → Bool) → Type 0
  Known keeps = (o : Op) → keeps o ≡ true → is_known (way_of o) ≡ true

  nothing_is : Known nothing_kept
  nothing_is o h = absurd (cc (h))

  mutual
    argument_becomes : (keeps : Op → Bool) (f g : Form) → Known keeps → ArgumentStands keeps u w f → argument keeps u f ≡ Ok g → Becomes f g
    argument_becomes keeps (function ids f) g k r h = subst (Becomes (function ids f)) (same_ok (function ids f) g h) (itself (sense (function ids f)))
    argument_becomes keeps (operation o fs ms) g k r h = kept_becomes (keeps o) o fs ms g (k o) (λ gs none e. arguments_become nothing_kept fs gs nothing_is none e) r h
    argument_becomes keeps (literal d) g k r h = evaluated_becomes (literal d) g h r
    argument_becomes keeps (several fs) g k r h = evaluated_becomes (several fs) g h r
    argument_becomes keeps (keyed ms) g k r h = evaluated_becomes (keyed ms) g h r
    argument_becomes keeps (variable id) g k r h = evaluated_becomes (variable id) g h r
    argument_becomes keeps implicit g k r h = evaluated_becomes implicit g h r
    argument_becomes keeps (slot n) g k r h = evaluated_becomes (slot n) g h r

    arguments_become : (keeps : Op → Bool) (fs : Forms) (gs : List Form) → Known keeps → ArgumentsStand keeps u w fs → arguments keeps u fs ≡ Ok gs → AreSame (form_senses fs) (form_senses (forms_of gs))
    arguments_become keeps no_forms gs k r h = subst (λ x. AreSame [] (form_senses (forms_of x))) (same_ok [] gs h) tt
    arguments_become keeps (form f fs) gs k r h =
        let a = then_ok (argument keeps u f) (λ g. arguments keeps u fs >>= λ rest. Ok (g ∷ rest)) gs h in
        let b = then_ok (arguments keeps u fs) (λ rest. Ok (a.0 ∷ rest)) gs a.2 in
        subst (λ x. AreSame (sense f ∷ form_senses fs) (form_senses (forms_of x))) (same_ok (a.0 ∷ b.0) gs b.2)
        (argument_becomes keeps f a.0 k r.0 a.1, arguments_become keeps fs b.0 k r.1 b.1)

  -- ---- options, as each way takes them
  abbrev TakenAs : Optional → Form → Form → Type 0
  TakenAs take f g = take (sense f) w [] ≡ take (sense g) w []

  -- FILTER's default, which an ERROR tells unraised
  unraised : (s : Sense) → is_raiser s ≡ false → default_option s w [] ≡ given_of (value s w [])
  unraised (plain f) h = refl
  unraised (func o f) h = refl
  unraised (sorter down s) h = refl
  unraised (raiser texted f) h = absurd (cc (h))

  raises_by : (v : Way) (rule : Rule) (ss : List Sense) (os : List (Bytes × Sense)) → is_error v ≡ false → is_raiser (sense_by v rule ss os) ≡ false
  raises_by way.Raising rule ss os h = absurd (cc (h))
  raises_by way.Rising rule [] os h = refl
  raises_by way.Rising rule (s ∷ ss) os h = refl
  raises_by way.Falling rule [] os h = refl
  raises_by way.Falling rule (s ∷ ss) os h = refl
  raises_by v rule ss os h = refl

  raises_if : (b : Bool) (s : Sense) → is_raiser s ≡ false → is_raiser (if b then s else plain (λ v vars. Err misplaced)) ≡ false
  raises_if true s h = h
  raises_if false s h = refl

  default_becomes : (f g : Form) → is_raiser (sense f) ≡ false → evaluated u f ≡ Ok g → Stands u w f → TakenAs default_option f g
  default_becomes f g none h r =
      let e = evaluated_same f g h r in
      subst (TakenAs default_option f) e.1 (unraised (sense f) none ∙ ap given_of e.2.valued)

  error_same : (b c : Bool) (s t : Sense) → b ≡ c → default_option s w [] ≡ default_option t w []
      → default_option (if b then s else plain (λ v vars. Err misplaced)) w [] ≡ default_option (if c then t else plain (λ v vars. Err misplaced)) w []
  error_same true c s t h same = subst (λ x. default_option s w [] ≡ default_option (if x then t else plain (λ v vars. Err misplaced)) w []) h same
  error_same false c s t h same = subst (λ x. default_option (plain (λ v vars. Err misplaced)) w [] ≡ default_option (if x then t else plain (λ v vars. Err misplaced)) w []) h refl

  late_same : (rule : Rule) (ss ts : List Sense) (os : List (Bytes × Sense)) (v : Way) → is_error v ≡ true → AreSame ss ts → default_option (sense_by v rule ss os) w [] ≡ default_option (sense_by v rule ts os) w []
  late_same rule ss ts os way.Raising h a = λ i. Ok (late (not (nat_eq (length_same ss ts a i) 0)) (strict_same rule ss ts os os a (named_itself option os) i))
  late_same rule ss ts os v h a = absurd (cc (h))

  kept_default : (b : Bool) (o : Op) (fs : Forms) (ms : NamedForms) (g : Form) → is_error (way_of o) ≡ b
      → Either b (ArgumentsStand nothing_kept u w fs) (Stands u w (operation o fs ms))
      → kept_or b (arguments nothing_kept u fs >>= λ gs. Ok (operation o (forms_of gs) ms)) (evaluated u (operation o fs ms)) ≡ Ok g → TakenAs default_option (operation o fs ms) g
  kept_default true o fs ms g is r h =
      let a = then_ok (arguments nothing_kept u fs) (λ gs. Ok (operation o (forms_of gs) ms)) g h in
      let same = arguments_become nothing_kept fs a.0 nothing_is r a.1 in
      subst (TakenAs default_option (operation o fs ms)) (same_ok (operation o (forms_of a.0) ms) g a.2)
      (error_same (is_fit o (form_senses fs) (named_senses ms)) (is_fit o (form_senses (forms_of a.0)) (named_senses ms))
      (sense_by (way_of o) (rule_of o) (form_senses fs) (named_senses ms)) (sense_by (way_of o) (rule_of o) (form_senses (forms_of a.0)) (named_senses ms))
      (ap (λ n. fits o n && list_all (λ (x : Bytes × Sense). takes o x.0) (named_senses ms)) (length_same (form_senses fs) (form_senses (forms_of a.0)) same))
      (late_same (rule_of o) (form_senses fs) (form_senses (forms_of a.0)) (named_senses ms) (way_of o) is same))
  kept_default false o fs ms g is r h = default_becomes (operation o fs ms) g
      (raises_if (is_fit o (form_senses fs) (named_senses ms)) (sense_by (way_of o) (rule_of o) (form_senses fs) (named_senses ms)) (raises_by (way_of o) (rule_of o) (form_senses fs) (named_senses ms) is)) h r

  filter_becomes : (f g : Form) → ArgumentStands (keeps_option way.Filtering) u w f → argument (keeps_option way.Filtering) u f ≡ Ok g → TakenAs default_option f g
  filter_becomes (function ids f) g r h = subst (TakenAs default_option (function ids f)) (same_ok (function ids f) g h) refl
  filter_becomes (operation o fs ms) g r h = kept_default (is_error (way_of o)) o fs ms g refl r h
  filter_becomes (literal d) g r h = default_becomes (literal d) g refl h r
  filter_becomes (several fs) g r h = default_becomes (several fs) g refl h r
  filter_becomes (keyed ms) g r h = default_becomes (keyed ms) g refl h r
  filter_becomes (variable id) g r h = default_becomes (variable id) g refl h r
  filter_becomes implicit g r h = default_becomes implicit g refl h r
  filter_becomes (slot n) g r h = default_becomes (slot n) g refl h r

  directions_known : (v : Way) → is_direction v ≡ true → is_known v ≡ true
  directions_known way.Rising h = refl
  directions_known way.Falling h = refl
  directions_known v h = absurd (cc (h))

  -- one option of an operator that takes its arguments this way
  option_becomes : (v : Way) → is_whole v ≡ true → (f g : Form) → ArgumentStands (keeps_option v) u w f → argument (keeps_option v) u f ≡ Ok g → TakenAs (take_of v) f g
  option_becomes way.Strict k f g r h = ap given_of (argument_becomes (keeps_option way.Strict) f g (λ o e. absurd (true≢false (sym e))) r h).valued
  option_becomes way.Sorting k f g r h = (argument_becomes (keeps_option way.Sorting) f g (λ o e. directions_known (way_of o) e) r h).indexed
  option_becomes way.Filtering k f g r h = filter_becomes f g r h
  option_becomes v k f g r h = absurd (cc (k))

  named_become : (v : Way) → is_whole v ≡ true → (ms : NamedForms) (ns : List (Bytes × Form)) → OptionsStand (keeps_option v) u w ms → named_arguments (keeps_option v) u ms ≡ Ok ns
      → NamedSame (take_of v) (named_senses ms) (named_senses (named_of ns))
  named_become v k no_named ns r h = subst (λ x. NamedSame (take_of v) [] (named_senses (named_of x))) (same_ok [] ns h) tt
  named_become v k (named name f ms) ns r h =
      let a = then_ok (argument (keeps_option v) u f) (λ g. named_arguments (keeps_option v) u ms >>= λ rest. Ok ((name, g) ∷ rest)) ns h in
      let b = then_ok (named_arguments (keeps_option v) u ms) (λ rest. Ok ((name, a.0) ∷ rest)) ns a.2 in
      subst (λ x. NamedSame (take_of v) ((name, sense f) ∷ named_senses ms) (named_senses (named_of x))) (same_ok ((name, a.0) ∷ b.0) ns b.2)
      ((refl, option_becomes v k f a.0 r.0 a.1), named_become v k ms b.0 r.1 b.1)

  -- ---- terms one on another
  whole_known : (v : Way) → is_whole v ≡ true → is_known v ≡ true
  whole_known way.Strict h = refl
  whole_known way.Sorting h = refl
  whole_known way.Filtering h = refl
  whole_known v h = absurd (cc (h))

  keys_known : (v : Way) → is_whole v ≡ true → Known (keeps_argument v)
  keys_known way.Sorting h o e = directions_known (way_of o) e
  keys_known way.Strict h o e = absurd (true≢false (sym e))
  keys_known way.Filtering h o e = absurd (true≢false (sym e))
  keys_known v h o e = absurd (cc (h))

  module _ (test : Test) where
    mutual
      term_becomes : (f g : Form) → is_stack f ≡ true → DataStand u w f → settled test u f ≡ Ok g → Becomes f g
      term_becomes (operation o fs ms) g s r h =
          let q = both (is_whole (way_of o)) (first_is_stack fs) s in
          let a = then_ok (first_settled test u (way_of o) fs) (λ gs. named_arguments (keeps_option (way_of o)) u ms >>= λ ns. test o gs ns >>= λ _. Ok (operation o (forms_of gs) (named_of ns))) g h in
          let b = then_ok (named_arguments (keeps_option (way_of o)) u ms) (λ ns. test o a.0 ns >>= λ _. Ok (operation o (forms_of a.0) (named_of ns))) g a.2 in
          let c = then_ok (test o a.0 b.0) (λ _. Ok (operation o (forms_of a.0) (named_of b.0))) g b.2 in
          subst (Becomes (operation o fs ms)) (same_ok (operation o (forms_of a.0) (named_of b.0)) g c.2)
          (op_same o (form_senses fs) (form_senses (forms_of a.0)) (named_senses ms) (named_senses (named_of b.0)) (whole_known (way_of o) q.0)
          (first_becomes (way_of o) fs a.0 q.0 q.1 r.0 a.1) (named_become (way_of o) q.0 ms b.0 r.1 b.1))
      term_becomes (function ids f) g s r h = subst (Becomes (function ids f)) (same_ok (function ids f) g h) (itself (sense (function ids f)))
      term_becomes (literal d) g s r h = subst (Becomes (literal d)) (same_ok (literal d) g h) (itself (sense (literal d)))
      term_becomes (several fs) g s r h = subst (Becomes (several fs)) (same_ok (several fs) g h) (itself (sense (several fs)))
      term_becomes (keyed ms) g s r h = subst (Becomes (keyed ms)) (same_ok (keyed ms) g h) (itself (sense (keyed ms)))
      term_becomes (variable id) g s r h = subst (Becomes (variable id)) (same_ok (variable id) g h) (itself (sense (variable id)))
      term_becomes implicit g s r h = subst (Becomes implicit) (same_ok implicit g h) (itself (sense implicit))
      term_becomes (slot n) g s r h = subst (Becomes (slot n)) (same_ok (slot n) g h) (itself (sense (slot n)))

      first_becomes : (v : Way) (fs : Forms) (gs : List Form) → is_whole v ≡ true → first_is_stack fs ≡ true → FirstDataStand u w v fs → first_settled test u v fs ≡ Ok gs
          → AreSame (form_senses fs) (form_senses (forms_of gs))
      first_becomes v no_forms gs k s r h = subst (λ x. AreSame [] (form_senses (forms_of x))) (same_ok [] gs h) tt
      first_becomes v (form f fs) gs k s r h =
          let a = then_ok (settled test u f) (λ g. arguments (keeps_argument v) u fs >>= λ rest. Ok (g ∷ rest)) gs h in
          let b = then_ok (arguments (keeps_argument v) u fs) (λ rest. Ok (a.0 ∷ rest)) gs a.2 in
          subst (λ x. AreSame (sense f ∷ form_senses fs) (form_senses (forms_of x))) (same_ok (a.0 ∷ b.0) gs b.2)
          (term_becomes f a.0 s r.0 a.1, arguments_become (keeps_argument v) fs b.0 (keys_known v k) r.1 b.1)

pub settled_means_the_same : SettledMeansTheSame
settled_means_the_same test w v f g s stand h = sym (ap meaning.settled (term_becomes w v test f g s stand h).valued)
