-- A value depends on what its term names alone.
use Rattle.std.proofs.Common.{◌≡◌, refl, ap, ◌∙◌, ℕ, zero, suc, nat_eq, Bool, true, false, ◌||◌, List, [], ◌∷◌, length, if◌then◌else◌, Option, Some, Ok, Err, arith}
use Rattle.std.specs.Prelude.{nat_lt}
use Rattle.std.specs.List.{zip, list_any}
use Rattle.reql_datum.specs.Answer.{Answer, ◌>>=◌, query_logic, non_existence, resource_limit, op_failed, user, no_text}
use Rattle.reql_datum.specs.Plain.{Plain, null, text}
use Rattle.reql_term.specs.Form.{Form, literal, several, keyed, variable, implicit, function, slot, operation, Forms, no_forms, form, NamedForms, no_named, named}
use Rattle.reql_term.specs.Table.{way_of}
use Rattle.reql_term.specs.declared.op.Op.{Op}
use Rattle.reql_term.specs.declared.role.Way.{Way}
use Rattle.reql_term.specs.declared.role.Way.TheVariants as way
use Rattle.reql_rules.specs.Faults.{misplaced, misplaced_order, over_array, wrong_count}
use Rattle.reql_rules.specs.Lists.{Bytes, array_of, each, object_of}
use Rattle.reql_rules.specs.Sizes.{shallow, within}
use Rattle.reql_rules.specs.Types.{truth}
use Rattle.reql_value_spec.specs.Depends.{is_bound, is_single, has_single, Names, AllName, FieldsName, Agree, ValuesDependOnNames, FunctionsDependOnNames, Among}
use Rattle.reql_value_spec.specs.Lazy.{Tail, by_first, stops, chain, chained, branches, branch_on, branch, told, or_caught, unless_nothing, default_to, default}
use Rattle.reql_value_spec.specs.Meaning.{make_object, member_datum, bound, table_of, ordered, sense_by, is_fit, sense_of, sense, form_senses, named_senses, settled, applied}
use Rattle.reql_value_spec.specs.Meant.{Meant, one, stream, selection, row, table, grouped, database, callable, Kind, slice_between, slice_in_order, some_rows, rows_in_array, Given, given, callee, directed, late, Rule, is_nothing}
use Rattle.reql_value_spec.specs.Scalars.{make_array}
use Rattle.reql_value_spec.specs.Sense.{Sense, plain, func, sorter, raiser, value, argument, key_argument, arguments, key_arguments, option, index_option, default_option, options, call_of, calls_of, Arguments, Optional, Application, taking}
use Rattle.reql_value_spec.specs.Sequenced.{array, sized, sized_group, on_group, on_groups, at_once, by_groups}
use Rattle.reql_value_spec.specs.Table.{rule_of}
use Rattle.reql_value_spec.specs.Wanted.{to_datum}
use Rattle.reql_value_spec.specs.World.{World, Vars, in_frame, or_further, variable_at, only, implicit_at, view_at}
use Rattle.reql_value_spec.proofs.Slots.{Each, then_each, then_each_if, both_same, everything, if_each, In, InGiven, InAll, CallsIn, SameRule, KeepsRule, giving_in, rule_same, rule_in}

equal : (a b : ℕ) → nat_eq a b ≡ true → a ≡ b
equal a b h = grind arith

not_both : {G : Type 0} → false ≡ true → G
not_both e = absurd (let f : false ≡ true = e in cc)

module _ (P : ℕ → Type 0) (w v : World) (agree : Agree P w v) where
  -- ---- limits and groups
  sized_rows_in : (limit n : ℕ) (kind : Kind) (ds : List Plain) → P n → Each (In P) (sized limit (selection n kind ds))
  sized_rows_in limit n rows_in_array ds h = if_each (Each (In P)) (nat_lt limit (length ds)) (Err (over_array limit)) (Ok (selection n rows_in_array ds)) tt h
  sized_rows_in limit n (slice_between b) ds h = h
  sized_rows_in limit n slice_in_order ds h = h
  sized_rows_in limit n some_rows ds h = h

  sized_in : (limit : ℕ) (m : Meant) → In P m → Each (In P) (sized limit m)
  sized_in limit (one d) h = then_each (In P) (within limit d) (λ e. Ok (one e)) (λ e. tt)
  sized_in limit (stream ds) h = then_each (In P) (each shallow ds) (λ es. Ok (stream es)) (λ es. tt)
  sized_in limit (selection n kind ds) h = sized_rows_in limit n kind ds h
  sized_in limit (row n k d) h = tt
  sized_in limit (table n) h = h
  sized_in limit (grouped gs) h = then_each (In P) (each (sized_group limit) gs) (λ hs. Ok (grouped hs)) (λ hs. tt)
  sized_in limit (database name) h = tt
  sized_in limit callable h = tt

  on_groups_same : (f g : Meant → Answer Meant) → ((m : Meant) → In P m → f m ≡ g m) → (m : Meant) → In P m → on_groups f m ≡ on_groups g m
  on_groups_same f g s (grouped gs) h = λ i. each (λ x. s (one x.1) tt i >>= λ m. to_datum m >>= λ d. Ok (x.0, d)) gs >>= λ hs. Ok (grouped hs)
  on_groups_same f g s m h = s m h

  on_groups_in : (f : Meant → Answer Meant) → ((m : Meant) → In P m → Each (In P) (f m)) → (m : Meant) → In P m → Each (In P) (on_groups f m)
  on_groups_in f k (grouped gs) h = then_each (In P) (each (on_group f) gs) (λ hs. Ok (grouped hs)) (λ hs. tt)
  on_groups_in f k m h = k m h

  -- ---- applying a rule
  abbrev Applies : Application → Type 0
  Applies applied = (f g : List Given → Answer Meant) → ((hs : List Given) → InAll P hs → f hs ≡ g hs) → (gs : List Given) → InAll P gs → applied w.array_limit f gs ≡ applied v.array_limit g gs

  abbrev AppliesIn : Application → Type 0
  AppliesIn applied = (f : List Given → Answer Meant) → ((hs : List Given) → InAll P hs → Each (In P) (f hs)) → (gs : List Given) → InAll P gs → Each (In P) (applied w.array_limit f gs)

  once_same : Applies at_once
  once_same f g s gs h = λ i. s gs h i >>= sized (agree.limit i)

  once_in : AppliesIn at_once
  once_in f k gs h = then_each_if (In P) (In P) (f gs) (sized w.array_limit) (k gs h) (λ m p. sized_in w.array_limit m p)

  groups_same : Applies by_groups
  groups_same f g s [] h = once_same f g s [] h
  groups_same f g s (given m ∷ gs) h = on_groups_same (λ n. at_once w.array_limit f (given n ∷ gs)) (λ n. at_once v.array_limit g (given n ∷ gs)) (λ n p. once_same f g s (given n ∷ gs) (p, h.1)) m h.0
  groups_same f g s (callee o at ∷ gs) h = once_same f g s (callee o at ∷ gs) h
  groups_same f g s (directed down x ∷ gs) h = once_same f g s (directed down x ∷ gs) h
  groups_same f g s (late texted a ∷ gs) h = once_same f g s (late texted a ∷ gs) h

  groups_in : AppliesIn by_groups
  groups_in f k [] h = once_in f k [] h
  groups_in f k (given m ∷ gs) h = on_groups_in (λ n. at_once w.array_limit f (given n ∷ gs)) (λ n p. once_in f k (given n ∷ gs) (p, h.1)) m h.0
  groups_in f k (callee o at ∷ gs) h = once_in f k (callee o at ∷ gs) h
  groups_in f k (directed down x ∷ gs) h = once_in f k (directed down x ∷ gs) h
  groups_in f k (late texted a ∷ gs) h = once_in f k (late texted a ∷ gs) h

  module _ (us vs : Vars) where
    -- a sense gives the same over both, and no slot but these
    abbrev pub Alike : Sense → Type 0
    Alike (plain f) = (f w us ≡ f v vs) × Each (In P) (f w us)
    Alike (func o f) = (ds : List Plain) → (f w us ds ≡ f v vs ds) × Each (In P) (f w us ds)
    Alike (sorter down s) = Alike s
    Alike (raiser texted f) = (f w us ≡ f v vs) × Each (In P) (f w us)

    abbrev pub AllAlike : List Sense → Type 0
    AllAlike [] = Unit {0}
    AllAlike (s ∷ ss) = Alike s × AllAlike ss

    abbrev pub FieldsAlike : List (Bytes × Sense) → Type 0
    FieldsAlike [] = Unit {0}
    FieldsAlike (o ∷ os) = Alike o.1 × FieldsAlike os

    abbrev AlikeAt : Sense → Type 0
    AlikeAt s = (value s w us ≡ value s v vs) × Each (In P) (value s w us)

    pub value_alike : (s : Sense) → Alike s → AlikeAt s
    value_alike (plain f) h = h
    value_alike (func o f) h = (refl, tt)
    value_alike (sorter down s) h = (ap (λ a. a >>= λ m. Err misplaced_order) (value_alike s h).0, then_each (In P) (value s w us) (λ m. Err misplaced_order) (λ m. tt))
    value_alike (raiser texted f) h = h

    -- ---- arguments and options
    abbrev pub GivenAlike : (ℕ → Sense → World → Vars → Answer Given) → Type 0
    GivenAlike take = (at : ℕ) (s : Sense) → Alike s → (take at s w us ≡ take at s v vs) × Each (InGiven P) (take at s w us)

    value_given : (s : Sense) → Alike s → ((value s w us >>= λ m. Ok (given m)) ≡ (value s v vs >>= λ m. Ok (given m))) × Each (InGiven P) (value s w us >>= λ m. Ok (given m))
    value_given s h = (ap (λ a. a >>= λ m. Ok (given m)) (value_alike s h).0, then_each_if (In P) (InGiven P) (value s w us) (λ m. Ok (given m)) (value_alike s h).1 (λ m p. p))

    pub argument_alike : GivenAlike argument
    argument_alike at (func o f) h = (refl, tt)
    argument_alike at (plain f) h = value_given (plain f) h
    argument_alike at (sorter down s) h = value_given (sorter down s) h
    argument_alike at (raiser texted f) h = value_given (raiser texted f) h

    key_argument_alike : GivenAlike key_argument
    key_argument_alike at (sorter down s) h = (ap (λ a. a >>= λ g. Ok (directed down g)) (argument_alike at s h).0, then_each (InGiven P) (argument at s w us) (λ g. Ok (directed down g)) (λ g. tt))
    key_argument_alike at (func o f) h = argument_alike at (func o f) h
    key_argument_alike at (plain f) h = argument_alike at (plain f) h
    key_argument_alike at (raiser texted f) h = argument_alike at (raiser texted f) h

    abbrev pub AllGiven : Arguments → List Sense → Type 0
    AllGiven args ss = (args ss w us ≡ args ss v vs) × Each (InAll P) (args ss w us)

    joined_given : (a b : Answer Given) (xs ys : Answer (List Given)) → a ≡ b → Each (InGiven P) a → xs ≡ ys → Each (InAll P) xs
        → ((a >>= λ g. xs >>= λ gs. Ok (g ∷ gs)) ≡ (b >>= λ g. ys >>= λ gs. Ok (g ∷ gs))) × Each (InAll P) (a >>= λ g. xs >>= λ gs. Ok (g ∷ gs))
    joined_given a b xs ys e h es hs = (
      (λ i. e i >>= λ g. es i >>= λ gs. Ok (g ∷ gs)),
      then_each_if (InGiven P) (InAll P) a (λ g. xs >>= λ gs. Ok (g ∷ gs)) h (λ g p. then_each_if (InAll P) (InAll P) xs (λ gs. Ok (g ∷ gs)) hs (λ gs q. (p, q))),
    )

    pub arguments_alike : (take : ℕ → Sense → World → Vars → Answer Given) → GivenAlike take → (at : ℕ) (ss : List Sense) → AllAlike ss → AllGiven (arguments take at) ss
    arguments_alike take t at [] h = (refl, tt)
    arguments_alike take t at (s ∷ ss) h =
        let x = t at s h.0 in
        let xs = arguments_alike take t (suc at) ss h.1 in
        joined_given (take at s w us) (take at s v vs) (arguments take (suc at) ss w us) (arguments take (suc at) ss v vs) x.0 x.1 xs.0 xs.1

    key_arguments_alike : (ss : List Sense) → AllAlike ss → AllGiven key_arguments ss
    key_arguments_alike [] h = (refl, tt)
    key_arguments_alike (s ∷ ss) h =
        let x = argument_alike 0 s h.0 in
        let xs = arguments_alike key_argument key_argument_alike 1 ss h.1 in
        joined_given (argument 0 s w us) (argument 0 s v vs) (arguments key_argument 1 ss w us) (arguments key_argument 1 ss v vs) x.0 x.1 xs.0 xs.1

    pub options_alike : (take : Optional) → ((s : Sense) → Alike s → take s w us ≡ take s v vs) → (os : List (Bytes × Sense)) → FieldsAlike os → options take os w us ≡ options take os v vs
    options_alike take t [] h = refl
    options_alike take t (o ∷ os) h = λ i. t o.1 h.0 i >>= λ g. options_alike take t os h.1 i >>= λ gs. Ok ((o.0, g) ∷ gs)

    pub option_alike : (s : Sense) → Alike s → option s w us ≡ option s v vs
    option_alike s h = (value_given s h).0

    index_option_alike : (s : Sense) → Alike s → index_option s w us ≡ index_option s v vs
    index_option_alike (sorter down s) h = ap (λ a. a >>= λ g. Ok (directed down g)) (option_alike s h)
    index_option_alike (func o f) h = option_alike (func o f) h
    index_option_alike (plain f) h = option_alike (plain f) h
    index_option_alike (raiser texted f) h = option_alike (raiser texted f) h

    pub default_option_alike : (s : Sense) → Alike s → default_option s w us ≡ default_option s v vs
    default_option_alike (raiser texted f) h = ap (λ a. Ok (late texted a)) h.0
    default_option_alike (func o f) h = option_alike (func o f) h
    default_option_alike (plain f) h = option_alike (plain f) h
    default_option_alike (sorter down s) h = option_alike (sorter down s) h

    -- ---- functions
    call_alike : (s : Sense) → Alike s → (ds : List Plain) → (call_of s w us ds ≡ call_of s v vs ds) × Each (In P) (call_of s w us ds)
    call_alike (func o f) h ds = h ds
    call_alike (sorter down s) h ds = call_alike s h ds
    call_alike (plain f) h ds = (refl, tt)
    call_alike (raiser texted f) h ds = (refl, tt)

    pub calls_alike : (ss : List Sense) → AllAlike ss → (at : ℕ) (ds : List Plain) → (calls_of ss w us at ds ≡ calls_of ss v vs at ds) × Each (In P) (calls_of ss w us at ds)
    calls_alike [] h at ds = (refl, tt)
    calls_alike (s ∷ ss) h zero ds = call_alike s h.0 ds
    calls_alike (s ∷ ss) h (suc at) ds = calls_alike ss h.1 at ds

    taking_alike : (args : Arguments) (take : Optional) (applied : Application) (rule : Rule) (ss : List Sense) (os : List (Bytes × Sense)) → AllAlike ss → AllGiven args ss → options take os w us ≡ options take os v vs
        → Applies applied → AppliesIn applied → SameRule P w v agree rule → KeepsRule P w v agree rule → Alike (plain (taking args take applied rule ss os))
    taking_alike args take applied rule ss os all a o same keeps same_rule keeps_rule =
        let calls_in : CallsIn P (calls_of ss w us) = λ at ds. (calls_alike ss all at ds).1 in
        let calls_same : calls_of ss w us ≡ calls_of ss v vs = λ i at ds. (calls_alike ss all at ds).0 i in (
          both_same (InAll P) (args ss w us) (args ss v vs)
              (λ gs. options take os w us >>= λ opts. applied w.array_limit (λ hs. rule w (calls_of ss w us) hs opts) gs)
              (λ gs. options take os v vs >>= λ opts. applied v.array_limit (λ hs. rule v (calls_of ss v vs) hs opts) gs)
              a.0 a.1
              (λ gs p. both_same (λ x. Unit {0}) (options take os w us) (options take os v vs)
              (λ opts. applied w.array_limit (λ hs. rule w (calls_of ss w us) hs opts) gs)
              (λ opts. applied v.array_limit (λ hs. rule v (calls_of ss v vs) hs opts) gs)
              o (everything (options take os w us))
              (λ opts q. same (λ hs. rule w (calls_of ss w us) hs opts) (λ hs. rule v (calls_of ss v vs) hs opts)
              (λ hs r. same_rule (calls_of ss w us) hs opts calls_in r ∙ ap (λ c. rule v c hs opts) calls_same) gs p)),
          then_each_if (InAll P) (In P) (args ss w us) (λ gs. options take os w us >>= λ opts. applied w.array_limit (λ hs. rule w (calls_of ss w us) hs opts) gs) a.1
              (λ gs p. then_each (In P) (options take os w us) (λ opts. applied w.array_limit (λ hs. rule w (calls_of ss w us) hs opts) gs)
              (λ opts. keeps (λ hs. rule w (calls_of ss w us) hs opts) (λ hs r. keeps_rule (calls_of ss w us) hs opts calls_in r) gs p)),
        )

    -- ---- what evaluates only what it needs
    abbrev TailAlike : Tail → Type 0
    TailAlike f = (m : Meant) → In P m → (f w us m ≡ f v vs m) × Each (In P) (f w us m)

    value_then : (s : Sense) → Alike s → (f : Tail) → TailAlike f → ((value s w us >>= f w us) ≡ (value s v vs >>= f v vs)) × Each (In P) (value s w us >>= f w us)
    value_then s h f t =
        let x = value_alike s h in
        (both_same (In P) (value s w us) (value s v vs) (f w us) (f v vs) x.0 x.1 (λ m p. (t m p).0), then_each_if (In P) (In P) (value s w us) (f w us) x.1 (λ m p. (t m p).1))

    sized_tail : (f : Tail) → TailAlike f → (m : Meant) → In P m
        → (on_groups (λ n. f w us n >>= sized w.array_limit) m ≡ on_groups (λ n. f v vs n >>= sized v.array_limit) m) × Each (In P) (on_groups (λ n. f w us n >>= sized w.array_limit) m)
    sized_tail f t m h = (
      on_groups_same (λ n. f w us n >>= sized w.array_limit) (λ n. f v vs n >>= sized v.array_limit) (λ n p i. (t n p).0 i >>= sized (agree.limit i)) m h,
      on_groups_in (λ n. f w us n >>= sized w.array_limit) (λ n p. then_each_if (In P) (In P) (f w us n) (sized w.array_limit) (t n p).1 (λ k q. sized_in w.array_limit k q)) m h,
    )

    first_alike : (f : Tail) → TailAlike f → (s : Sense) → Alike s → Alike (plain (by_first f s))
    first_alike f t s h = value_then s h (λ u us m. on_groups (λ n. f u us n >>= sized u.array_limit) m) (sized_tail f t)

    chain_alike : (at : Bool) (ss : List Sense) → AllAlike ss → TailAlike (chain at ss)
    chain_alike at [] all m h = (refl, h)
    chain_alike at (s ∷ ss) all m h =
        let rest = value_then s all.0 (chain at ss) (chain_alike at ss all.1) in (
          (λ i. to_datum m >>= λ d. if stops at d then Ok m else rest.0 i),
          then_each (In P) (to_datum m) (λ d. if stops at d then Ok m else (value s w us >>= chain at ss w us)) (λ d. if_each (Each (In P)) (stops at d) (Ok m) (value s w us >>= chain at ss w us) h rest.1),
        )

    chained_alike : (at : Bool) (ss : List Sense) → AllAlike ss → Alike (plain (chained at ss))
    chained_alike at [] all = (refl, tt)
    chained_alike at (s ∷ ss) all = first_alike (chain at ss) (chain_alike at ss all.1) s all.0

    arm_alike : (t : Sense) (rest : World → Vars → Answer Meant) → Alike t → Alike (plain rest) → TailAlike (λ u us m. to_datum m >>= λ d. if truth d then value t u us else rest u us)
    arm_alike t rest h r m i =
        let x = value_alike t h in
        ((λ j. to_datum m >>= λ d. if truth d then x.0 j else r.0 j), then_each (In P) (to_datum m) (λ d. if truth d then value t w us else rest w us) (λ d. if_each (Each (In P)) (truth d) (value t w us) (rest w us) x.1 r.1))

    branches_alike : (ss : List Sense) → AllAlike ss → Alike (plain (branches ss))
    branches_alike [] all = (refl, tt)
    branches_alike (s ∷ []) all = value_alike s all.0
    branches_alike (s ∷ t ∷ ss) all = value_then s all.0 (branch_on (t ∷ ss)) (arm_alike t (branches ss) all.1.0 (branches_alike ss all.1.1))

    branch_on_alike : (ss : List Sense) → AllAlike ss → TailAlike (branch_on ss)
    branch_on_alike [] all m h = (refl, tt)
    branch_on_alike (t ∷ ss) all m h = arm_alike t (branches ss) all.0 (branches_alike ss all.1) m h

    branch_alike : (ss : List Sense) → AllAlike ss → Alike (plain (branch ss))
    branch_alike [] all = (refl, tt)
    branch_alike (s ∷ ss) all = first_alike (branch_on ss) (branch_on_alike ss all.1) s all.0

    told_alike : (s : Sense) → Alike s → (d : Plain) → (told s w us d ≡ told s v vs d) × Each (In P) (told s w us d)
    told_alike (func o f) h d = h (d ∷ [])
    told_alike (plain f) h d = value_alike (plain f) h
    told_alike (sorter down s) h d = value_alike (sorter down s) h
    told_alike (raiser texted f) h d = value_alike (raiser texted f) h

    caught_in : (a b : Answer Meant) → Each (In P) a → Each (In P) b → Each (In P) (or_caught a b)
    caught_in a (Ok m) h g = g
    caught_in a (Err no_text) h g = h
    caught_in a (Err (query_logic s)) h g = tt
    caught_in a (Err (non_existence s)) h g = tt
    caught_in a (Err (resource_limit s)) h g = tt
    caught_in a (Err (op_failed s)) h g = tt
    caught_in a (Err (user s)) h g = tt

    unless_alike : (s : Sense) → Alike s → TailAlike (unless_nothing s)
    unless_alike s h m p =
        let x = told_alike s h null in (
          (λ i. if is_nothing m then or_caught (Ok (one null)) (x.0 i) else Ok m),
          if_each (Each (In P)) (is_nothing m) (or_caught (Ok (one null)) (told s w us null)) (Ok m) (caught_in (Ok (one null)) (told s w us null) tt x.1) p,
        )

    default_to_alike : (s : Sense) → Alike s → (a : Answer Meant) → Each (In P) a → (default_to s w us a ≡ default_to s v vs a) × Each (In P) (default_to s w us a)
    default_to_alike s h (Ok m) p = sized_tail (unless_nothing s) (unless_alike s h) m p
    default_to_alike s h (Err (non_existence why)) p =
        let x = told_alike s h (text why) in (
          (λ i. or_caught (Err (non_existence why)) (x.0 i) >>= sized (agree.limit i)),
          then_each_if (In P) (In P) (or_caught (Err (non_existence why)) (told s w us (text why))) (sized w.array_limit)
              (caught_in (Err (non_existence why)) (told s w us (text why)) tt x.1) (λ m q. sized_in w.array_limit m q),
        )
    default_to_alike s h (Err (query_logic e)) p = (refl, tt)
    default_to_alike s h (Err (resource_limit e)) p = (refl, tt)
    default_to_alike s h (Err (op_failed e)) p = (refl, tt)
    default_to_alike s h (Err (user e)) p = (refl, tt)
    default_to_alike s h (Err no_text) p = (refl, tt)

    default_alike : (ss : List Sense) → AllAlike ss → Alike (plain (default ss))
    default_alike (s ∷ t ∷ []) all =
        let x = value_alike s all.0 in
        let y = default_to_alike t all.1.0 (value s w us) x.1 in
        (y.0 ∙ ap (default_to t v vs) x.0, y.1)
    default_alike [] all = (refl, tt)
    default_alike (s ∷ []) all = (refl, tt)
    default_alike (s ∷ t ∷ u ∷ ss) all = (refl, tt)

    -- ---- terms
    object_alike : (os : List (Bytes × Sense)) → FieldsAlike os → Alike (plain (make_object os))
    object_alike os h = (
      (λ i. options_alike option option_alike os h i >>= λ gs. each member_datum gs >>= λ ms. sized (agree.limit i) (one (object_of ms))),
      then_each (In P) (options option os w us) (λ gs. each member_datum gs >>= λ ms. sized w.array_limit (one (object_of ms)))
          (λ gs. then_each (In P) (each member_datum gs) (λ ms. sized w.array_limit (one (object_of ms))) (λ ms. sized_in w.array_limit (one (object_of ms)) tt)),
    )

    bound_alike : (find : Vars → Answer Plain) → find us ≡ find vs → Alike (plain (bound find))
    bound_alike find e = ((λ i. e i >>= λ d. sized (agree.limit i) (one d)), then_each (In P) (find us) (λ d. sized w.array_limit (one d)) (λ d. sized_in w.array_limit (one d) tt))

    table_alike : (n : ℕ) → P n → Alike (plain (table_of n))
    table_alike n h = ((λ i. agree.views n h i >>= λ t. Ok (table n)), then_each (In P) (view_at w n) (λ t. Ok (table n)) (λ t. h))

    ordered_alike : (down : Bool) (ss : List Sense) → AllAlike ss → Alike (ordered down ss)
    ordered_alike down [] all = (refl, tt)
    ordered_alike down (s ∷ ss) all = all.0

    strict_alike : (rule : Rule) → SameRule P w v agree rule → KeepsRule P w v agree rule → (ss : List Sense) (os : List (Bytes × Sense)) → AllAlike ss → FieldsAlike os → Alike (plain (taking (arguments argument 0) option by_groups rule ss os))
    strict_alike rule s k ss os all fields = taking_alike (arguments argument 0) option by_groups rule ss os all (arguments_alike argument argument_alike 0 ss all) (options_alike option option_alike os fields) groups_same groups_in s k

    by_way : (x : Way) (rule : Rule) → SameRule P w v agree rule → KeepsRule P w v agree rule → (ss : List Sense) (os : List (Bytes × Sense)) → AllAlike ss → FieldsAlike os → Alike (sense_by x rule ss os)
    by_way way.Strict rule s k ss os all fields = strict_alike rule s k ss os all fields
    by_way way.Sorting rule s k ss os all fields = taking_alike key_arguments index_option by_groups rule ss os all (key_arguments_alike ss all) (options_alike index_option index_option_alike os fields) groups_same groups_in s k
    by_way way.Filtering rule s k ss os all fields = taking_alike (arguments argument 0) default_option by_groups rule ss os all (arguments_alike argument argument_alike 0 ss all) (options_alike default_option default_option_alike os fields) groups_same groups_in s k
    by_way way.Whole rule s k ss os all fields = taking_alike (arguments argument 0) option at_once rule ss os all (arguments_alike argument argument_alike 0 ss all) (options_alike option option_alike os fields) once_same once_in s k
    by_way way.UntilTrue rule s k ss os all fields = chained_alike true ss all
    by_way way.UntilFalse rule s k ss os all fields = chained_alike false ss all
    by_way way.Branching rule s k ss os all fields = branch_alike ss all
    by_way way.Defaulting rule s k ss os all fields = default_alike ss all
    by_way way.Rising rule s k ss os all fields = ordered_alike false ss all
    by_way way.Falling rule s k ss os all fields = ordered_alike true ss all
    by_way way.Raising rule s k ss os all fields = strict_alike rule s k ss os all fields

    operation_alike : (o : Op) (ss : List Sense) (os : List (Bytes × Sense)) → AllAlike ss → FieldsAlike os → Alike (sense_of o ss os)
    operation_alike o ss os all fields = if_each Alike (is_fit o ss os) (sense_by (way_of o) (rule_of o) ss os) (plain (λ u xs. Err misplaced)) (by_way (way_of o) (rule_of o) (rule_same P w v agree o) (rule_in P w v agree o) ss os all fields) (refl, tt)

-- ---- bound variables
abbrev pub VarsAlike : List (List ℕ) → Vars → Vars → Type 0
VarsAlike scope us vs = ((id : ℕ) → is_bound scope id ≡ true → variable_at id us ≡ variable_at id vs) × (has_single scope ≡ true → implicit_at us ≡ implicit_at vs)

pub nothing_bound : (us vs : Vars) → VarsAlike [] us vs
nothing_bound us vs = ((λ id e. not_both e), λ e. not_both e)

frame_step : (b : Bool) (d : Plain) (f : Option Plain) (x y : Answer Plain) → (b ≡ false → or_further f x ≡ or_further f y) → or_further (if b then Some d else f) x ≡ or_further (if b then Some d else f) y
frame_step true d f x y h = refl
frame_step false d f x y h = h refl

rest_any : (b c : Bool) → b ≡ false → (b || c) ≡ true → c ≡ true
rest_any true c e h = absurd (let f : true ≡ false = e in cc)
rest_any false c e h = h

in_frame_same : (id : ℕ) (ids : List ℕ) (ds : List Plain) → length ids ≡ length ds → list_any (nat_eq id) ids ≡ true → (x y : Answer Plain) → or_further (in_frame id (zip ids ds)) x ≡ or_further (in_frame id (zip ids ds)) y
in_frame_same id [] ds e h x y = not_both h
in_frame_same id (k ∷ ks) [] e h x y = absurd (omega (arith, e))
in_frame_same id (k ∷ ks) (d ∷ ds) e h x y = frame_step (nat_eq id k) d (in_frame id (zip ks ds)) x y (λ no. in_frame_same id ks ds (omega (arith, e)) (rest_any (nat_eq id k) (list_any (nat_eq id) ks) no h) x y)

only_same : (ids : List ℕ) (ds : List Plain) → length ids ≡ length ds → is_single ids ≡ true → (x y : Answer Plain) → or_further (only (zip ids ds)) x ≡ or_further (only (zip ids ds)) y
only_same [] ds e h x y = not_both h
only_same (k ∷ []) [] e h x y = absurd (omega (arith, e))
only_same (k ∷ []) (d ∷ []) e h x y = refl
only_same (k ∷ []) (d ∷ c ∷ ds) e h x y = absurd (omega (arith, e))
only_same (k ∷ l ∷ ks) ds e h x y = not_both h

bound_same : (b c : Bool) (f : Option Plain) (x y : Answer Plain) → (b || c) ≡ true → (b ≡ true → or_further f x ≡ or_further f y) → (c ≡ true → x ≡ y) → or_further f x ≡ or_further f y
bound_same true c f x y h here further = here refl
bound_same false c f x y h here further = ap (or_further f) (further h)

inside : (ids : List ℕ) (ds : List Plain) (scope : List (List ℕ)) (us vs : Vars) → length ids ≡ length ds → VarsAlike scope us vs → VarsAlike (ids ∷ scope) (zip ids ds ∷ us) (zip ids ds ∷ vs)
inside ids ds scope us vs e h = (
  (λ id b. bound_same (list_any (nat_eq id) ids) (is_bound scope id) (in_frame id (zip ids ds)) (variable_at id us) (variable_at id vs) b (λ here. in_frame_same id ids ds e here (variable_at id us) (variable_at id vs)) (h.0 id)),
  λ b. bound_same (is_single ids) (has_single scope) (only (zip ids ds)) (implicit_at us) (implicit_at vs) b (λ here. only_same ids ds e here (implicit_at us) (implicit_at vs)) h.1,
)

module _ (P : ℕ → Type 0) (w v : World) (agree : Agree P w v) where
  body_alike : (ids : List ℕ) (ds : List Plain) (us vs : Vars) (body : Sense) (b : Bool) → (b ≡ true → Alike P w v agree (zip ids ds ∷ us) (zip ids ds ∷ vs) body)
      → (((if b then Ok (zip ids ds ∷ us) else Err (wrong_count (length ids) (length ds))) >>= λ inner. value body w inner) ≡ ((if b then Ok (zip ids ds ∷ vs) else Err (wrong_count (length ids) (length ds))) >>= λ inner. value body v inner))
      × Each (In P) ((if b then Ok (zip ids ds ∷ us) else Err (wrong_count (length ids) (length ds))) >>= λ inner. value body w inner)
  body_alike ids ds us vs body true h = value_alike P w v agree (zip ids ds ∷ us) (zip ids ds ∷ vs) body (h refl)
  body_alike ids ds us vs body false h = (refl, tt)

  mutual
    alike : (f : Form) (scope : List (List ℕ)) → Names P scope f → (us vs : Vars) → VarsAlike scope us vs → Alike P w v agree us vs (sense f)
    alike (literal d) scope h us vs e = (refl, tt)
    alike (several fs) scope h us vs e = strict_alike P w v agree us vs (array make_array) (λ calls gs opts k g. refl) (giving_in P w v agree (λ ds. one (array_of ds)) make_array (λ ds. tt)) (form_senses fs) [] (all_alike fs scope h us vs e) tt
    alike (keyed ms) scope h us vs e = object_alike P w v agree us vs (named_senses ms) (fields_alike ms scope h us vs e)
    alike (variable id) scope h us vs e = bound_alike P w v agree us vs (variable_at id) (e.0 id h)
    alike implicit scope h us vs e = bound_alike P w v agree us vs implicit_at (e.1 h)
    alike (function ids body) scope h us vs e = λ ds. body_alike ids ds us vs (sense body) (nat_eq (length ids) (length ds)) (λ b. alike body (ids ∷ scope) h (zip ids ds ∷ us) (zip ids ds ∷ vs) (inside ids ds scope us vs (equal (length ids) (length ds) b) e))
    alike (slot n) scope h us vs e = table_alike P w v agree us vs n h
    alike (operation o fs ms) scope h us vs e = operation_alike P w v agree us vs o (form_senses fs) (named_senses ms) (all_alike fs scope h.0 us vs e) (fields_alike ms scope h.1 us vs e)

    pub all_alike : (fs : Forms) (scope : List (List ℕ)) → AllName P scope fs → (us vs : Vars) → VarsAlike scope us vs → AllAlike P w v agree us vs (form_senses fs)
    all_alike no_forms scope h us vs e = tt
    all_alike (form f fs) scope h us vs e = (alike f scope h.0 us vs e, all_alike fs scope h.1 us vs e)

    pub fields_alike : (ms : NamedForms) (scope : List (List ℕ)) → FieldsName P scope ms → (us vs : Vars) → VarsAlike scope us vs → FieldsAlike P w v agree us vs (named_senses ms)
    fields_alike no_named scope h us vs e = tt
    fields_alike (named k f ms) scope h us vs e = (alike f scope h.0 us vs e, fields_alike ms scope h.1 us vs e)

  applied_same : (s : Sense) → Alike P w v agree [] [] s → (ds : List Plain) → applied s w ds ≡ applied s v ds
  applied_same (func o f) h ds = (h ds).0
  applied_same (plain f) h ds = h.0
  applied_same (sorter down s) h ds = (value_alike P w v agree [] [] (sorter down s) h).0
  applied_same (raiser texted f) h ds = h.0

pub values_depend : ValuesDependOnNames
values_depend slots f h w v agree us vs = ap settled (value_alike (Among slots) w v agree us vs (sense f) (alike (Among slots) w v agree f [] h us vs (nothing_bound us vs))).0

pub functions_depend : FunctionsDependOnNames
functions_depend slots f h w v agree ds = ap settled (applied_same (Among slots) w v agree (sense f) (alike (Among slots) w v agree f [] h [] [] (nothing_bound [] [])) ds)
