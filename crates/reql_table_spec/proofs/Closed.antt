-- A term that names no table and no variable from outside has one value in all worlds of the same limit and databases, whatever is bound around it.
use Rattle.std.proofs.Common.{◌≡◌, ℕ, [], ◌∷◌, Bool, true, false, cond, ◌&&◌, if◌then◌else◌, Option, Some, Ok, Err, refl, sym, ap, ◌∙◌, subst}
use Rattle.std.specs.List.{list_all}
use Rattle.std.specs.Ordering.{is_eq}
use Rattle.reql_datum.specs.Answer.{Answer, ◌>>=◌, Reason, query_logic, non_existence, resource_limit, op_failed, user, no_text}
use Rattle.reql_datum.specs.Kinds.{type_name}
use Rattle.reql_datum.specs.Members.{find, text_order}
use Rattle.reql_datum.specs.Plain.{Plain, low, array, boolean, null, number, object, binary, time, text, high}
use Rattle.reql_rules.specs.Faults.{misplaced, not_a_key}
use Rattle.reql_rules.specs.Lists.{Bytes}
use Rattle.reql_term.specs.Form.{Form, literal, several, keyed, variable, implicit, function, slot, operation, no_forms, form, NamedForms, no_named, named}
use Rattle.reql_term.specs.Table.{takes}
use Rattle.reql_term.specs.declared.op.Op.{Op}
use Rattle.reql_value_spec.specs.Depends.{AllName, Agree}
use Rattle.reql_value_spec.specs.Meaning.{value, settled, sense, named_senses}
use Rattle.reql_value_spec.specs.Meant.{Meant, one, callable, Given, given, Options}
use Rattle.reql_value_spec.specs.Sense as senses
use Rattle.reql_value_spec.specs.Sense.{Sense, plain, func, sorter, raiser, argument, option}
use Rattle.reql_value_spec.specs.Shapes.{NoSlot}
use Rattle.reql_value_spec.specs.Tables.{key_if}
use Rattle.reql_value_spec.specs.Wanted.{to_datum, text_given}
use Rattle.reql_value_spec.specs.World.{World, Vars, bare_world}
use Rattle.reql_value_spec.proofs.Depends.{Alike, all_alike, value_alike, nothing_bound}
use Rattle.reql_feed_spec.specs.Kept.{is_free}
use Rattle.reql_feed_spec.proofs.Keeping.{names_free}
use Rattle.reql_table_spec.specs.Followed.{closed_value, closed_options, options, literal_name, literal_index}

-- ---- what gave a value had one at each step
module _ {A B : Type 0} where
  pub then_ok : (a : Answer A) (f : A → Answer B) (b : B) → (a >>= f) ≡ Ok b → (x : A) × (a ≡ Ok x) × (f x ≡ Ok b)
  then_ok (Ok x) f b h = (x, refl, h)
  then_ok (Err e) f b h = absurd (cc (h))

module _ {A : Type 0} where
  pub if_ok : (b : Bool) (a : Answer A) (e : Reason) (x : A) → (if b then a else Err e) ≡ Ok x → (b ≡ true) × (a ≡ Ok x)
  if_ok true a e x h = (refl, h)
  if_ok false a e x h = absurd (cc (h))

  abbrev pub good : A → Answer A
  good x = Ok x

  pub same_ok : (x y : A) → good x ≡ good y → x ≡ y
  same_ok x y h = cc

settled_ok : (a : Answer Meant) (m : Meant) → settled a ≡ Ok m → a ≡ Ok m
settled_ok (Ok n) m h = h
settled_ok (Err no_text) m h = absurd (cc (h))
settled_ok (Err (query_logic s)) m h = h
settled_ok (Err (non_existence s)) m h = h
settled_ok (Err (resource_limit s)) m h = h
settled_ok (Err (op_failed s)) m h = h
settled_ok (Err (user s)) m h = h

-- ---- worlds with the limit and the databases of the bare one
abbrev pub IsLikeBare : World → Type 0
IsLikeBare w = Agree NoSlot bare_world w

pub like_bare : (w : World) → bare_world.array_limit ≡ w.array_limit → bare_world.databases ≡ w.databases → IsLikeBare w
like_bare w limit databases = record { limit = limit; databases = databases; views = λ n h. absurd h }

value_everywhere : (f : Form) → is_free [] f ≡ true → (m : Meant) → value f bare_world [] ≡ Ok m → (w : World) → IsLikeBare w → (vs : Vars) → senses.value (sense f) w vs ≡ Ok m
value_everywhere f free m is w like vs =
    let names : AllName NoSlot [] (form f no_forms) = (names_free [] f free, tt) in
    let alike : Alike NoSlot bare_world w like [] vs (sense f) = (all_alike NoSlot bare_world w like (form f no_forms) [] names [] vs (nothing_bound [] vs)).0 in
    sym (value_alike NoSlot bare_world w like [] vs (sense f) alike).0 ∙ settled_ok (senses.value (sense f) bare_world []) m is

-- a function is no datum
as_argument : (at : ℕ) (s : Sense) (w : World) (vs : Vars) (m : Meant) (d : Plain) → senses.value s w vs ≡ Ok m → to_datum m ≡ Ok d → argument at s w vs ≡ Ok (given m)
as_argument at (plain f) w vs m d is datum = ap (λ a. a >>= λ n. Ok (given n)) is
as_argument at (sorter down s) w vs m d is datum = ap (λ a. a >>= λ n. Ok (given n)) is
as_argument at (raiser texted f) w vs m d is datum = ap (λ a. a >>= λ n. Ok (given n)) is
as_argument at (func o f) w vs m d is datum =
    let h : to_datum callable ≡ Ok d = subst (λ n. to_datum n ≡ Ok d) (sym (same_ok callable m is)) datum in
    absurd (cc (h))

-- a closed argument gives this datum
pub record ClosedArgument (f : Form) (d : Plain) : Type 0 where
  pub meant : Meant
  pub is : (at : ℕ) (w : World) → IsLikeBare w → (vs : Vars) → argument at (sense f) w vs ≡ Ok (given meant)
  pub datum : to_datum meant ≡ Ok d

pub closed_argument : (f : Form) (d : Plain) → closed_value f ≡ Ok d → ClosedArgument f d
closed_argument f d h =
    let b = if_ok (is_free [] f) (value f bare_world [] >>= to_datum) misplaced d h in
    let v = then_ok (value f bare_world []) to_datum d b.1 in
    record { meant = v.0; is = λ at w like vs. as_argument at (sense f) w vs v.0 d (value_everywhere f b.0 v.0 v.1 w like vs) v.2; datum = v.2 }

-- with a test on it
pub closed_key : (test : Plain → Bool) (f : Form) (key : Plain) → (closed_value f >>= key_if test) ≡ Ok key → ClosedArgument f key × (test key ≡ true)
closed_key test f key h =
    let v = then_ok (closed_value f) (key_if test) key h in
    let b = if_ok (test v.0) (Ok v.0) (not_a_key (type_name v.0)) key v.2 in
    let e = same_ok v.0 key b.1 in
    (subst (ClosedArgument f) e (closed_argument f v.0 v.1), subst (λ d. test d ≡ true) e b.0)

-- ---- literals
text_is : (d : Plain) (s : Bytes) → literal_name (literal d) ≡ Ok s → d ≡ text s
text_is (text t) s h = ap text (same_ok t s h)
text_is low s h = absurd (cc (h))
text_is (array vs) s h = absurd (cc (h))
text_is (boolean b) s h = absurd (cc (h))
text_is null s h = absurd (cc (h))
text_is (number n) s h = absurd (cc (h))
text_is (object ms) s h = absurd (cc (h))
text_is (binary bs) s h = absurd (cc (h))
text_is (time t) s h = absurd (cc (h))
text_is high s h = absurd (cc (h))

pub name_is : (f : Form) (s : Bytes) → literal_name f ≡ Ok s → f ≡ literal (text s)
name_is (literal d) s h = ap literal (text_is d s h)
name_is (several fs) s h = absurd (cc (h))
name_is (keyed ms) s h = absurd (cc (h))
name_is (variable id) s h = absurd (cc (h))
name_is implicit s h = absurd (cc (h))
name_is (function ids body) s h = absurd (cc (h))
name_is (slot n) s h = absurd (cc (h))
name_is (operation o fs ms) s h = absurd (cc (h))

-- ---- options
abbrev first_option : Form → Answer Meant
first_option f = if is_free [] f then value f bare_world [] else Err misplaced

-- the options after the first one
abbrev ClosedOptions : Bytes → Form → NamedForms → Options → Type 0
ClosedOptions k f ms os = (m : Meant) × (is_free [] f ≡ true) × (value f bare_world [] ≡ Ok m) × ((rest : Options) × (closed_options (options ms) ≡ Ok rest) × ((k, given m) ∷ rest ≡ os))

option_split : (k : Bytes) (f : Form) (ms : NamedForms) (os : Options) → closed_options (options (named k f ms)) ≡ Ok os → ClosedOptions k f ms os
option_split k f ms os h =
    let v = then_ok (first_option f) (λ d. closed_options (options ms) >>= λ rest. Ok ((k, given d) ∷ rest)) os h in
    let b = if_ok (is_free [] f) (value f bare_world []) misplaced v.0 v.1 in
    let r = then_ok (closed_options (options ms)) (λ rest. Ok ((k, given v.0) ∷ rest)) os v.2 in
    (v.0, b.0, b.1, (r.0, r.1, same_ok ((k, given v.0) ∷ r.0) os r.2))

pub closed_given : (ms : NamedForms) (os : Options) → closed_options (options ms) ≡ Ok os → (w : World) → IsLikeBare w → (vs : Vars) → senses.options option (named_senses ms) w vs ≡ Ok os
closed_given no_named os h w like vs = h
closed_given (named k f ms) os h w like vs =
    let p = option_split k f ms os h in
    rw (value_everywhere f p.1 p.0 p.2 w like vs) (rw (closed_given ms p.3.0 p.3.1 w like vs) (ap (λ x. Ok x) p.3.2))

-- ---- an index that is named by a literal text is the text that the option gives
text_found : (name : Bytes) (f : Form) (g : Given) (index : Option Bytes) (w : World) → literal_index (Some f) ≡ Ok index → option (sense f) w [] ≡ Ok g → text_given name (Some g) ≡ Ok index
text_found name f g index w h is =
    let n = then_ok (literal_name f) (λ s. Ok (Some s)) index h in
    let v : option (sense (literal (text n.0))) w [] ≡ Ok g = subst (λ e. option (sense e) w [] ≡ Ok g) (name_is f n.0 n.1) is in
    subst (λ x. text_given name (Some x) ≡ Ok index) (same_ok (given (one (text n.0))) g v) n.2

found_step : (b : Bool) (name : Bytes) (f : Form) (g : Given) (index : Option Bytes) (later : Option Form) (found : Option Given) (w : World) → literal_index (cond b (Some f) later) ≡ Ok index → option (sense f) w [] ≡ Ok g
    → (literal_index later ≡ Ok index → text_given name found ≡ Ok index) → text_given name (cond b (Some g) found) ≡ Ok index
found_step true name f g index later found w h is rest = text_found name f g index w h is
found_step false name f g index later found w h is rest = rest h

pub text_named : (name : Bytes) (ms : NamedForms) (index : Option Bytes) (os : Options) (w : World) → literal_index (find name (options ms)) ≡ Ok index → senses.options option (named_senses ms) w [] ≡ Ok os → text_given name (find name os) ≡ Ok index
text_named name no_named index os w h is = subst (λ x. text_given name (find name x) ≡ Ok index) (same_ok [] os is) h
text_named name (named k f ms) index os w h is =
    let g = then_ok (option (sense f) w []) (λ g. senses.options option (named_senses ms) w [] >>= λ gs. Ok ((k, g) ∷ gs)) os is in
    let r = then_ok (senses.options option (named_senses ms) w []) (λ gs. Ok ((k, g.0) ∷ gs)) os g.2 in
    subst (λ x. text_given name (find name x) ≡ Ok index) (same_ok ((k, g.0) ∷ r.0) os r.2)
    (found_step (is_eq (text_order name k)) name f g.0 index (find name (options ms)) (find name r.0) w h g.1 (λ later. text_named name ms index r.0 w later r.1))

pub same_takes : (o : Op) (ms : NamedForms) → list_all (λ (x : Bytes × Sense). takes o x.0) (named_senses ms) ≡ list_all (λ (m : Bytes × Form). takes o m.0) (options ms)
same_takes o no_named = refl
same_takes o (named k f ms) = ap (λ b. takes o k && b) (same_takes o ms)
