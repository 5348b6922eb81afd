-- What is read of a term of a number by its kind, step by step.
use Rattle.std.proofs.Common.{◌≡◌, ℕ, suc, ◌-◌, ◌<◌, ◌≤◌, List, [], ◌∷◌, length, get_or, take, drop, Result, Ok, Err, refl, sym, ap, subst, ◌∙◌, arith}
use Rattle.std.proofs.lemmas.List.{take_all}
use Rattle.serde_json.specs.Data.{Data, Items, no_items, item, Members}
use Rattle.serde_json.specs.View.{view, items_view}
use Rattle.serde_json.specs.declared.value.Value.{Value}
use Rattle.reql_datum.specs.Answer.{◌>>=◌}
use Rattle.reql_term.specs.Form.{Form, several, operation, forms_of, named_of}
use Rattle.reql_term.specs.Form as form
use Rattle.reql_term.specs.View.{form_of}
use Rattle.reql_term.specs.declared.op.Op.{Op}
use Rattle.reql_term.specs.declared.op.Op.TheVariants as op
use Rattle.reql_term.specs.declared.term.Term.{Term}
use Rattle.reql_read.specs.Apart.{parts_in, items_count, names_in, ids_in, ReadsKind, ReadsCall}
use Rattle.reql_read.specs.Outcome.{Understands}
use Rattle.reql_read.specs.Reading.{read, read_all, read_named, all_taken, checked}
use Rattle.reql_read.specs.Shape.{number_in, kind_of, term_of, shaped, shaped_term, shaped_all, shaped_named}
use Rattle.reql_read.specs.Written.{Names, Written, variable, function, call, Parts, part, NamedParts, count_of, names_of}
use Rattle.reql_read.specs.declared.fault.ReadFault.{ReadFault}
use Rattle.reql_read.specs.declared.shape.Kind.TheVariants as kind
use Rattle.reql_read.proofs.Shapes.{all_step, none_all, names_same, counts_same, id_same, ids_same, taken, whole_parts}
use Rattle.reql_read.proofs.Weights.{count_seen}
use Rattle.reql_read.proofs.Understood.{then_done, then_failed}

-- ---- slices of no, one or two items

abbrev pub rest : List Value → List Value
rest vs = take (length vs - 1) (drop 1 vs)

rest_is : (v : Value) (vs : List Value) → rest (v ∷ vs) ≡ vs
rest_is v vs = let e : suc (length vs) - 1 ≡ length vs = omega arith in ap (λ n. take n vs) e ∙ take_all (length vs) vs (omega arith)

pub len_rest : (vs : List Value) → length (rest vs) ≡ length vs - 1
len_rest [] = omega arith
len_rest (v ∷ vs) = ap length (rest_is v vs) ∙ omega arith

pub no_item : (vs : List Value) → length vs ≤ 0 → items_view vs ≡ no_items
no_item [] h = refl
no_item (v ∷ vs) h = absurd (omega arith)

pub one_item : (vs : List Value) (v : Value) → 1 ≤ length vs → length (rest vs) < 1 → v ≡ get_or vs 0 v → items_view vs ≡ item (view v) no_items
one_item [] v some none is = absurd (omega arith)
one_item (x ∷ []) v some none is = ap (λ u. item (view u) no_items) (sym is)
one_item (x ∷ y ∷ ys) v some none is = absurd (let e = ap length (rest_is x (y ∷ ys)) in omega (arith, e))

pub two_items : (vs : List Value) (v w : Value) → 1 ≤ length vs → 1 ≤ length (rest vs) → length (rest (rest vs)) < 1 → v ≡ get_or vs 0 v → w ≡ get_or (rest vs) 0 w → items_view vs ≡ item (view v) (item (view w) no_items)
two_items [] v w some more none is also = absurd (omega arith)
two_items (x ∷ []) v w some more none is also = absurd (let e = ap length (rest_is x []) in omega (arith, e))
two_items (x ∷ y ∷ []) v w some more none is also =
    let y_is : w ≡ y = also ∙ ap (λ vs. get_or vs 0 w) (rest_is x (y ∷ [])) in
    ap (λ u. item (view u) (item (view y) no_items)) (sym is) ∙ ap (λ u. item (view v) (item (view u) no_items)) (sym y_is)
two_items (x ∷ y ∷ z ∷ zs) v w some more none is also = absurd (let e = ap length (ap rest (rest_is x (y ∷ z ∷ zs)) ∙ rest_is y (z ∷ zs)) in omega (arith, e))

-- ---- an array

pub array_fails : (n : ℕ) (ds : Items) (ms : Members) (args : Parts) (opts : NamedParts) (e : ReadFault) → shaped_named ms ≡ Ok opts → all_taken op.MakeArray (names_in ms) ≡ Err e → (term_of kind.Array n args ms opts >>= read) ≡ Err e
array_fails n ds ms args opts e named h = then_failed (all_taken op.MakeArray (names_of opts)) e _ (ap (all_taken op.MakeArray) (names_same ms opts named) ∙ h)

-- ---- a row

pub row_fails : (n : ℕ) (ms : Members) (args : Parts) (opts : NamedParts) (e : ReadFault) → shaped_all no_items ≡ Ok args → shaped_named ms ≡ Ok opts → all_taken op.ImplicitVar (names_in ms) ≡ Err e → (term_of kind.Row n args ms opts >>= read) ≡ Err e
row_fails n ms args opts e all named h =
    ap (λ ws. term_of kind.Row n ws ms opts >>= read) (none_all args all) ∙ then_failed (all_taken op.ImplicitVar (names_of opts)) e _ (ap (all_taken op.ImplicitVar) (names_same ms opts named) ∙ h)

-- ---- a variable

reassoc : {A B C : Type 0} (r : Result A ReadFault) (f : A → Result B ReadFault) (g : B → Result C ReadFault) → ((r >>= f) >>= g) ≡ (r >>= λ x. f x >>= g)
reassoc (Ok x) f g = refl
reassoc (Err e) f g = refl

variable_is : (n : ℕ) (d : Data) (ms : Members) (args : Parts) (opts : NamedParts) → shaped_all (item d no_items) ≡ Ok args → (term_of kind.Variable n args ms opts >>= read) ≡ (number_in d >>= λ id. all_taken op.Var (names_of opts) >>= λ t. Ok (form.variable id))
variable_is n d ms args opts all =
    let a = all_step d no_items args all in
    ap (λ ws. term_of kind.Variable n ws ms opts >>= read) (a.4 ∙ ap (part a.0) (none_all a.1 a.3)) ∙ ap (λ r. (r >>= λ k. Ok (variable k (names_of opts))) >>= read) (id_same d a.0 a.2) ∙ reassoc (number_in d) _ _

pub variable_id_fails : (n : ℕ) (d : Data) (ms : Members) (args : Parts) (opts : NamedParts) (e : ReadFault) → shaped_all (item d no_items) ≡ Ok args → number_in d ≡ Err e → (term_of kind.Variable n args ms opts >>= read) ≡ Err e
variable_id_fails n d ms args opts e all h = variable_is n d ms args opts all ∙ then_failed (number_in d) e _ h

pub variable_fails : (n : ℕ) (d : Data) (ms : Members) (args : Parts) (opts : NamedParts) (id : ℕ) (e : ReadFault) → shaped_all (item d no_items) ≡ Ok args → shaped_named ms ≡ Ok opts → number_in d ≡ Ok id → all_taken op.Var (names_in ms) ≡ Err e → (term_of kind.Variable n args ms opts >>= read) ≡ Err e
variable_fails n d ms args opts id e all named is h =
    variable_is n d ms args opts all ∙ then_done (number_in d) id _ is ∙ then_failed (all_taken op.Var (names_of opts)) e _ (ap (all_taken op.Var) (names_same ms opts named) ∙ h)

pub variable_read : (n : ℕ) (d : Data) (ms : Members) (args : Parts) (opts : NamedParts) (id : ℕ) → shaped_all (item d no_items) ≡ Ok args → shaped_named ms ≡ Ok opts → number_in d ≡ Ok id → all_taken op.Var (names_in ms) ≡ Ok tt → (term_of kind.Variable n args ms opts >>= read) ≡ Ok (form.variable id)
variable_read n d ms args opts id all named is h =
    variable_is n d ms args opts all ∙ then_done (number_in d) id _ is ∙ then_done (all_taken op.Var (names_of opts)) tt _ (ap (all_taken op.Var) (names_same ms opts named) ∙ h)

-- ---- a function

function_is : (n : ℕ) (d e : Data) (ms : Members) (args : Parts) (opts : NamedParts) → shaped_all (item d (item e no_items)) ≡ Ok args
    → (body : Written) × (shaped e ≡ Ok body) × ((term_of kind.Function n args ms opts >>= read) ≡ (ids_in d >>= λ ks. all_taken op.Func (names_of opts) >>= λ t. all_taken op.MakeArray ks.1 >>= λ u. read body >>= λ f. Ok (form.function ks.0 f)))
function_is n d e ms args opts all =
    let a = all_step d (item e no_items) args all in
    let b = all_step e no_items a.1 a.3 in (
      b.0,
      b.2,
      ap (λ ws. term_of kind.Function n ws ms opts >>= read) (a.4 ∙ ap (part a.0) (b.4 ∙ ap (part b.0) (none_all b.1 b.3)))
          ∙ ap (λ r. (r >>= λ ks. Ok (function ks.0 ks.1 b.0 (names_of opts))) >>= read) (ids_same d a.0 a.2) ∙ reassoc (ids_in d) _ _,
    )

module _ (n : ℕ) (d e : Data) (ms : Members) (args : Parts) (opts : NamedParts) (all : shaped_all (item d (item e no_items)) ≡ Ok args) (given : shaped_named ms ≡ Ok opts) where
  pub ids_fail : (f : ReadFault) → ids_in d ≡ Err f → (term_of kind.Function n args ms opts >>= read) ≡ Err f
  ids_fail f h = (function_is n d e ms args opts all).2 ∙ then_failed (ids_in d) f _ h

  module _ (ks : List ℕ × Names) (is : ids_in d ≡ Ok ks) where
    options_are : (r : Result (Unit {0}) ReadFault) → all_taken op.Func (names_in ms) ≡ r → all_taken op.Func (names_of opts) ≡ r
    options_are r h = ap (all_taken op.Func) (names_same ms opts given) ∙ h

    pub names_fail : (f : ReadFault) → all_taken op.Func (names_in ms) ≡ Err f → (term_of kind.Function n args ms opts >>= read) ≡ Err f
    names_fail f h = (function_is n d e ms args opts all).2 ∙ then_done (ids_in d) ks _ is ∙ then_failed (all_taken op.Func (names_of opts)) f _ (options_are (Err f) h)

    module _ (taken : all_taken op.Func (names_in ms) ≡ Ok tt) where
      pub id_names_fail : (f : ReadFault) → all_taken op.MakeArray ks.1 ≡ Err f → (term_of kind.Function n args ms opts >>= read) ≡ Err f
      id_names_fail f h = (function_is n d e ms args opts all).2 ∙ then_done (ids_in d) ks _ is ∙ then_done (all_taken op.Func (names_of opts)) tt _ (options_are (Ok tt) taken) ∙ then_failed (all_taken op.MakeArray ks.1) f _ h

      module _ (id_taken : all_taken op.MakeArray ks.1 ≡ Ok tt) where
        to_body : (term_of kind.Function n args ms opts >>= read) ≡ (read (function_is n d e ms args opts all).0 >>= λ f. Ok (form.function ks.0 f))
        to_body = (function_is n d e ms args opts all).2 ∙ then_done (ids_in d) ks _ is ∙ then_done (all_taken op.Func (names_of opts)) tt _ (options_are (Ok tt) taken) ∙ then_done (all_taken op.MakeArray ks.1) tt _ id_taken

        -- the body that is read, and what follows of it
        pub body_of : (body : Written) × (shaped e ≡ Ok body) × ((f : ReadFault) → read body ≡ Err f → (term_of kind.Function n args ms opts >>= read) ≡ Err f) × ((f : Form) → read body ≡ Ok f → (term_of kind.Function n args ms opts >>= read) ≡ Ok (form.function ks.0 f))
        body_of =
            let b = function_is n d e ms args opts all in
            (b.0, b.1, λ f h. to_body ∙ then_failed (read b.0) f _ h, λ f h. to_body ∙ then_done (read b.0) f _ h)

pub function_end : (r : Result Form ReadFault) (ids js : List ℕ) (f g : Form) → r ≡ Ok (form.function ids f) → ids ≡ js → g ≡ f → r ≡ Ok (form.function js g)
function_end r ids js f g h same is = h ∙ ap (λ ks. Ok (form.function ks f)) same ∙ ap (λ b. Ok (form.function js b)) (sym is)

-- ---- a call

module _ (n : ℕ) (ds : Items) (ms : Members) (args : Parts) (opts : NamedParts) (all : shaped_all ds ≡ Ok args) (given : shaped_named ms ≡ Ok opts) where
  checked_same : checked n (count_of args) (names_of opts) ≡ checked n (items_count ds) (names_in ms)
  checked_same = ap (λ k. checked n k (names_of opts)) (counts_same ds args all) ∙ ap (checked n (items_count ds)) (names_same ms opts given)

  pub op_fails : (e : ReadFault) → checked n (items_count ds) (names_in ms) ≡ Err e → read (call n args opts) ≡ Err e
  op_fails e h = then_failed (checked n (count_of args) (names_of opts)) e _ (checked_same ∙ h)

  module _ (op : Op) (is : checked n (items_count ds) (names_in ms) ≡ Ok op) where
    pub args_fail : (e : ReadFault) → read_all args ≡ Err e → read (call n args opts) ≡ Err e
    args_fail e h = then_done (checked n (count_of args) (names_of opts)) op _ (checked_same ∙ is) ∙ then_failed (read_all args) e _ h

    pub opts_fail : (fs : List Form) (e : ReadFault) → read_all args ≡ Ok fs → read_named opts ≡ Err e → read (call n args opts) ≡ Err e
    opts_fail fs e read h = then_done (checked n (count_of args) (names_of opts)) op _ (checked_same ∙ is) ∙ then_done (read_all args) fs _ read ∙ then_failed (read_named opts) e _ h

    pub call_read : (fs : List Form) (os : List (List ℕ × Form)) → read_all args ≡ Ok fs → read_named opts ≡ Ok os → read (call n args opts) ≡ Ok (operation op (forms_of fs) (named_of os))
    call_read fs os read h = then_done (checked n (count_of args) (names_of opts)) op _ (checked_same ∙ is) ∙ then_done (read_all args) fs _ read ∙ then_done (read_named opts) os _ h

pub count_is : (vs : List Value) (n : ℕ) (names : Names) (r : Result Op ReadFault) → checked n (length vs) names ≡ r → checked n (items_count (items_view vs)) names ≡ r
count_is vs n names r h = ap (λ k. checked n k names) (count_seen vs) ∙ h

-- ---- a term that has not the arguments of its form

pub no_object : (r : Result Term ReadFault) (n : ℕ) (d : Data) (ds : Items) (ms : Members) → ReadsCall r n (item d ds) ms → ReadsKind r kind.Object n (item d ds) ms
no_object r n d ds ms reads args opts all given = let a = all_step d ds args all in subst (λ ws. Understands form_of r (term_of kind.Object n ws ms opts >>= read)) (sym a.4) (subst (λ ws. Understands form_of r (read (call n ws opts))) a.4 (reads args opts all given))

pub no_row : (r : Result Term ReadFault) (n : ℕ) (d : Data) (ds : Items) (ms : Members) → ReadsCall r n (item d ds) ms → ReadsKind r kind.Row n (item d ds) ms
no_row r n d ds ms reads args opts all given = let a = all_step d ds args all in subst (λ ws. Understands form_of r (term_of kind.Row n ws ms opts >>= read)) (sym a.4) (subst (λ ws. Understands form_of r (read (call n ws opts))) a.4 (reads args opts all given))

pub no_variable : (r : Result Term ReadFault) (n : ℕ) (ds : Items) (ms : Members) → (items_count ds ≡ 1 → ⊥) → ReadsCall r n ds ms → ReadsKind r kind.Variable n ds ms
no_variable r n no_items ms apart reads args opts all given =
    let e = none_all args all in subst (λ ws. Understands form_of r (term_of kind.Variable n ws ms opts >>= read)) (sym e) (subst (λ ws. Understands form_of r (read (call n ws opts))) e (reads args opts all given))
no_variable r n (item d no_items) ms apart reads args opts all given = absurd (apart refl)
no_variable r n (item d (item e ds)) ms apart reads args opts all given =
    let a = all_step d (item e ds) args all in
    let b = all_step e ds a.1 a.3 in
    let s = a.4 ∙ ap (part a.0) b.4 in
    subst (λ ws. Understands form_of r (term_of kind.Variable n ws ms opts >>= read)) (sym s) (subst (λ ws. Understands form_of r (read (call n ws opts))) s (reads args opts all given))

pub no_function : (r : Result Term ReadFault) (n : ℕ) (ds : Items) (ms : Members) → (items_count ds ≡ 2 → ⊥) → ReadsCall r n ds ms → ReadsKind r kind.Function n ds ms
no_function r n no_items ms apart reads args opts all given =
    let e = none_all args all in subst (λ ws. Understands form_of r (term_of kind.Function n ws ms opts >>= read)) (sym e) (subst (λ ws. Understands form_of r (read (call n ws opts))) e (reads args opts all given))
no_function r n (item d no_items) ms apart reads args opts all given =
    let a = all_step d no_items args all in
    let s = a.4 ∙ ap (part a.0) (none_all a.1 a.3) in
    subst (λ ws. Understands form_of r (term_of kind.Function n ws ms opts >>= read)) (sym s) (subst (λ ws. Understands form_of r (read (call n ws opts))) s (reads args opts all given))
no_function r n (item d (item e no_items)) ms apart reads args opts all given = absurd (apart refl)
no_function r n (item d (item e (item f ds))) ms apart reads args opts all given =
    let a = all_step d (item e (item f ds)) args all in
    let b = all_step e (item f ds) a.1 a.3 in
    let g = all_step f ds b.1 b.3 in
    let s = a.4 ∙ ap (part a.0) (b.4 ∙ ap (part b.0) g.4) in
    subst (λ ws. Understands form_of r (term_of kind.Function n ws ms opts >>= read)) (sym s) (subst (λ ws. Understands form_of r (read (call n ws opts))) s (reads args opts all given))

pub some_object : (r : Result Term ReadFault) (n : ℕ) (ds : Items) (ms : Members) → (items_count ds ≡ 0 → ⊥) → ReadsCall r n ds ms → ReadsKind r kind.Object n ds ms
some_object r n no_items ms apart reads = absurd (apart refl)
some_object r n (item d ds) ms apart reads = no_object r n d ds ms reads

pub some_row : (r : Result Term ReadFault) (n : ℕ) (ds : Items) (ms : Members) → (items_count ds ≡ 0 → ⊥) → ReadsCall r n ds ms → ReadsKind r kind.Row n ds ms
some_row r n no_items ms apart reads = absurd (apart refl)
some_row r n (item d ds) ms apart reads = no_row r n d ds ms reads

-- ---- the whole term

pub term_read : (r : Result Term ReadFault) (ds : Items) (p : ℕ × (Items × Members)) (w : Written) → parts_in ds ≡ Ok p → ReadsKind r (kind_of p.0) p.0 p.1.0 p.1.1 → shaped_term ds ≡ Ok w → Understands form_of r (read w)
term_read r ds p w is reads h =
    let a = taken p.0 p.1.0 p.1.1 w (whole_parts ds p w is h) in
    subst (λ x. Understands form_of r (x >>= read)) a.4 (reads a.0 a.1 a.2 a.3)
