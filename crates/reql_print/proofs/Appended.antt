-- What is appended for a term, piece by piece, is its text.
use Rattle.std.proofs.Common.{◌≡◌, ℕ, suc, List, [], ◌∷◌, ◌++◌, length, codes, Bool, true, false, nat_eq, decimal, refl, sym, ap, ◌∙◌, append_assoc, arith}
use Rattle.std.proofs.lemmas.Bool.Decides.{nat_tests}
use Rattle.std.specs.Fmt.{digits}
use Rattle.serde_json.specs.Data as json
use Rattle.serde_json.specs.Written.{comma_if, compact_text, items_text, members_text}
use Rattle.reql_term.specs.Form.{Form, variable, implicit, function, forms_of, named_of}
use Rattle.reql_term.specs.Table.{number_of}
use Rattle.reql_term.specs.declared.op.Op.TheVariants as op
use Rattle.reql_read.specs.Spelling.{call, spelled_number, one, spelled_ids, spelled, spelled_all, spelled_named}
use Rattle.reql_print.specs.Printed.{body_of}

-- a count is of nothing
abbrev Empty : ℕ → Type 0
Empty n = nat_eq n 0 ≡ true

abbrev Some : ℕ → Type 0
Some n = nat_eq n 0 ≡ false

-- a count above 0
not_empty : (n : ℕ) → Empty (suc n) → ⊥
not_empty n h = grind (arith, nat_tests)

none_empty : Some 0 → ⊥
none_empty h = cc

two : (t a b : List ℕ) → (t ++ a) ++ b ≡ t ++ (a ++ b)
two t a b = append_assoc t a b

three : (t a b c : List ℕ) → ((t ++ a) ++ b) ++ c ≡ t ++ (a ++ (b ++ c))
three t a b c = simp append_assoc

five : (t a b c d e : List ℕ) → ((((t ++ a) ++ b) ++ c) ++ d) ++ e ≡ t ++ (a ++ (b ++ (c ++ (d ++ e))))
five t a b c d e = simp append_assoc

seven : (t a b c d e f g : List ℕ) → ((((((t ++ a) ++ b) ++ c) ++ d) ++ e) ++ f) ++ g ≡ t ++ (a ++ (b ++ (c ++ (d ++ (e ++ (f ++ g))))))
seven t a b c d e f g = simp append_assoc

-- ---- a term of a number

-- without arguments
bare_text : (t : List ℕ) (n : ℕ) → ((t ++ 91 ∷ []) ++ decimal n) ++ 93 ∷ [] ≡ t ++ compact_text (call n json.no_items json.no_members)
bare_text t n = three t (91 ∷ []) (decimal n) (93 ∷ [])

-- with some
args_text : (t : List ℕ) (n : ℕ) (d : json.Data) (ds : json.Items)
    → ((((t ++ 91 ∷ []) ++ decimal n) ++ codes ",[") ++ items_text false (json.item d ds)) ++ 93 ∷ [] ≡ t ++ compact_text (call n (json.item d ds) json.no_members)
args_text t n d ds = five t (91 ∷ []) (decimal n) (codes ",[") (items_text false (json.item d ds)) (93 ∷ [])

-- with options
options_text : (t : List ℕ) (n : ℕ) (ds : json.Items) (k : List ℕ) (e : json.Data) (ms : json.Members)
    → ((((((t ++ 91 ∷ []) ++ decimal n) ++ codes ",[") ++ items_text false ds) ++ codes ",{") ++ members_text false (json.member k e ms)) ++ 93 ∷ [] ≡ t ++ compact_text (call n ds (json.member k e ms))
options_text t n json.no_items k e ms = seven t (91 ∷ []) (decimal n) (codes ",[") (items_text false json.no_items) (codes ",{") (members_text false (json.member k e ms)) (93 ∷ [])
options_text t n (json.item d ds) k e ms = seven t (91 ∷ []) (decimal n) (codes ",[") (items_text false (json.item d ds)) (codes ",{") (members_text false (json.member k e ms)) (93 ∷ [])

-- ---- by what each call appended

module _ (t : List ℕ) (n : ℕ) where
  -- the bracket and the number
  abbrev Begun : List ℕ → Type 0
  Begun a = a ≡ (t ++ 91 ∷ []) ++ decimal n

  pub bare_done : (a b : List ℕ) → Begun a → b ≡ a ++ 93 ∷ [] → b ≡ t ++ compact_text (call n json.no_items json.no_members)
  bare_done a b h k = rw (k, h) (bare_text t n)

  pub ids_none : (o : List ℕ) (ids : List ℕ) → Empty (length ids) → o ≡ t ++ compact_text (call n json.no_items json.no_members) → o ≡ t ++ compact_text (call n (spelled_ids ids) json.no_members)
  ids_none o [] empty h = h
  ids_none o (k ∷ ks) empty h = absurd (not_empty (length ks) empty)

  pub ids_done : (a b c d : List ℕ) (ids : List ℕ) → Some (length ids) → Begun a → b ≡ a ++ codes ",[" → c ≡ b ++ items_text false (spelled_ids ids) → d ≡ c ++ 93 ∷ [] → d ≡ t ++ compact_text (call n (spelled_ids ids) json.no_members)
  ids_done a b c d [] some h i j k = absurd (none_empty some)
  ids_done a b c d (x ∷ xs) some h i j k = rw (k, j, i, h) (args_text t n (spelled_number x) (spelled_ids xs))

  pub args_none : (o : List ℕ) (fs : List Form) → Empty (length fs) → o ≡ t ++ compact_text (call n json.no_items json.no_members) → o ≡ t ++ compact_text (call n (spelled_all (forms_of fs)) json.no_members)
  args_none o [] empty h = h
  args_none o (f ∷ fs) empty h = absurd (not_empty (length fs) empty)

  pub args_done : (a b c d : List ℕ) (fs : List Form) → Some (length fs) → Begun a → b ≡ a ++ codes ",[" → c ≡ b ++ items_text false (spelled_all (forms_of fs)) → d ≡ c ++ 93 ∷ [] → d ≡ t ++ compact_text (call n (spelled_all (forms_of fs)) json.no_members)
  args_done a b c d [] some h i j k = absurd (none_empty some)
  args_done a b c d (f ∷ fs) some h i j k = rw (k, j, i, h) (args_text t n (spelled f) (spelled_all (forms_of fs)))

  pub options_none : (o : List ℕ) (ds : json.Items) (ms : List (List ℕ × Form)) → Empty (length ms) → o ≡ t ++ compact_text (call n ds json.no_members) → o ≡ t ++ compact_text (call n ds (spelled_named (named_of ms)))
  options_none o ds [] empty h = h
  options_none o ds (m ∷ ms) empty h = absurd (not_empty (length ms) empty)

  pub options_done : (a b c d e f : List ℕ) (ds : json.Items) (ms : List (List ℕ × Form)) → Some (length ms)
      → Begun a → b ≡ a ++ codes ",[" → c ≡ b ++ items_text false ds → d ≡ c ++ codes ",{" → e ≡ d ++ members_text false (spelled_named (named_of ms)) → f ≡ e ++ 93 ∷ [] → f ≡ t ++ compact_text (call n ds (spelled_named (named_of ms)))
  options_done a b c d e f ds [] some h i j k l p = absurd (none_empty some)
  options_done a b c d e f ds (m ∷ ms) some h i j k l p = rw (p, l, k, j, i, h) (options_text t n ds m.0 (spelled m.1) (spelled_named (named_of ms)))

-- ---- variables and functions

pub variable_done : (t a b c d : List ℕ) (id : ℕ) → Begun t (number_of op.Var) a → b ≡ a ++ codes ",[" → c ≡ b ++ decimal id → d ≡ c ++ codes "]]" → d ≡ t ++ compact_text (spelled (variable id))
variable_done t a b c d id h i j k =
    rw (k, j, i, h) (five t (91 ∷ []) (decimal (number_of op.Var)) (codes ",[") (decimal id) (codes "]]") ∙ ap (λ s. t ++ (91 ∷ (decimal (number_of op.Var) ++ (44 ∷ 91 ∷ s)))) (sym (append_assoc (decimal id) (93 ∷ []) (93 ∷ []))))

pub row_done : (t a b : List ℕ) → Begun t (number_of op.ImplicitVar) a → b ≡ a ++ 93 ∷ [] → b ≡ t ++ compact_text (spelled implicit)
row_done t a b h k = bare_done t (number_of op.ImplicitVar) a b h k

-- the parameters p and the body s
function_text : (t p s : List ℕ) (n : ℕ)
    → (((((((t ++ 91 ∷ []) ++ decimal n) ++ codes ",[") ++ p) ++ 44 ∷ []) ++ s) ++ codes "]]") ≡ t ++ (91 ∷ (decimal n ++ (44 ∷ 91 ∷ ((p ++ (44 ∷ (s ++ 93 ∷ []))) ++ 93 ∷ []))))
function_text t p s n = simp append_assoc

pub function_done : (t a b c d e f : List ℕ) (ids : List ℕ) (g : Form)
    → Begun t (number_of op.Func) a → b ≡ a ++ codes ",[" → c ≡ b ++ compact_text (call (number_of op.MakeArray) (spelled_ids ids) json.no_members) → d ≡ c ++ 44 ∷ [] → e ≡ d ++ compact_text (spelled g) → f ≡ e ++ codes "]]" → f ≡ t ++ compact_text (spelled (function ids g))
function_done t a b c d e f ids g h i j k l m =
    rw (m, l, k, j, i, h) (function_text t (compact_text (call (number_of op.MakeArray) (spelled_ids ids) json.no_members)) (compact_text (spelled g)) (number_of op.Func))

-- ---- objects and bodies

pub object_done : (t a b s : List ℕ) → a ≡ t ++ 123 ∷ [] → b ≡ a ++ s → b ≡ t ++ (123 ∷ s)
object_done t a b s h k = rw (k, h) (append_assoc t (123 ∷ []) s)

pub body_done : (a b c : List ℕ) (f : Form) → a ≡ codes "[1," → b ≡ a ++ compact_text (spelled f) → c ≡ b ++ 93 ∷ [] → c ≡ compact_text (body_of f)
unfolding digits
body_done a b c f h i j = rw (j, i, h) (append_assoc (codes "[1,") (compact_text (spelled f)) (93 ∷ []))

pub ruleset appended = (bare_done, ids_none, ids_done, args_none, args_done, options_none, options_done, variable_done, row_done, function_done, object_done, body_done)
