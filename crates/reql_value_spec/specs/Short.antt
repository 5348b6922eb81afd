-- Plain values and terms in short, and two tables, for the worked cases.
use Prim.Native.String.{String}
use Rattle.std.specs.Prelude.{◌≡◌, ℕ, pos, neg_ℤ, List, [], ◌∷◌, map, true, false, codes}
use Rattle.reql_datum.specs.Answer.{Answer}
use Rattle.reql_datum.specs.Plain.{Plain, null, number, text}
use Rattle.reql_term.specs.Form.{Form, literal, several, keyed, variable, function, operation, forms_of, named_of, no_named}
use Rattle.reql_term.specs.Views.{Document, Index}
use Rattle.reql_term.specs.declared.op.Op.{Op}
use Rattle.reql_term.specs.declared.op.Op.TheVariants as op
use Rattle.reql_rules.specs.Lists.{Bytes, array_of, object_of}
use Rattle.reql_value_spec.specs.Index.{plain_view}
use Rattle.reql_value_spec.specs.Meaning.{value}
use Rattle.reql_value_spec.specs.Meant.{Meant}
use Rattle.reql_value_spec.specs.World.{World}

-- plain values
abbrev pub n : ℕ → Plain
n k = number (pos k)

abbrev pub minus : ℕ → Plain
minus k = number (neg_ℤ (pos k))

abbrev pub t : String → Plain
t s = text (codes s)

abbrev pub a : List Plain → Plain
a vs = array_of vs

abbrev pub o : List (Bytes × Plain) → Plain
o ms = object_of ms

-- terms: numbers and texts, calls without and with options, arrays, objects, functions of the variable 1 and of 1 and 2
abbrev pub num : ℕ → Form
num k = literal (n k)

abbrev pub name : String → Form
name s = literal (t s)

abbrev pub call : Op → List Form → Form
call f fs = operation f (forms_of fs) no_named

abbrev pub with : Op → List Form → List (Bytes × Form) → Form
with f fs os = operation f (forms_of fs) (named_of os)

abbrev pub array : List Form → Form
array fs = several (forms_of fs)

abbrev pub members : List (Bytes × Form) → Form
members ms = keyed (named_of ms)

abbrev pub var : Form
var = variable 1

abbrev pub fun : Form → Form
fun f = function (1 ∷ []) f

abbrev pub fun_of_two : Form → Form
fun_of_two f = function (1 ∷ 2 ∷ []) f

abbrev pub field : String → Form
field k = call op.Bracket (var ∷ name k ∷ [])

-- a table `docs` with three indexes, the one of tags a multi index, and a table `more`, whose key field is `key`
abbrev pub docs : List Document
docs = ((
  n 1,
  o ((codes "g", t "x")
      ∷ (codes "id", n 1)
      ∷ (codes "n", n 5)
      ∷ (codes "tags", a (t "a" ∷ t "b" ∷ t "a" ∷ [])) ∷ []),
)
    ∷ (
      n 2,
      o ((codes "g", t "y")
          ∷ (codes "id", n 2)
          ∷ (codes "n", n 3) ∷ []),
    )
    ∷ (
      n 3,
      o ((codes "g", t "x")
          ∷ (codes "id", n 3)
          ∷ (codes "n", n 5)
          ∷ (
            codes "o",
            o ((codes "p", n 1)
                ∷ (codes "q", a (n 1 ∷ n 2 ∷ [])) ∷ []),
          )
          ∷ (codes "tags", a (t "b" ∷ null ∷ n 7 ∷ [])) ∷ []),
    )
    ∷ (
      t "k",
      o ((codes "g", null)
          ∷ (codes "id", t "k")
          ∷ (codes "n", null) ∷ []),
    ) ∷ [])

abbrev pub indexes : List (Bytes × Index)
indexes = ((codes "gn", (fun (array (field "g" ∷ field "n" ∷ [])), false)) ∷ (codes "n", (fun (field "n"), false)) ∷ (codes "tags", (fun (field "tags"), true)) ∷ [])

abbrev pub more : List Document
more = ((t "a", o ((codes "key", t "a") ∷ (codes "m", n 1) ∷ [])) ∷ (t "b", o ((codes "key", t "b") ∷ (codes "m", n 2) ∷ [])) ∷ [])

abbrev pub shelf : World
shelf = record {
  tables = (0, plain_view (codes "test") 0 (codes "docs") (codes "id") docs indexes)
      ∷ (1, plain_view (codes "test") 0 (codes "more") (codes "key") more []) ∷ [];
  databases = (codes "test", 0) ∷ [];
  array_limit = 100000;
}

-- a term with what it gives, and that it does
abbrev pub Case : Type 0
Case = Form × Answer Meant

unfoldable pub Holds : World → List Case → Type 0
Holds w cs = map (λ c. value c.0 w []) cs ≡ map (λ c. c.1) cs
