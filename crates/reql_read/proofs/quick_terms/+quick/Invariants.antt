use Rattle.std.proofs.Common.{ℕ, ◌+◌, ◌*◌, ◌++◌, List, [], length}
use Rattle.json.specs.Token.{Token}
use Rattle.reql_term.specs.Form.{Form}
use Rattle.reql_read.specs.Quick.{ReadsForms, ReadsNamed}
use Rattle.reql_read.proofs.quick_terms.+quick.Given as goal

abbrev pub invariant-read_all-items : goal.invariant-read_all-items
invariant-read_all-items l = (fs : List Form) (r : List Token) → ReadsForms l.depth l.reader fs r → ReadsForms l.depth l.initial.reader (l.terms ++ fs) r

abbrev pub decreases-read_all-items : goal.decreases-read_all-items
decreases-read_all-items l = length l.reader

abbrev pub invariant-read_named-members : goal.invariant-read_named-members
invariant-read_named-members l = (all : List (List ℕ × Form)) (r : List Token) → ReadsNamed l.depth l.reader l.fields all r → ReadsNamed l.depth l.initial.reader [] all r

abbrev pub decreases-read_named-members : goal.decreases-read_named-members
decreases-read_named-members l = length l.reader

abbrev pub decreases-read : goal.decreases-read
decreases-read l = 8 * l.depth + 7

abbrev pub decreases-read_numbered : goal.decreases-read_numbered
decreases-read_numbered l = 8 * l.depth + 6

abbrev pub decreases-read_object : goal.decreases-read_object
decreases-read_object l = 8 * l.depth + 6

abbrev pub decreases-read_kind : goal.decreases-read_kind
decreases-read_kind l = 8 * l.depth + 13

abbrev pub decreases-read_array : goal.decreases-read_array
decreases-read_array l = 8 * l.depth + 12

abbrev pub decreases-read_call : goal.decreases-read_call
decreases-read_call l = 8 * l.depth + 12

abbrev pub decreases-read_function : goal.decreases-read_function
decreases-read_function l = 8 * l.depth + 12

abbrev pub decreases-read_args : goal.decreases-read_args
decreases-read_args l = 8 * l.depth + 11

abbrev pub decreases-read_options : goal.decreases-read_options
decreases-read_options l = 8 * l.depth + 11

abbrev pub decreases-read_all : goal.decreases-read_all
decreases-read_all l = 8 * l.depth + 9

abbrev pub decreases-read_named : goal.decreases-read_named
decreases-read_named l = 8 * l.depth + 9

abbrev pub decreases-read_member : goal.decreases-read_member
decreases-read_member l = 8 * l.depth + 8
