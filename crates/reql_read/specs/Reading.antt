-- The term that is written (numbers as in `ql2.proto`, arguments as in the ReQL API reference), or the first fault in
-- preorder: a term's number, its count of arguments, its optional names in the order of their bytes, then its arguments
-- and the values of its optional ones.
use Rattle.std.specs.Prelude.{ℕ, ◌^◌, ◌-◌, List, [], ◌∷◌, ◌&&◌, nat_le, min, if◌then◌else◌, Option, Some, None, Result, Ok, Err}
use Rattle.reql_datum.specs.Answer.{◌>>=◌}
use Rattle.reql_datum.specs.Plain.{Plain}
use Rattle.reql_json.specs.Reading.{document}
use Rattle.reql_json.specs.declared.fault.JsonFault.{JsonFault}
use Rattle.reql_term.specs.Form.{Form, literal, several, keyed, implicit, operation, forms_of, named_of}
use Rattle.reql_term.specs.Form as form
use Rattle.reql_term.specs.Table.{op_of, number_of, fits, takes}
use Rattle.reql_term.specs.declared.op.Op.{Op}
use Rattle.reql_term.specs.declared.op.Op.TheVariants as op
use Rattle.reql_read.specs.Written.{Names, Written, value, array, object, variable, row, function, call, Parts, no_parts, part, NamedParts, no_named, named, count_of, names_of}
use Rattle.reql_read.specs.declared.fault.ReadFault.{ReadFault}
use Rattle.reql_read.specs.declared.fault.ReadFault.TheVariants.{UnknownTerm, LeftOut, Arity, BadOptarg, Number}

-- the operator of a number
abbrev pub or_left_out : ℕ → Option Op → Result Op ReadFault
or_left_out n None = Err (LeftOut n)
or_left_out n (Some op) = Ok op

unfoldable pub op_named : ℕ → Result Op ReadFault
op_named n = if nat_le 1 n && nat_le n 255 then or_left_out n (op_of n) else Err (UnknownTerm n)

-- a right count of arguments, and none but its optional arguments
unfoldable pub counted : Op → ℕ → Result (Unit {0}) ReadFault
counted op n = if fits op n then Ok tt else Err (Arity (number_of op) (min n (2 ^ 32 - 1)))

abbrev pub all_taken : Op → Names → Result (Unit {0}) ReadFault
all_taken op [] = Ok tt
all_taken op (k ∷ ks) = if takes op k then all_taken op ks else Err (BadOptarg k)

-- the operator of a term with so many arguments and optional arguments of these names
abbrev pub checked : ℕ → ℕ → Names → Result Op ReadFault
checked n count names = op_named n >>= λ op. counted op count >>= λ t. all_taken op names >>= λ u. Ok op

-- a document as a term
abbrev pub literal_of : Result Plain JsonFault → Result Form ReadFault
literal_of (Ok p) = Ok (literal p)
literal_of (Err fault) = Err (Number fault)

abbrev mutual
  pub read : Written → Result Form ReadFault
  read (value d) = literal_of (document d)
  read (array ws names) = all_taken op.MakeArray names >>= λ t. read_all ws >>= λ fs. Ok (several (forms_of fs))
  read (object ws) = read_named ws >>= λ ms. Ok (keyed (named_of ms))
  read (variable id names) = all_taken op.Var names >>= λ t. Ok (form.variable id)
  read (row names) = all_taken op.ImplicitVar names >>= λ t. Ok implicit
  read (function ids id_names body names) =
      all_taken op.Func names >>= λ t. all_taken op.MakeArray id_names >>= λ u. read body >>= λ f. Ok (form.function ids f)
  read (call n args opts) =
      checked n (count_of args) (names_of opts) >>= λ op. read_all args >>= λ fs. read_named opts >>= λ ms. Ok (operation op (forms_of fs) (named_of ms))

  pub read_all : Parts → Result (List Form) ReadFault
  read_all no_parts = Ok []
  read_all (part w ws) = read w >>= λ f. read_all ws >>= λ fs. Ok (f ∷ fs)

  pub read_named : NamedParts → Result (List (List ℕ × Form)) ReadFault
  read_named no_named = Ok []
  read_named (named k w ws) = read w >>= λ f. read_named ws >>= λ ms. Ok ((k, f) ∷ ms)
