-- A term with other terms in the place of some in it.
use Rattle.std.specs.Prelude.{ℕ, List, [], ◌∷◌, Option, Some, None, Ok}
use Rattle.reql_datum.specs.Answer.{Answer, ◌>>=◌}
use Rattle.reql_term.specs.Form.{Form, literal, several, keyed, variable, implicit, function, slot, operation, Forms, no_forms, form, NamedForms, no_named, named, forms_of, named_of}

-- what a rule says of a term: another that takes its place as it stands, nothing, so that its parts are looked at, or a fault
abbrev pub Saying : Type 0
Saying = Form → Answer (Option Form)

-- the term that takes the place, or what becomes of the parts
abbrev pub or_else : Option Form → Answer Form → Answer Form
or_else (Some f) parts = Ok f
or_else None parts = parts

abbrev pub unless : Answer (Option Form) → Answer Form → Answer Form
unless said parts = said >>= λ o. or_else o parts

-- the term by the rule: a term before its parts, the arguments in order and then the optional ones by name; the first fault counts
abbrev mutual
  pub rewritten : Saying → Form → Answer Form
  rewritten rule (literal d) = unless (rule (literal d)) (Ok (literal d))
  rewritten rule (several fs) = unless (rule (several fs)) (all_rewritten rule fs >>= λ gs. Ok (several (forms_of gs)))
  rewritten rule (keyed ms) = unless (rule (keyed ms)) (named_rewritten rule ms >>= λ ns. Ok (keyed (named_of ns)))
  rewritten rule (variable n) = unless (rule (variable n)) (Ok (variable n))
  rewritten rule implicit = unless (rule implicit) (Ok implicit)
  rewritten rule (function ids f) = unless (rule (function ids f)) (rewritten rule f >>= λ g. Ok (function ids g))
  rewritten rule (slot n) = unless (rule (slot n)) (Ok (slot n))
  rewritten rule (operation op fs ms) = unless (rule (operation op fs ms)) (all_rewritten rule fs >>= λ gs. named_rewritten rule ms >>= λ ns. Ok (operation op (forms_of gs) (named_of ns)))

  pub all_rewritten : Saying → Forms → Answer (List Form)
  all_rewritten rule no_forms = Ok []
  all_rewritten rule (form f fs) = rewritten rule f >>= λ g. all_rewritten rule fs >>= λ gs. Ok (g ∷ gs)

  pub named_rewritten : Saying → NamedForms → Answer (List (List ℕ × Form))
  named_rewritten rule no_named = Ok []
  named_rewritten rule (named k f ms) = rewritten rule f >>= λ g. named_rewritten rule ms >>= λ ns. Ok ((k, g) ∷ ns)
