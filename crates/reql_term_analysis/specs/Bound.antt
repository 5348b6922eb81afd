-- What the bound variables, lists of terms and terms by name stand for.
use Rattle.std.specs.Prelude.{ℕ, List, [], ◌∷◌, map}
use Rattle.std.specs.List.{zip}
use Rattle.reql_datum.specs.View.{plain}
use Rattle.reql_term.specs.Form.{Form, forms_of, named_of, list_weight}
use Rattle.reql_term.specs.View.{form_of}
use Rattle.reql_term.specs.declared.term.Term.{Term}
use Rattle.reql_rules.specs.Lists.{Bytes}
use Rattle.reql_value_spec.specs.Meaning.{form_senses, named_senses}
use Rattle.reql_value_spec.specs.Sense.{Sense}
use Rattle.reql_value_spec.specs.World.{Vars as Frames}
use Rattle.reql_term_analysis.specs.declared.vars.Vars.{Vars, fold-Vars}
use Rattle.reql_term_analysis.specs.declared.vars.Vars.TheOpen.{Vars-F}

abbrev pub bound_step : Vars-F Frames → Frames
bound_step Vars-F.Empty = []
bound_step (Vars-F.Frame ids ds up) = zip ids.now (map plain ds.now) ∷ up.now

-- the frames of a chain of variables
abbrev pub bound : Vars → Frames
bound = fold-Vars Frames bound_step

abbrev pub senses_of : List Form → List Sense
senses_of fs = form_senses (forms_of fs)

-- what the terms of a list denote
abbrev pub listed : List Term → List Sense
listed ts = senses_of (map form_of ts)

-- what terms by name denote
abbrev pub optional : List (Bytes × Form) → List (Bytes × Sense)
optional ms = named_senses (named_of ms)

abbrev pub all_weight : List Term → ℕ
all_weight ts = list_weight (map form_of ts)
