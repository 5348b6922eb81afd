-- That settling a feed's term keeps what it means: in every world where its arguments give the data that were put in their places, a settled
-- term has the value of the term.
use Rattle.std.specs.Prelude.{◌≡◌, List, [], ◌∷◌, Bool, true, false, ◌&&◌, Ok}
use Rattle.reql_datum.specs.Plain.{Plain}
use Rattle.reql_term.specs.Form.{Form, function, operation, Forms, no_forms, form, NamedForms, no_named, named}
use Rattle.reql_term.specs.Table.{way_of}
use Rattle.reql_term.specs.declared.op.Op.{Op}
use Rattle.reql_term.specs.declared.role.Way.{Way}
use Rattle.reql_term.specs.declared.role.Way.TheVariants as way
use Rattle.reql_value_spec.specs.Meant.{one}
use Rattle.reql_value_spec.specs.World.{World}
use Rattle.reql_plan_spec.specs.declared.parts.Opening.{Opening}
use Rattle.reql_plan_spec.specs.Feeding.{Feeding, feeding}
use Rattle.reql_plan_spec.specs.Follows.{are_planned}
use Rattle.reql_plan_spec.specs.Held.{Held}
use Rattle.reql_plan_spec.specs.Settled.{Test, meant_of, datum_of, settled, nothing_kept, keeps_argument, keeps_option}
use Rattle.reql_plan_spec.specs.Theirs.{terms_of}

-- an argument means just the datum that was put in its place: no selected row, whose document alone was
abbrev pub Stands : World → World → Form → Type 0
Stands w v f = (d : Plain) → datum_of w f ≡ Ok d → meant_of v f ≡ Ok (one d)

abbrev pub Either : Bool → Type 0 → Type 0 → Type 0
Either true a b = a
Either false a b = b

-- a function stays as it is, and what keeps its operator has arguments of its own
abbrev mutual
  pub ArgumentStands : (Op → Bool) → World → World → Form → Type 0
  ArgumentStands keeps w v (function ids f) = Unit {0}
  ArgumentStands keeps w v (operation o fs ms) = Either (keeps o) (ArgumentsStand nothing_kept w v fs) (Stands w v (operation o fs ms))
  ArgumentStands keeps w v f = Stands w v f

  pub ArgumentsStand : (Op → Bool) → World → World → Forms → Type 0
  ArgumentsStand keeps w v no_forms = Unit {0}
  ArgumentsStand keeps w v (form f fs) = ArgumentStands keeps w v f × ArgumentsStand keeps w v fs

abbrev pub OptionsStand : (Op → Bool) → World → World → NamedForms → Type 0
OptionsStand keeps w v no_named = Unit {0}
OptionsStand keeps w v (named k f ms) = ArgumentStands keeps w v f × OptionsStand keeps w v ms

-- so of terms one on another
abbrev mutual
  pub DataStand : World → World → Form → Type 0
  DataStand w v (operation o fs ms) = FirstDataStand w v (way_of o) fs × OptionsStand (keeps_option (way_of o)) w v ms
  DataStand w v f = Unit {0}

  pub FirstDataStand : World → World → Way → Forms → Type 0
  FirstDataStand w v by no_forms = Unit {0}
  FirstDataStand w v by (form f fs) = DataStand w v f × ArgumentsStand (keeps_argument by) w v fs

-- terms one on another, each of which evaluates all its arguments
abbrev pub is_whole : Way → Bool
is_whole way.Strict = true
is_whole way.Sorting = true
is_whole way.Filtering = true
is_whole w = false

abbrev mutual
  pub is_stack : Form → Bool
  is_stack (operation o fs ms) = is_whole (way_of o) && first_is_stack fs
  is_stack f = true

  pub first_is_stack : Forms → Bool
  first_is_stack no_forms = true
  first_is_stack (form f fs) = is_stack f

-- settled in one world, whatever tests its arguments stood, and evaluated in another
abbrev pub SettledMeansTheSame : Type 0
SettledMeansTheSame = (test : Test) (w v : World) (f g : Form) → is_stack f ≡ true → DataStand w v f → settled test w f ≡ Ok g → meant_of v g ≡ meant_of v f

-- so of every feed of CHANGES: what it is asked to follow means what its own term does
abbrev pub MeanTheSame : World → World → List Form → List Opening → Type 0
MeanTheSame w v [] [] = Unit {0}
MeanTheSame w v (f ∷ fs) (o ∷ os) = (DataStand w v f → meant_of v o.spec.shape ≡ meant_of v f) × MeanTheSame w v fs os
MeanTheSame w v fs os = ⊥

abbrev pub FeedsMeanTheSame : Type 0
FeedsMeanTheSame = (e : Held) (v : World) (fs : Forms) (ms : NamedForms) (x : Feeding) → are_planned fs ≡ true → feeding e fs ms ≡ Ok x → MeanTheSame e.world v (terms_of fs) x.openings
