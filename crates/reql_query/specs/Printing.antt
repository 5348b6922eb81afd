-- What is printed of answers: each result a line.
use Rattle.std.specs.Prelude.{◌≡◌, ℕ, List, [], ◌∷◌, ◌++◌, Bool, true, false, codes, Option, Some, None, is_some, Result, Ok, Err, string_bytes}
use Rattle.serde_json.specs.Data.{Data, Items, no_items, item}
use Rattle.serde_json.specs.Find.{at}
use Rattle.serde_json.specs.Written.{has_float, items_have_float, compact_text}
use Rattle.reql_outside.specs.Tape.{grown, counted}
use Rattle.reql_outside.specs.Written.{Written}
use Rattle.reql_query.specs.Answers.{Telling, Results, Fault, Strange}
use Rattle.reql_query.specs.declared.kind.Kind.{Kind}
use Rattle.reql_query.specs.declared.kind.Kind.TheVariants as kinds
use Rattle.reql_query.specs.declared.status.Loss.{Loss}
use Rattle.reql_query.specs.declared.status.Loss.TheVariants as losses
use Rattle.reql_query.specs.declared.printing.Unprinted.{Unprinted}
use Rattle.reql_query.specs.declared.printing.Unprinted.TheVariants as unprinted
use Rattle.reql_query.specs.declared.printing.Shown.{Shown}
use Rattle.reql_query.specs.declared.printing.Shown.TheVariants as shown

-- the lines of values: the compact JSON of each, and the end of a line
abbrev pub lines : Items → List ℕ
lines no_items = []
lines (item d ds) = (compact_text d ++ 10 ∷ []) ++ lines ds

-- the lines of values, none of which has a fraction, were taken, and no call failed
pub record Printed (old new : Written) (values : Items) : Type 0 where
  pub unfailed : new.faults ≡ old.faults
  pub took : items_have_float values ≡ false → new.wrote ≡ grown old.wrote (lines values)

-- how printing values ended
abbrev pub Prints : Written → Written → Items → Result Unit Unprinted → Type 0
Prints old new values (Ok done) = Printed old new values
Prints old new values (Err unprinted.Sink) = new.faults ≡ counted old.faults 1
Prints old new values (Err unprinted.Memory) = new.faults ≡ old.faults

-- the name of a kind in the protocol (ql2.proto)
abbrev pub kind_name : Kind → List ℕ
kind_name kinds.Client = codes "CLIENT_ERROR"
kind_name kinds.Compile = codes "COMPILE_ERROR"
kind_name kinds.Internal = codes "INTERNAL"
kind_name kinds.ResourceLimit = codes "RESOURCE_LIMIT"
kind_name kinds.QueryLogic = codes "QUERY_LOGIC"
kind_name kinds.NonExistence = codes "NON_EXISTENCE"
kind_name kinds.OpFailed = codes "OP_FAILED"
kind_name kinds.OpIndeterminate = codes "OP_INDETERMINATE"
kind_name kinds.User = codes "USER"
kind_name kinds.Permission = codes "PERMISSION_ERROR"
kind_name kinds.Runtime = codes "RUNTIME_ERROR"

-- the line of a fault: its kind, its text, and the path to its term, where it has a step
abbrev pub plain_text : Kind → List ℕ → List ℕ
plain_text kind text = kind_name kind ++ (codes ": " ++ text)

abbrev pub located_text : Kind → List ℕ → List ℕ → List ℕ
located_text kind text path = kind_name kind ++ (codes ": " ++ (text ++ (codes " (at " ++ (path ++ codes ")"))))

abbrev pub IsLocated : Kind → List ℕ → Data → Bool → List ℕ → Type 0
IsLocated kind text path false line = line ≡ plain_text kind text
IsLocated kind text path true line = has_float path ≡ false → line ≡ located_text kind text (compact_text path)

abbrev pub IsFaultText : Kind → List ℕ → Option Data → List ℕ → Type 0
IsFaultText kind text None line = line ≡ plain_text kind text
IsFaultText kind text (Some path) line = IsLocated kind text path (is_some (at 0 path)) line

-- the results of an answer: they are printed, and others follow or not; or the sink failed, or memory was wanted
abbrev pub LosesResults : Written → Written → Loss → Type 0
LosesResults old new losses.Unprinted = new.faults ≡ counted old.faults 1
LosesResults old new losses.Memory = new.faults ≡ old.faults
LosesResults old new other = ⊥

abbrev pub ShowsResults : Written → Written → Items → Bool → Shown → Type 0
ShowsResults old new items more shown.More = (more ≡ true) × Printed old new items
ShowsResults old new items more shown.Whole = (more ≡ false) × Printed old new items
ShowsResults old new items more (shown.Fault line) = ⊥
ShowsResults old new items more (shown.Lost loss) = LosesResults old new loss

-- the fault of an answer: its line, or memory was wanted
abbrev pub IsMemory : Loss → Type 0
IsMemory losses.Memory = Unit {0}
IsMemory other = ⊥

abbrev pub ShowsFault : Kind → List ℕ → Option Data → Shown → Type 0
ShowsFault kind text path (shown.Fault line) = IsFaultText kind text path (string_bytes line)
ShowsFault kind text path (shown.Lost loss) = IsMemory loss
ShowsFault kind text path other = ⊥

-- none that a server gives
abbrev pub IsStrange : Loss → Type 0
IsStrange losses.Strange = Unit {0}
IsStrange other = ⊥

abbrev pub ShowsStrange : Shown → Type 0
ShowsStrange (shown.Lost loss) = IsStrange loss
ShowsStrange other = ⊥

-- how showing an answer ended: its results are printed, and nothing of a fault
unfoldable pub Shows : Written → Written → Telling → Shown → Type 0
Shows old new (Results items more) s = ShowsResults old new items more s
Shows old new (Fault kind text path) s = (new ≡ old) × ShowsFault kind text path s
Shows old new Strange s = (new ≡ old) × ShowsStrange s
