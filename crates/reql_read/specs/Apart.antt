-- How a term is taken apart while JSON is walked: what clauses inside the crate speak of.
use Rattle.std.specs.Prelude.{◌≡◌, ℕ, suc, Bool, List, [], ◌∷◌, ◌++◌, nat_eq, if◌then◌else◌, Result, Ok, Err}
use Rattle.serde_json.specs.Data.{Data, Items, no_items, item, Members, no_members, member}
use Rattle.reql_datum.specs.Answer.{◌>>=◌}
use Rattle.reql_term.specs.Table.{number_of}
use Rattle.reql_term.specs.View.{form_of}
use Rattle.reql_term.specs.declared.op.Op.{Op}
use Rattle.reql_term.specs.declared.term.Term.{Term}
use Rattle.reql_read.specs.Outcome.{Understands}
use Rattle.reql_read.specs.Shape.{number_in, items_in, members_in, kind_of, is_new, object_of, term_of, shaped, shaped_all, shaped_named, start}
use Rattle.reql_read.specs.Query.{Asked, asked_by, continued, stop, noreply_wait, server_info}
use Rattle.reql_read.specs.Reading.{read}
use Rattle.reql_read.specs.Written.{Names, Written, call, Parts, NamedParts}
use Rattle.reql_read.specs.declared.fault.ReadFault.{ReadFault}
use Rattle.reql_read.specs.declared.fault.ReadFault.TheVariants.{BadShape}
use Rattle.reql_read.specs.declared.shape.Kind.{Kind}
use Rattle.reql_read.specs.declared.shape.Kind.TheVariants as kind

-- nothing more may follow
abbrev pub ended : {A : Type 0} → Items → Result A ReadFault → Result A ReadFault
ended no_items a = a
ended (item d ds) a = Err BadShape

-- the optional arguments after the arguments, none where nothing follows
abbrev pub options_in : Items → Result Members ReadFault
options_in no_items = Ok no_members
options_in (item d ds) = ended ds (members_in d)

-- the number of a term, its arguments and its optional arguments
abbrev pub parts_after : ℕ → Items → Result (ℕ × (Items × Members)) ReadFault
parts_after n no_items = Ok (n, (no_items, no_members))
parts_after n (item args ds) = items_in args >>= λ items. options_in ds >>= λ opts. Ok (n, (items, opts))

abbrev pub parts_in : Items → Result (ℕ × (Items × Members)) ReadFault
parts_in no_items = Err BadShape
parts_in (item n ds) = number_in n >>= λ k. parts_after k ds

abbrev pub items_count : Items → ℕ
items_count no_items = 0
items_count (item d ds) = suc (items_count ds)

abbrev pub names_in : Members → Names
names_in no_members = []
names_in (member k d ms) = k ∷ names_in ms

-- whether a number is that of an operator
abbrev pub is : ℕ → Op → Bool
is n op = nat_eq n (number_of op)

-- a term of a number with these arguments and optional arguments
abbrev pub written : ℕ → Items → Members → Result Written ReadFault
written n args ms = shaped_all args >>= λ ws. shaped_named ms >>= λ os. term_of (kind_of n) n ws ms os

-- ids of parameters, no two alike, after those before
abbrev pub ids_among : List ℕ → Items → Result (List ℕ) ReadFault
ids_among before no_items = Ok before
ids_among before (item d ds) = number_in d >>= λ id. if is_new id before then ids_among (before ++ id ∷ []) ds else Err BadShape

abbrev pub ids_by : Kind → Items → Members → Result (List ℕ × Names) ReadFault
ids_by kind.Array ds ms = ids_among [] ds >>= λ ids. Ok (ids, names_in ms)
ids_by k ds ms = Err BadShape

-- the ids of a function as they are written, and the names that stand with them
abbrev pub ids_in : Data → Result (List ℕ × Names) ReadFault
ids_in d = items_in d >>= parts_in >>= λ p. ids_by (kind_of p.0) p.1.0 p.1.1

abbrev pub done : {A : Type 0} → Result A ReadFault → Result (Unit {0}) ReadFault
done a = a >>= λ x. Ok tt

-- whether the arguments of a term of a kind are such as its form wants
abbrev pub one_fits : Items → Result (Unit {0}) ReadFault
one_fits (item d no_items) = done (number_in d)
one_fits ds = Ok tt

abbrev pub two_fit : Items → Result (Unit {0}) ReadFault
two_fit (item d (item e no_items)) = done (ids_in d)
two_fit ds = Ok tt

abbrev pub formed : Kind → Items → Result (Unit {0}) ReadFault
formed kind.Variable ds = one_fits ds
formed kind.Function ds = two_fit ds
formed k ds = Ok tt

-- what is read of a value that has the shape of what is written
abbrev pub ReadsOf : {W X Y : Type 0} → (X → Y) → Result X ReadFault → Result W ReadFault → (W → Result Y ReadFault) → Type 0
ReadsOf {W = W} view result shape read = (w : W) → shape ≡ Ok w → Understands view result (read w)

-- the same of an object with these members
abbrev pub ReadsObject : Result Term ReadFault → Members → Type 0
ReadsObject result ms = ReadsOf form_of result (shaped_named ms) (λ ws. read (object_of ms ws))

-- the same of a term of a number with these arguments and optional arguments, of a kind
abbrev pub ReadsKind : Result Term ReadFault → Kind → ℕ → Items → Members → Type 0
ReadsKind result k n ds ms = (args : Parts) (opts : NamedParts) → shaped_all ds ≡ Ok args → shaped_named ms ≡ Ok opts → Understands form_of result (term_of k n args ms opts >>= read)

abbrev pub ReadsTerm : Result Term ReadFault → ℕ → Items → Members → Type 0
ReadsTerm result n = ReadsKind result (kind_of n) n

abbrev pub ReadsArray : Result Term ReadFault → ℕ → Items → Members → Type 0
ReadsArray result = ReadsKind result kind.Array

abbrev pub ReadsMembers : Result Term ReadFault → ℕ → Items → Members → Type 0
ReadsMembers result = ReadsKind result kind.Object

abbrev pub ReadsVariable : Result Term ReadFault → ℕ → Items → Members → Type 0
ReadsVariable result = ReadsKind result kind.Variable

abbrev pub ReadsRow : Result Term ReadFault → ℕ → Items → Members → Type 0
ReadsRow result = ReadsKind result kind.Row

abbrev pub ReadsFunction : Result Term ReadFault → ℕ → Items → Members → Type 0
ReadsFunction result = ReadsKind result kind.Function

-- and of one that is a call
abbrev pub ReadsCall : Result Term ReadFault → ℕ → Items → Members → Type 0
ReadsCall result n ds ms = (args : Parts) (opts : NamedParts) → shaped_all ds ≡ Ok args → shaped_named ms ≡ Ok opts → Understands form_of result (read (call n args opts))

-- what the parts of a query ask for
abbrev pub started : Data → Members → Result Asked ReadFault
started d opts = shaped d >>= λ w. asked_by (start w opts)

abbrev pub started_by : Items → Result Asked ReadFault
started_by no_items = Err BadShape
started_by (item d ds) = options_in ds >>= λ opts. started d opts

abbrev pub asked_kind : ℕ → Items → Result Asked ReadFault
asked_kind n ds =
    if nat_eq n 1 then started_by ds else (
    if nat_eq n 2 then Ok continued else (
    if nat_eq n 3 then Ok stop else (
    if nat_eq n 4 then Ok noreply_wait else (
    if nat_eq n 5 then Ok server_info else Err BadShape))))

abbrev pub asked_parts : Items → Result Asked ReadFault
asked_parts no_items = Err BadShape
asked_parts (item n ds) = number_in n >>= λ k. asked_kind k ds

abbrev pub asked_of : Data → Result Asked ReadFault
asked_of d = items_in d >>= asked_parts
