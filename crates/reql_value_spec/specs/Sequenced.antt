-- What sequences give: an array on an array, else a stream; some terms keep a selection a selection. And the limits on what a term gives.
use Rattle.std.specs.Prelude.{ℕ, nat_lt, length, List, [], ◌∷◌, if◌then◌else◌, Ok, Err}
use Rattle.reql_datum.specs.Answer.{Answer, ◌>>=◌}
use Rattle.reql_datum.specs.Plain.{Plain}
use Rattle.reql_rules.specs.Faults.{misplaced, over_array}
use Rattle.reql_rules.specs.Lists.{array_of, each}
use Rattle.reql_rules.specs.Sizes.{short, shallow, within}
use Rattle.reql_value_spec.specs.Meant.{Kind, some_rows, rows_in_array, Meant, one, stream, selection, table, grouped, Given, given, Gives, Rule, meant_of}
use Rattle.reql_value_spec.specs.Wanted.{to_datum}

abbrev pub like : Meant → List Plain → Meant
like (one d) ds = one (array_of ds)
like m ds = stream ds

-- a selection that prints as an array stays one
abbrev pub selected : Kind → Kind
selected rows_in_array = rows_in_array
selected k = some_rows

abbrev pub alike : Meant → List Plain → Meant
alike (one d) ds = one (array_of ds)
alike (selection n k es) ds = selection n (selected k) ds
alike (table n) ds = selection n some_rows ds
alike m ds = stream ds

-- in an order of its own: an array, or a selection that prints as one
abbrev pub in_order : Meant → List Plain → Meant
in_order (selection n k es) ds = selection n rows_in_array ds
in_order (table n) ds = selection n rows_in_array ds
in_order m ds = one (array_of ds)

-- what a rule gives: a plain value, an array, a stream, or groups
abbrev pub giving : {A : Type 0} → (A → Meant) → Gives A → Rule
giving make f w calls gs opts = f w calls gs opts >>= λ x. Ok (make x)

abbrev pub datum : Gives Plain → Rule
datum = giving one

abbrev pub array : Gives (List Plain) → Rule
array = giving (λ ds. one (array_of ds))

abbrev pub streamed : Gives (List Plain) → Rule
streamed = giving stream

abbrev pub in_groups : Gives (List (Plain × Plain)) → Rule
in_groups = giving grouped

-- or a sequence as the first argument is one
abbrev pub by_first : (Meant → List Plain → Meant) → Gives (List Plain) → Rule
by_first make f w calls [] opts = Err misplaced
by_first make f w calls (g ∷ gs) opts = f w calls (g ∷ gs) opts >>= λ ds. Ok (make (meant_of g) ds)

abbrev pub like_first : Gives (List Plain) → Rule
like_first = by_first like

abbrev pub alike_first : Gives (List Plain) → Rule
alike_first = by_first alike

-- what a term gives keeps the limits
abbrev pub sized_rows : ℕ → ℕ → Kind → List Plain → Answer Meant
sized_rows limit n rows_in_array ds = if nat_lt limit (length ds) then Err (over_array limit) else Ok (selection n rows_in_array ds)
sized_rows limit n k ds = Ok (selection n k ds)

abbrev pub sized_group : ℕ → Plain × Plain → Answer (Plain × Plain)
sized_group limit g = short limit g.1 >>= λ d. Ok (g.0, d)

abbrev pub sized : ℕ → Meant → Answer Meant
sized limit (one d) = within limit d >>= λ e. Ok (one e)
sized limit (stream ds) = each shallow ds >>= λ es. Ok (stream es)
sized limit (selection n k ds) = sized_rows limit n k ds
sized limit (grouped gs) = each (sized_group limit) gs >>= λ hs. Ok (grouped hs)
sized limit m = Ok m

-- where the first argument is grouped, the term is applied to the members of each group
abbrev pub on_group : (Meant → Answer Meant) → Plain × Plain → Answer (Plain × Plain)
on_group f g = do
  m ← f (one g.1)
  d ← to_datum m
  Ok (g.0, d)

abbrev pub on_groups : (Meant → Answer Meant) → Meant → Answer Meant
on_groups f (grouped gs) = each (on_group f) gs >>= λ hs. Ok (grouped hs)
on_groups f m = f m

abbrev pub on_first : (Given → Answer Meant) → Given → Answer Meant
on_first f (given m) = on_groups (λ n. f (given n)) m
on_first f g = f g

-- a rule applied to its arguments: at once, or by groups
abbrev pub at_once : ℕ → (List Given → Answer Meant) → List Given → Answer Meant
at_once limit rule gs = rule gs >>= sized limit

abbrev pub by_groups : ℕ → (List Given → Answer Meant) → List Given → Answer Meant
by_groups limit rule [] = at_once limit rule []
by_groups limit rule (g ∷ gs) = on_first (λ h. at_once limit rule (h ∷ gs)) g
