-- The rows of the code's table, computed over all of them: each says of its operator what the definitions do.
use Rattle.std.proofs.Common.{◌≡◌, ℕ, zero, suc, List, [], ◌∷◌, map, get_or, slice_get, Some, refl, ap, ◌∙◌}
use Rattle.reql_term.specs.OpCode.{op_back}
use Rattle.reql_term.specs.Rows.{line_in}
use Rattle.reql_term.specs.Table.{place, every_op, Line, line_of, way_of, naming_of, task_of}
use Rattle.reql_term.specs.declared.op.Op.{Op}
use Rattle.reql_term.specs.declared.op.Op.TheVariants as op
use Rattle.reql_term.specs.declared.role.Naming.{Naming}
use Rattle.reql_term.specs.declared.role.Task.{Task}
use Rattle.reql_term.specs.declared.role.Way.{Way}
use Rattle.reql_term.specs.declared.table.Row.{Row}
use Rattle.reql_term.specs.declared.table.TheConstants.{TABLE}

abbrev Said : Type 0
Said = Op × Line × Way × Naming × Task

abbrev seen : Row → Said
seen r = (r.op, line_in r, r.way, r.naming, r.task)

abbrev said : Op → Said
said o = (o, line_of o, way_of o, naming_of o, task_of o)

rows_are : map seen TABLE ≡ map said every_op
rows_are = refl

same_at : (rows : List Row) (ops : List Op) (i : ℕ) (r : Row) → map seen rows ≡ map said ops → Some r ≡ slice_get rows i → seen r ≡ said (get_or ops i op.Minval)
same_at [] ops i r same is = cc
same_at (q ∷ rows) [] i r same is = cc
same_at (q ∷ rows) (o ∷ ops) zero r same is = let e : r ≡ q = cc in ap seen e ∙ (let f : seen q ≡ said o = cc in f)
same_at (q ∷ rows) (o ∷ ops) (suc i) r same is = same_at rows ops i r (let e : map seen rows ≡ map said ops = cc in e) is

row_is : (o : Op) (r : Row) → Some r ≡ slice_get TABLE (place o) → seen r ≡ said o
row_is o r is = same_at TABLE every_op (place o) r rows_are is ∙ ap said (op_back o)

pub line_at : (o : Op) (r : Row) → Some r ≡ slice_get TABLE (place o) → line_in r ≡ line_of o
line_at o r is = ap (λ (s : Said). s.1) (row_is o r is)

pub way_at : (o : Op) (r : Row) → Some r ≡ slice_get TABLE (place o) → r.way ≡ way_of o
way_at o r is = ap (λ (s : Said). s.2) (row_is o r is)

pub naming_at : (o : Op) (r : Row) → Some r ≡ slice_get TABLE (place o) → r.naming ≡ naming_of o
naming_at o r is = ap (λ (s : Said). s.3) (row_is o r is)

pub task_at : (o : Op) (r : Row) → Some r ≡ slice_get TABLE (place o) → r.task ≡ task_of o
task_at o r is = ap (λ (s : Said). s.4) (row_is o r is)
