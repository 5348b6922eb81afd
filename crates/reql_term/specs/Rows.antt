-- What a row of the code's table says.
use Rattle.std.specs.Prelude.{map}
use Rattle.reql_term.specs.Table.{Names, any_name, only, none, Line}
use Rattle.reql_term.specs.declared.table.Row.{Row}
use Rattle.reql_term.specs.declared.table.Options.{Options}
use Rattle.reql_term.specs.declared.table.Options.TheVariants as o
use Rattle.reql_term.specs.declared.table.TheConstants.{BOUNDS, INDEX, DEFAULT, INTERLEAVE, READ, INDEX_BOUNDS, INSERT, WRITE, CREATE, MULTI, OVERWRITE, CHANGES}

abbrev pub names_of : Options → Names
names_of o.Any = any_name
names_of o.None = none
names_of o.Bounds = only (map (λ s. s.now) BOUNDS)
names_of o.Index = only (map (λ s. s.now) INDEX)
names_of o.Default = only (map (λ s. s.now) DEFAULT)
names_of o.Interleave = only (map (λ s. s.now) INTERLEAVE)
names_of o.Read = only (map (λ s. s.now) READ)
names_of o.IndexBounds = only (map (λ s. s.now) INDEX_BOUNDS)
names_of o.Insert = only (map (λ s. s.now) INSERT)
names_of o.Write = only (map (λ s. s.now) WRITE)
names_of o.Create = only (map (λ s. s.now) CREATE)
names_of o.Multi = only (map (λ s. s.now) MULTI)
names_of o.Overwrite = only (map (λ s. s.now) OVERWRITE)
names_of o.Changes = only (map (λ s. s.now) CHANGES)

abbrev pub line_in : Row → Line
line_in r = record { number = r.number; least = r.least; most = r.most; parity = r.parity; options = names_of r.options }
