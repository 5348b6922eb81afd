-- What a command that is no entry keeps, which bounds all that the catalogue counts.
use Rattle.std.specs.Prelude.{◌≡◌, ℕ, ◌+◌, ◌≤◌, length}
use Rattle.reql_catalog.specs.declared.catalog.Catalog.{Catalog}

pub record Keeps (c d : Catalog) : Type 0 where
  pub place : d.names.place ≡ c.names.place
  pub most : d.most ≡ c.most
  pub made : d.made ≤ c.made + 1
  pub slots : length c.names.slots ≤ c.most → length d.names.slots ≤ d.most

-- the same of a table of the opening, whose database may be made too
pub record OpensFrom (c d : Catalog) : Type 0 where
  pub place : d.names.place ≡ c.names.place
  pub most : d.most ≡ c.most
  pub made : d.made ≤ c.made + 2
  pub slots : length c.names.slots ≤ c.most → length d.names.slots ≤ d.most
