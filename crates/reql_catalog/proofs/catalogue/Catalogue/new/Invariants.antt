use Rattle.std.proofs.Common.{◌≡◌, ℕ, ◌+◌, ◌*◌, ◌<◌, ◌≤◌, ◌^◌, length, drop}
use Rattle.reql_catalog.specs.Machine.{opened, opening}
use Rattle.reql_catalog.proofs.catalogue.Catalogue.new.Given as goal

abbrev pub invariant-loop-table : goal.invariant-loop-table
invariant-loop-table l = record {
  opened : opened (drop l.table-index l.tables) l.known ≡ opening l.tables l.slots;
  place : l.known.names.place ≡ 0;
  most : l.known.most ≡ l.slots;
  made : l.known.made ≤ 2 * l.table-index + 2;
  slots : length l.known.names.slots ≤ l.known.most;
  small : l.slots < 2 ^ 32;
  index : l.table-index ≤ length l.tables;
  few : length l.tables < 2 ^ 64;
}
