use Rattle.reql_table_spec.proofs.Reading.{points, ranges, named_ranges, limits, limits_by_key}
use Rattle.reql_table_spec.proofs.laws.requests_are_read.Goals as goal

pub returns : goal.returns
returns c = record { points = points; ranges = ranges; named_ranges = named_ranges; limits = limits; limits_by_key = limits_by_key }
