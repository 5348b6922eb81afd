use Rattle.reql_table_spec.proofs.LimitTerms.{limit_terms}
use Rattle.reql_table_spec.proofs.PointTerms.{point_terms}
use Rattle.reql_table_spec.proofs.RangeTerms.{range_terms}
use Rattle.reql_table_spec.proofs.laws.feeds_show_their_terms.Goals as goal

pub returns : goal.returns
returns c = record { points = point_terms; ranges = range_terms; limits = limit_terms }
