use Rattle.reql_table_machine_spec.proofs.Skipping.{oldest_are_skipped, skips_count, nothing_is_skipped, skips_of_full_queues, skips_between_takes}
use Rattle.reql_table_machine_spec.proofs.laws.skips_of_full_queues.Goals as goal

pub returns : goal.returns
returns g c = record {
  oldest = oldest_are_skipped g.F.Meaning.feeding;
  counted = skips_count g.F.Meaning.feeding;
  room = nothing_is_skipped g.F.Meaning.feeding;
  full = skips_of_full_queues g.F.Meaning.feeding;
  between = skips_between_takes g.F.Meaning.feeding;
}
