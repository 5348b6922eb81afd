-- What the first argument of a term reads, by what the term does with it.
use Rattle.std.specs.Prelude.{ℕ, List}
use Rattle.reql_term.specs.Form.{Form}
use Rattle.reql_faults.specs.Shapes.{shape}
use Rattle.reql_write_spec.specs.Selecting.{is_chain}
use Rattle.reql_plan_spec.specs.Reads.{but_first, is_slot, feed_reads}
use Rattle.reql_reads.specs.declared.first.First.{First}
use Rattle.reql_reads.specs.declared.first.First.TheVariants as first

unfoldable pub reads_by : First → Form → List ℕ → List ℕ
reads_by first.Rows f ns = but_first (is_chain f) ns
reads_by first.Target f ns = but_first (is_slot f) ns
reads_by first.Followed f ns = feed_reads (shape f) f
reads_by first.Whole f ns = ns
