use Rattle.std.proofs.Common.{sym, ap, ◌∙◌}
use Rattle.reql_feed_spec.specs.Kept.{is_shape}
use Rattle.reql_table.specs.Seen.{documents_of, indexes_of}
use Rattle.reql_term.specs.View.{form_of}
use Rattle.reql_feed_read.specs.Follows.{indexes_in}
use Rattle.reql_feed_read.specs.Seen.{source_of}
use Rattle.reql_feed_read.proofs.Outside.{read_leaves_out}
use Rattle.reql_feed_read.proofs.Requests.{no_documents}
use Rattle.reql_feed_read.proofs.follows.shape_on.Goals as goal

pub invariant_of-result : goal.invariant_of-result
invariant_of-result c =
    record {
      is_one = ap (is_shape c.args.slot) c.in_ok-term.ensures ∙ c.requires.shape;
      is_empty = no_documents (documents_of c.in_ok-empty.empty) c.in_ok-empty.ensures.documents;
      leaves_out = read_leaves_out c.in_ok-key.key c.args.spec.now.key c.args.slot c.in_ok-term.term (form_of c.term-2.result.now) (indexes_of c.in_ok-empty.empty) (indexes_in c.args.index.now) (source_of c.in_ok-source.source)
          c.in_ok-key.ensures (c.in_ok-term.ensures ∙ sym c.term-2.ensures) c.in_ok-empty.ensures.indexes c.in_ok-source.ensures;
    }
