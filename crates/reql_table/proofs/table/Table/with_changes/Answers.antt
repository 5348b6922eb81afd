use Rattle.std.proofs.Common.{◌≡◌, ◌<◌, List, map, take, length, option_map, ap, sym, ◌∙◌, subst, rules}
use Rattle.std.specs.List.{AllByRecursion}
use Rattle.std.proofs.lemmas.List.{length-map}
use Rattle.reql_datum.specs.Members.{AreRising}
use Rattle.reql_datum.specs.Plain.{Plain}
use Rattle.reql_datum.specs.View.{plain}
use Rattle.reql_ptree.specs.Pairs.{find}
use Rattle.reql_term.specs.Views.{Document}
use Rattle.reql_write_spec.specs.Treated.{Changed, changed, changed_by}
use Rattle.reql_table.specs.Edits.{seen_if, told}
use Rattle.reql_table.specs.Seen.{documents_of, next_of, numbered, AreNumbered, IsFiled}
use Rattle.reql_table.proofs.Coming.{next_change, at_map, take_whole, all_rise, turned_is}
use Rattle.reql_table.proofs.Listed.{keeps_those}
use Rattle.reql_table.proofs.table.Table.with_changes.Goals as goal

pub loop-change-preserved : goal.loop-change-preserved
loop-change-preserved c =
    let docs = documents_of c.args.self.now in
    let cs = c.args.changes.now in
    let n = c.loop-change.change-index in
    let one = c.change-item.result in
    let less : n < length cs = search rules in
    let here = at_map told cs n one ∙ ap told (sym c.change-item.is) in
    let old : option_map plain one.old ≡ seen_if c.turn_of-turn.result.old = search rules in (
      c.in_ok-indexes-2.ensures.numbered ∙ c.loop-change.invariant.0,
      next_change (λ (ds : List Document). AllByRecursion (IsFiled ds) c.loop-change.indexes.items) (λ (ds : List Document). AllByRecursion (IsFiled ds) c.in_ok-indexes-2.indexes.items)
          docs (map told cs) n (told one) (subst (λ k. n < k) (sym (length-map cs told)) less) c.tree-documents.ensures.rising c.requires.come
          (λ ds up there filed.
          subst (λ (x : Changed). AllByRecursion (IsFiled (changed ds x)) c.in_ok-indexes-2.indexes.items) (sym here)
          (subst (λ (d : List Document). AllByRecursion (IsFiled d) c.in_ok-indexes-2.indexes.items) (turned_is c.turn_of-turn.result (told one) ds c.turn_of-turn.ensures.key c.turn_of-turn.ensures.new)
          (c.in_ok-indexes-2.ensures.filed ds up
          (ap (λ (k : Plain). find k ds) c.turn_of-turn.ensures.key ∙ subst (λ (x : Changed). find x.key ds ≡ x.old) here there ∙ old)
          filed)))
          c.loop-change.invariant.1,
    )

pub invariant_of-result : goal.invariant_of-result
invariant_of-result c =
    let docs = documents_of c.args.self.now in
    let cs = c.args.changes.now in
    let is = c.loop-change.indexes.items in
    let end : c.loop-change.change-index ≡ length cs = search rules in
    let next : next_of c.args.self.now ≡ c.self.inside.next = search rules in
    keeps_those (changed_by docs (map told cs)) _ is _ (c.documents.view_is ∙ c.requires.documents) c.in_ok-held.ensures (all_rise docs (map told cs) c.tree-documents.ensures.rising)
    (subst AreRising (c.in_ok-indexes.ensures.indexes ∙ sym c.loop-change.invariant.0) c.in_ok-indexes.ensures.names)
    (subst (λ ys. AllByRecursion (IsFiled (changed_by docs ys)) is) (ap (λ k. take k (map told cs)) end ∙ take_whole told cs) c.loop-change.invariant.1)
    _ (subst (λ n. AreNumbered (map numbered is) n) next (subst (λ ms. AreNumbered ms (next_of c.args.self.now)) (sym c.loop-change.invariant.0) c.copied_indexes.ensures.numbers))
