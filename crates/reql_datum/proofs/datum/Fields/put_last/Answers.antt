use Rattle.std.proofs.Common.{length, map, sym, subst}
use Rattle.std.proofs.lemmas.Cmp.{nat_list_cmp_total}
use Rattle.std.specs.Map.{keys_of}
use Rattle.reql_memory.specs.Sorted.{IsGapBy}
use Rattle.reql_memory.specs.CopyOnWrite.{held_items}
use Rattle.reql_memory.proofs.Sorted.{find_gap}
use Rattle.reql_datum.specs.Members.{text_order}
use Rattle.reql_datum.specs.View.{plain, member}
use Rattle.reql_datum.proofs.Shaped.{holds_new}
use Rattle.reql_datum.proofs.datum.Fields.put_last.Goals as goal

pub invariant_of-self-2 : goal.invariant_of-self-2
invariant_of-self-2 c =
    let ms = map member (held_items c.self.inside.held) in
    let above : IsGapBy text_order (keys_of ms) c.args.name (length ms) = subst (λ ns. IsGapBy text_order (keys_of ns) c.args.name (length ns)) (sym c.self.view_is) c.requires in
    holds_new c.self.inside.shape c.beside-self-inside.result c.args.name (plain c.args.value) ms (map member (held_items c.put_last.new.held)) c.self.invariant
    c.in_ok-put_last.ensures.entries c.in_ok-put_last.ensures.rising
    (sym (find_gap text_order nat_list_cmp_total ms c.args.name (length ms) c.self.invariant.rising above))
    (rw c.member_shape-new.ensures at c.beside-self-inside.ensures)
