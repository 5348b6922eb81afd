use Rattle.std.proofs.Common.{◌≡◌, ap, sym, subst, Option}
use Rattle.reql_datum.specs.Plain.{Plain}
use Rattle.reql_datum.specs.View.{plain}
use Rattle.reql_term.specs.Views.{index_of}
use Rattle.reql_value_spec.specs.Index.{index_list}
use Rattle.reql_write_spec.specs.Treated.{set_at}
use Rattle.reql_table.specs.Edits.{seen_if, key_at}
use Rattle.reql_table.specs.Keys.{pairs_of}
use Rattle.reql_table.proofs.Filing.{out_result, put_result}
use Rattle.reql_table.proofs.refile.tree_after.Goals as goal

pub returns-in_ok-take_out-in-None : goal.returns-in_ok-take_out-in-None
returns-in_ok-take_out-in-None c = λ docs up there filed.
    let i = index_of c.args.def.now in
    let k = key_at c.args.turn.now in
    subst (λ (o : Option Plain). c.take_out.new.tree ≡ pairs_of (index_list (set_at k o docs) i)) (sym (ap seen_if c.in-None.is))
    (out_result i docs k (seen_if c.args.turn.now.old) c.in_ok-old.old c.args.tree c.take_out.new.tree c.in_ok-take_out-in-None.ensures c.in_ok-old.ensures up there filed)

pub returns-in_ok-put_in-in-Some : goal.returns-in_ok-put_in-in-Some
returns-in_ok-put_in-in-Some c = λ docs up there filed.
    let i = index_of c.args.def.now in
    let k = key_at c.args.turn.now in
    subst (λ (o : Option Plain). c.put_in.new.tree ≡ pairs_of (index_list (set_at k o docs) i)) (sym (ap seen_if c.in-Some.is))
    (put_result i docs k (plain c.in-Some.document.now) (seen_if c.args.turn.now.old) c.in_ok-old.old c.in_ok-gone-in-Some.gone c.in_ok-new-in-Some.new c.args.tree c.take_out-in-Some.new.tree c.put_in.new.tree
    c.in_ok-put_in-in-Some.ensures c.in_ok-take_out-in-Some.ensures c.in_ok-old.ensures c.in_ok-new-in-Some.ensures c.in_ok-gone-in-Some.ensures up there filed)
