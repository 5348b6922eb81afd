use Rattle.std.proofs.Common.{drop, ◌+◌, sym, ap, subst, ◌∙◌}
use Rattle.serde_json.specs.View.{view, items_view, members_view}
use Rattle.serde_json.proofs.Views.{view-Object}
use Rattle.reql_read.specs.Apart.{done, formed}
use Rattle.reql_read.specs.Outcome.{Understands}
use Rattle.reql_read.specs.Seen.{parts_seen}
use Rattle.reql_read.specs.Shape.{shaped, shaped_all}
use Rattle.reql_read.proofs.Shapes.{term_done, args_fail, options_fail, item_done, item_fails, object_done, split_at}
use Rattle.reql_read.proofs.Understood.{failed_on, is_done, not_done}
use Rattle.reql_read.proofs.shape.+shape.Goals as goal

pub shaped-returns-in-Object : goal.shaped-returns-in-Object
shaped-returns-in-Object t c =
    let same = ap (λ v. done (shaped (view v))) c.in-Object.is ∙ ap (λ d. done (shaped d)) (view-Object c.in-Object.members) ∙ object_done (members_view c.in-Object.members.entries) in
    subst (Understands (λ u. u) c.shaped_named.result) (sym same) c.shaped_named.ensures

pub shaped_all-returns-in_err-shaped : goal.shaped_all-returns-in_err-shaped
shaped_all-returns-in_err-shaped t c =
    let split = split_at c.args.items.now c.loop-item.item-index c.item-item.result c.loop-item-test.true c.item-item.is in
    failed_on (λ u. u) (λ u. u) _ _ c.from_residual.result _ c.from_residual.ensures c.in_err-shaped.ensures
    (λ h. c.loop-item.invariant ∙ ap (λ ds. done (shaped_all ds)) split ∙ item_fails (view c.item-item.result) (items_view (drop (c.loop-item.item-index + 1) c.args.items.now)) c.in_err-shaped.field-0.0 h)

pub shaped_all-loop-item-preserved : goal.shaped_all-loop-item-preserved
shaped_all-loop-item-preserved t c =
    let split = split_at c.args.items.now c.loop-item.item-index c.item-item.result c.loop-item-test.true c.item-item.is in
    c.loop-item.invariant ∙ ap (λ ds. done (shaped_all ds)) split ∙ item_done (view c.item-item.result) (items_view (drop (c.loop-item.item-index + 1) c.args.items.now)) c.in_ok-shaped.ensures

pub shaped_term-returns-in_err-shaped_all : goal.shaped_term-returns-in_err-shaped_all
shaped_term-returns-in_err-shaped_all t c =
    let is = c.in_ok-number.ensures in
    failed_on (λ u. u) (λ u. u) _ _ c.from_residual-in_err-shaped_all.result _ c.from_residual-in_err-shaped_all.ensures c.in_err-shaped_all.ensures
    (λ h. ap done (args_fail _ (parts_seen (c.in_ok-number.number, (c.in_ok-number.args, c.in_ok-number.options))) _ is (not_done _ _ h)))

pub shaped_term-returns-in_err-shaped_options : goal.shaped_term-returns-in_err-shaped_options
shaped_term-returns-in_err-shaped_options t c =
    let is = c.in_ok-number.ensures in
    let all = is_done _ c.in_ok-shaped_all.ensures in
    failed_on (λ u. u) (λ u. u) _ _ c.from_residual-in_err-shaped_options.result _ c.from_residual-in_err-shaped_options.ensures c.in_err-shaped_options.ensures
    (λ h. ap done (options_fail _ (parts_seen (c.in_ok-number.number, (c.in_ok-number.args, c.in_ok-number.options))) all.0 _ is all.1 (not_done _ _ h)))

pub shaped_term-returns : goal.shaped_term-returns
shaped_term-returns t c =
    let is = c.in_ok-number.ensures in
    let all = is_done _ c.in_ok-shaped_all.ensures in
    let opts = is_done _ c.in_ok-shaped_options.ensures in
    let whole = term_done (items_view c.args.term.now) (parts_seen (c.in_ok-number.number, (c.in_ok-number.args, c.in_ok-number.options))) all.0 opts.0 is all.1 opts.1 in
    subst (Understands (λ u. u) c.formed.result) (ap (λ k. formed k (items_view c.in_ok-number.args.now)) c.kind_of.ensures ∙ sym whole) c.formed.ensures
