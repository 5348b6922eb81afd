use Rattle.std.proofs.Common.{◌≡◌, ◌∙◌, sym, ap, arith, rules, Ok, Err, map, length}
use Rattle.reql_datum.specs.View.{plain}
use Rattle.reql_term.specs.View.{form_of}
use Rattle.reql_value_spec.specs.Meaning.{sense}
use Rattle.reql_value_spec.specs.Sense.{options}
use Rattle.reql_value_spec.specs.Table.{rule_of}
use Rattle.reql_operand.specs.Seen.{meant, shown, all_chosen}
use Rattle.reql_operand.specs.Tables.{seen}
use Rattle.reql_term_analysis.specs.Bound.{bound, listed, optional}
use Rattle.reql_term_analysis.specs.Ways.{chosen}
use Rattle.reql_term_analysis.proofs.Objects.{chosen_rising}
use Rattle.reql_term_analysis.proofs.Senses.{call_function, given_function, late_under}
use Rattle.reql_eval.proofs.Terms.{named_rest}
use Rattle.reql_eval.proofs.Ways.{gives_as, array_is, taking_is, taking_ways, lazy_is, lazy_ways, no_default, first_key, other_count}
use Rattle.reql_eval.proofs.cycle.+eval.Goals.{eval_default-in_default-via-then-terms-lt2, eval_default-in_default-via-else-terms-lt2+else-terms-lt3}
use Rattle.reql_eval.proofs.cycle.+eval.Goals as goal

pub call_body-returns : goal.call_body-returns
call_body-returns g t c =
    let w = seen g.V.TableView.documents g.V.TableView.indexes g.V.TableView.entries c.args.world.now in
    other_count c.args.ids.now (sense (form_of c.args.body.now)) c.args.values.now w (bound c.args.vars.now) _ c.if-ids-values.false c.in_ok-wrong_count.ensures

pub call_term-returns-in-Some : goal.call_term-returns-in-Some
call_term-returns-in-Some g t c =
    let w = seen g.V.TableView.documents g.V.TableView.indexes g.V.TableView.entries c.args.world.now in
    let e = call_function (sense (form_of c.args.term.now)) _ w (bound c.args.vars.now) (map plain c.args.values.now) (sym c.in-Some.ensures.which) in
    rw e (rw (c.as_slice.ensures.ids, c.term.ensures) at c.call_body.ensures)

pub eval_array-returns : goal.eval_array-returns
eval_array-returns g t c =
    let w = seen g.V.TableView.documents g.V.TableView.indexes g.V.TableView.entries c.args.world.now in
    gives_as (meant w) _ _ _ (array_is _ (listed c.args.terms.now) w (bound c.args.vars.now) c.new-none.ensures) c.eval_all.ensures

pub eval_by-returns-in-Strict : goal.eval_by-returns-in-Strict
eval_by-returns-in-Strict g t c =
    let w = seen g.V.TableView.documents g.V.TableView.indexes g.V.TableView.entries c.args.world.now in
    gives_as (meant w) _ _ _ (taking_is c.args.way _ (rule_of c.args.op) (listed c.args.terms.now) (optional c.args.opts.now) w (bound c.args.vars.now) c.kind_of.ensures (taking_ways c.args.way c.in-Strict.is)) c.eval_all.ensures

pub eval_by-returns-in-UntilTrue : goal.eval_by-returns-in-UntilTrue
eval_by-returns-in-UntilTrue g t c =
    let w = seen g.V.TableView.documents g.V.TableView.indexes g.V.TableView.entries c.args.world.now in
    gives_as (meant w) _ _ _ (lazy_is c.args.way (rule_of c.args.op) (listed c.args.terms.now) (optional c.args.opts.now) w (bound c.args.vars.now) (lazy_ways c.args.way c.in-UntilTrue.is)) c.eval_lazily.ensures

pub eval_default-returns-in_ok-misplaced-in_default : goal.eval_default-returns-in_ok-misplaced-in_default
eval_default-returns-in_ok-misplaced-in_default g t c =
    let w = seen g.V.TableView.documents g.V.TableView.indexes g.V.TableView.entries c.args.world.now in
    let not_two : length c.args.terms.now ≡ 2 → ⊥ = elim c.in_default.branch [ eval_default-in_default-via-then-terms-lt2 u ↦ λ e. search rules | eval_default-in_default-via-else-terms-lt2+else-terms-lt3 u ↦ λ e. first_of (search (rules, e), grind arith) ] in
    no_default c.args.terms.now w (bound c.args.vars.now) not_two ∙ ap Err (sym c.in_ok-misplaced-in_default.ensures)

pub eval_late-returns-in-Some : goal.eval_late-returns-in-Some
eval_late-returns-in-Some g t c =
    let w = seen g.V.TableView.documents g.V.TableView.indexes g.V.TableView.entries c.args.world.now in
    gives_as (shown w) _ _ _ (late_under (sense (form_of c.args.term.now)) _ w (bound c.args.vars.now) (sym c.in-Some.ensures)) (c.late.ensures w _ c.eval_term.ensures)

pub eval_options-eval_chosen-requires : goal.eval_options-eval_chosen-requires
eval_options-eval_chosen-requires g t c =
    let below = named_rest c.args.opts.now c.loop-name.place _ _ _ c.in-Some.ensures.rest in
    grind (arith, below)

pub eval_options-returns-clause-rising : goal.eval_options-returns-clause-rising
eval_options-returns-clause-rising g t c =
    let w = seen g.V.TableView.documents g.V.TableView.indexes g.V.TableView.entries c.args.world.now in
    let gives : options (chosen c.args.way) (optional c.args.opts.now) w (bound c.args.vars.now) ≡ Ok (all_chosen w c.loop-name.found.items) = search rules in
    chosen_rising (chosen c.args.way) c.args.opts.now w (bound c.args.vars.now) c.loop-name.found.items c.at.ensures.rising gives

pub eval_ordered-returns-in-len1-up : goal.eval_ordered-returns-in-len1-up
eval_ordered-returns-in-len1-up g t c =
    let w = seen g.V.TableView.documents g.V.TableView.indexes g.V.TableView.entries c.args.world.now in
    gives_as (meant w) _ _ _ (first_key c.args.terms.now c.first-item.result w (bound c.args.vars.now) (omega arith) c.first-item.is) (c.out_of_order.ensures w _ c.eval_term.ensures)

pub give_to-returns-in-Some : goal.give_to-returns-in-Some
give_to-returns-in-Some g t c =
    let w = seen g.V.TableView.documents g.V.TableView.indexes g.V.TableView.entries c.args.world.now in
    let e = given_function (sense (form_of c.args.term.now)) _ w (bound c.args.vars.now) (map plain c.args.values.now) (sym c.in-Some.ensures.which) in
    rw e (rw (c.as_slice.ensures.ids, c.term.ensures) at c.call_body.ensures)
