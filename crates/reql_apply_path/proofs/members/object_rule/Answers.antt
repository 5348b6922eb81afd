use Rattle.std.proofs.Common.{◌≡◌, true, false, rules, sym, ap, ◌∙◌, Ok, Err}
use Rattle.reql_datum.specs.Answer.{◌>>=◌}
use Rattle.reql_rules.specs.Lists.{object_of}
use Rattle.reql_operand.specs.Seen.{all_shown}
use Rattle.reql_apply_path.specs.Pairs.{are_pairs}
use Rattle.reql_apply_path.proofs.Paired.{object_none, object_some, object_fails}
use Rattle.reql_apply_path.proofs.members.object_rule.Goals as goal

pub returns-then-not-are_pairs : goal.returns-then-not-are_pairs
returns-then-not-are_pairs c w calls opts =
    let told = c.are_pairs.ensures w in
    let odd : are_pairs (all_shown w c.args.args.now) ≡ false = search (rules, told) in
    object_none (all_shown w c.args.args.now) odd ∙ ap Err (sym c.in_ok-misplaced.ensures)

pub returns-in_err-fields : goal.returns-in_err-fields
returns-in_err-fields c w calls opts =
    let told = c.are_pairs.ensures w in
    let even : are_pairs (all_shown w c.args.args.now) ≡ true = search (rules, told) in
    let fails = object_fails (all_shown w c.args.args.now) c.in_err-fields.field-0.0 even (c.in_err-fields.ensures w) in
    search (rules, fails)

pub returns : goal.returns
returns c w calls opts =
    let told = c.are_pairs.ensures w in
    let even : are_pairs (all_shown w c.args.args.now) ≡ true = search (rules, told) in
    object_some (all_shown w c.args.args.now) even ∙ ap (λ r. r >>= λ ms. Ok (object_of ms)) (c.in_ok-fields.ensures w)
