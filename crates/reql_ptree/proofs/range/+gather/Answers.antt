use Rattle.std.proofs.Common.{rules, ◌≡◌, ◌-◌, ◌++◌, length, take, IfOk, option_map, sym, ◌∙◌, subst, arith}
use Rattle.reql_datum.specs.View.{plain}
use Rattle.reql_ptree.specs.Ends.{cut_seen, given}
use Rattle.reql_ptree.specs.Way.{pairs_in}
use Rattle.reql_ptree.proofs.Ranges.{left_up, right_up, between_right, between_left}
use Rattle.reql_ptree.proofs.Gathering.{opens_any, waits_past, waits_before, spends_right, spends_left, rising_ok, rising_full, falling_ok, falling_full, rising_both, rising_first, falling_both, falling_first}
use Rattle.reql_ptree.proofs.range.+gather.Goals as goal

pub gather-requires : goal.gather-requires
gather-requires g t c κs within =
    let low = option_map cut_seen c.args.range.now.low in
    let high = option_map cut_seen c.args.range.now.high in
    let first = plain c.first-first.result.now in
    let first_is = c.first-first.ensures.first in
    (omega (arith, c.decreases, c.in-Some.ensures.node.high), (search rules, (right_up low high (pairs_in c.args.waiting) c.in-Some.ensures c.requires.rising first first_is, (c.requires.room, waits_past low high first c.in-Some.node.now.chunk (sym c.is_past.ensures ∙ c.if-not-is_past.true)))))

pub returns-then-not-is_past-clause-values : goal.returns-then-not-is_past-clause-values
returns-then-not-is_past-clause-values g t c =
    let low = option_map cut_seen c.args.range.now.low in
    let high = option_map cut_seen c.args.range.now.high in
    let first = plain c.first-first.result.now in
    let first_is = c.first-first.ensures.first in
    subst (λ ms. IfOk c.gather.result (λ _. c.gather.new.out ≡ take c.args.range.now.most (c.args.out.now ++ given c.args.range.now.falling ms))) (sym (between_right low high (pairs_in c.args.waiting) c.in-Some.ensures c.requires.rising first first_is (sym c.is_past.ensures ∙ c.if-not-is_past.true))) c.gather.ensures.values

pub returns-then-not-is_past-clause-counted : goal.returns-then-not-is_past-clause-counted
returns-then-not-is_past-clause-counted g t c =
    let low = option_map cut_seen c.args.range.now.low in
    let high = option_map cut_seen c.args.range.now.high in
    let first = plain c.first-first.result.now in
    let first_is = c.first-first.ensures.first in
    spends_right low high (pairs_in c.args.waiting) c.in-Some.ensures c.requires.rising first first_is c.args.range.now.falling (c.args.range.now.most - length c.args.out.now) c.args.steps.now c.tick.new.self c.gather.new.steps c.tick.ensures.at_most_one (sym c.is_past.ensures ∙ c.if-not-is_past.true) c.gather.ensures.counted

pub gather-requires-then-not-is_before : goal.gather-requires-then-not-is_before
gather-requires-then-not-is_before g t c κs within =
    let low = option_map cut_seen c.args.range.now.low in
    let high = option_map cut_seen c.args.range.now.high in
    let first = plain c.first-first.result.now in
    let first_is = c.first-first.ensures.first in
    (omega (arith, c.decreases, c.in-Some.ensures.node.high), (search rules, (left_up low high (pairs_in c.args.waiting) c.in-Some.ensures c.requires.rising first first_is, (c.requires.room, c.requires.opens))))

pub returns-then-not-is_before-clause-values : goal.returns-then-not-is_before-clause-values
returns-then-not-is_before-clause-values g t c =
    let low = option_map cut_seen c.args.range.now.low in
    let high = option_map cut_seen c.args.range.now.high in
    let first = plain c.first-first.result.now in
    let first_is = c.first-first.ensures.first in
    subst (λ ms. IfOk c.gather-then-not-is_before.result (λ _. c.gather-then-not-is_before.new.out ≡ take c.args.range.now.most (c.args.out.now ++ given c.args.range.now.falling ms))) (sym (between_left low high (pairs_in c.args.waiting) c.in-Some.ensures c.requires.rising first first_is (sym c.is_before.ensures ∙ c.if-not-is_before.true))) c.gather-then-not-is_before.ensures.values

pub returns-then-not-is_before-clause-counted : goal.returns-then-not-is_before-clause-counted
returns-then-not-is_before-clause-counted g t c =
    let low = option_map cut_seen c.args.range.now.low in
    let high = option_map cut_seen c.args.range.now.high in
    let first = plain c.first-first.result.now in
    let first_is = c.first-first.ensures.first in
    spends_left low high (pairs_in c.args.waiting) c.in-Some.ensures c.requires.rising first first_is c.args.range.now.falling (c.args.range.now.most - length c.args.out.now) c.args.steps.now c.tick.new.self c.gather-then-not-is_before.new.steps c.tick.ensures.at_most_one (sym c.is_before.ensures ∙ c.if-not-is_before.true) c.gather-then-not-is_before.ensures.counted

pub gather-requires-then-range : goal.gather-requires-then-range
gather-requires-then-range g t c κs within =
    let low = option_map cut_seen c.args.range.now.low in
    let high = option_map cut_seen c.args.range.now.high in
    let first = plain c.first-first.result.now in
    let first_is = c.first-first.ensures.first in
    (omega (arith, c.decreases, c.in-Some.ensures.node.high), (search rules, (right_up low high (pairs_in c.args.waiting) c.in-Some.ensures c.requires.rising first first_is, (c.requires.room, λ _. waits_before low high (pairs_in c.args.waiting) c.in-Some.ensures c.requires.rising first first_is (sym c.is_before.ensures ∙ c.if-not-is_before.false)))))

pub returns-in_err-gather-clause-counted : goal.returns-in_err-gather-clause-counted
returns-in_err-gather-clause-counted g t c =
    let low = option_map cut_seen c.args.range.now.low in
    let high = option_map cut_seen c.args.range.now.high in
    let first = plain c.first-first.result.now in
    let first_is = c.first-first.ensures.first in
    falling_first low high (pairs_in c.args.waiting) c.in-Some.ensures c.requires.rising first first_is (sym c.is_past.ensures ∙ c.if-not-is_past.false) (sym c.is_before.ensures ∙ c.if-not-is_before.false) c.args.range.now.falling (c.args.range.now.most - length c.args.out.now) c.args.steps.now c.tick.new.self c.gather-then-range.new.steps c.tick.ensures.at_most_one c.if-range.true c.gather-then-range.ensures.counted

pub returns-then-len-range-clause-values : goal.returns-then-len-range-clause-values
returns-then-len-range-clause-values g t c =
    let low = option_map cut_seen c.args.range.now.low in
    let high = option_map cut_seen c.args.range.now.high in
    let first = plain c.first-first.result.now in
    let first_is = c.first-first.ensures.first in
    falling_full low high (pairs_in c.args.waiting) c.in-Some.ensures c.requires.rising first first_is (sym c.is_past.ensures ∙ c.if-not-is_past.false) (sym c.is_before.ensures ∙ c.if-not-is_before.false) c.args.range.now.falling c.if-range.true c.args.range.now.most c.args.out.now c.gather-then-range.new.out c.in_ok-gather.ensures.values (omega (arith, c.if-len-range.true, c.len.ensures))

pub returns-then-len-range-clause-counted : goal.returns-then-len-range-clause-counted
returns-then-len-range-clause-counted g t c =
    let low = option_map cut_seen c.args.range.now.low in
    let high = option_map cut_seen c.args.range.now.high in
    let first = plain c.first-first.result.now in
    let first_is = c.first-first.ensures.first in
    falling_first low high (pairs_in c.args.waiting) c.in-Some.ensures c.requires.rising first first_is (sym c.is_past.ensures ∙ c.if-not-is_past.false) (sym c.is_before.ensures ∙ c.if-not-is_before.false) c.args.range.now.falling (c.args.range.now.most - length c.args.out.now) c.args.steps.now c.tick.new.self c.gather-then-range.new.steps c.tick.ensures.at_most_one c.if-range.true c.gather-then-range.ensures.counted

pub gather-requires-then-range-2 : goal.gather-requires-then-range-2
gather-requires-then-range-2 g t c κs within =
    let low = option_map cut_seen c.args.range.now.low in
    let high = option_map cut_seen c.args.range.now.high in
    let first = plain c.first-first.result.now in
    let first_is = c.first-first.ensures.first in
    (omega (arith, c.decreases, c.in-Some.ensures.node.high), (search rules, (left_up low high (pairs_in c.args.waiting) c.in-Some.ensures c.requires.rising first first_is, ((omega (arith, c.if-len-range.false, c.len.ensures)), λ _. opens_any (pairs_in c.args.waiting)))))

pub returns-then-range-clause-values : goal.returns-then-range-clause-values
returns-then-range-clause-values g t c =
    let low = option_map cut_seen c.args.range.now.low in
    let high = option_map cut_seen c.args.range.now.high in
    let first = plain c.first-first.result.now in
    let first_is = c.first-first.ensures.first in
    falling_ok low high (pairs_in c.args.waiting) c.in-Some.ensures c.requires.rising first first_is (sym c.is_past.ensures ∙ c.if-not-is_past.false) (sym c.is_before.ensures ∙ c.if-not-is_before.false) c.args.range.now.falling c.if-range.true c.args.range.now.most c.args.out.now c.gather-then-range.new.out c.gather-then-range-2.new.out c.gather-then-range-2.result c.in_ok-gather.ensures.values c.gather-then-range-2.ensures.values

pub returns-then-range-clause-counted : goal.returns-then-range-clause-counted
returns-then-range-clause-counted g t c =
    let low = option_map cut_seen c.args.range.now.low in
    let high = option_map cut_seen c.args.range.now.high in
    let first = plain c.first-first.result.now in
    let first_is = c.first-first.ensures.first in
    falling_both low high (pairs_in c.args.waiting) c.in-Some.ensures c.requires.rising first first_is (sym c.is_past.ensures ∙ c.if-not-is_past.false) (sym c.is_before.ensures ∙ c.if-not-is_before.false) c.args.range.now.falling c.args.range.now.most c.args.out.now c.gather-then-range.new.out c.args.steps.now c.tick.new.self c.gather-then-range.new.steps c.gather-then-range-2.new.steps c.tick.ensures.at_most_one c.if-range.true c.in_ok-gather.ensures.values (omega (arith, c.if-len-range.false, c.len.ensures)) c.gather-then-range.ensures.counted c.gather-then-range-2.ensures.counted

pub gather-requires-2 : goal.gather-requires-2
gather-requires-2 g t c κs within =
    let low = option_map cut_seen c.args.range.now.low in
    let high = option_map cut_seen c.args.range.now.high in
    let first = plain c.first-first.result.now in
    let first_is = c.first-first.ensures.first in
    (omega (arith, c.decreases, c.in-Some.ensures.node.high), (search rules, (left_up low high (pairs_in c.args.waiting) c.in-Some.ensures c.requires.rising first first_is, (c.requires.room, λ _. opens_any (pairs_in c.args.waiting)))))

pub returns-in_err-gather-2-clause-counted : goal.returns-in_err-gather-2-clause-counted
returns-in_err-gather-2-clause-counted g t c =
    let low = option_map cut_seen c.args.range.now.low in
    let high = option_map cut_seen c.args.range.now.high in
    let first = plain c.first-first.result.now in
    let first_is = c.first-first.ensures.first in
    rising_first low high (pairs_in c.args.waiting) c.in-Some.ensures c.requires.rising first first_is (sym c.is_past.ensures ∙ c.if-not-is_past.false) (sym c.is_before.ensures ∙ c.if-not-is_before.false) c.args.range.now.falling (c.args.range.now.most - length c.args.out.now) c.args.steps.now c.tick.new.self c.gather-2.new.steps c.tick.ensures.at_most_one c.if-range.false c.gather-2.ensures.counted

pub returns-then-len-range-2-clause-values : goal.returns-then-len-range-2-clause-values
returns-then-len-range-2-clause-values g t c =
    let low = option_map cut_seen c.args.range.now.low in
    let high = option_map cut_seen c.args.range.now.high in
    let first = plain c.first-first.result.now in
    let first_is = c.first-first.ensures.first in
    rising_full low high (pairs_in c.args.waiting) c.in-Some.ensures c.requires.rising first first_is (sym c.is_past.ensures ∙ c.if-not-is_past.false) (sym c.is_before.ensures ∙ c.if-not-is_before.false) c.args.range.now.falling c.if-range.false c.args.range.now.most c.args.out.now c.gather-2.new.out c.in_ok-gather-2.ensures.values (omega (arith, c.if-len-range-2.true, c.len-2.ensures))

pub returns-then-len-range-2-clause-counted : goal.returns-then-len-range-2-clause-counted
returns-then-len-range-2-clause-counted g t c =
    let low = option_map cut_seen c.args.range.now.low in
    let high = option_map cut_seen c.args.range.now.high in
    let first = plain c.first-first.result.now in
    let first_is = c.first-first.ensures.first in
    rising_first low high (pairs_in c.args.waiting) c.in-Some.ensures c.requires.rising first first_is (sym c.is_past.ensures ∙ c.if-not-is_past.false) (sym c.is_before.ensures ∙ c.if-not-is_before.false) c.args.range.now.falling (c.args.range.now.most - length c.args.out.now) c.args.steps.now c.tick.new.self c.gather-2.new.steps c.tick.ensures.at_most_one c.if-range.false c.gather-2.ensures.counted

pub gather-requires-3 : goal.gather-requires-3
gather-requires-3 g t c κs within =
    let low = option_map cut_seen c.args.range.now.low in
    let high = option_map cut_seen c.args.range.now.high in
    let first = plain c.first-first.result.now in
    let first_is = c.first-first.ensures.first in
    (omega (arith, c.decreases, c.in-Some.ensures.node.high), (search rules, (right_up low high (pairs_in c.args.waiting) c.in-Some.ensures c.requires.rising first first_is, ((omega (arith, c.if-len-range-2.false, c.len-2.ensures)), λ _. waits_before low high (pairs_in c.args.waiting) c.in-Some.ensures c.requires.rising first first_is (sym c.is_before.ensures ∙ c.if-not-is_before.false)))))

pub returns-clause-values : goal.returns-clause-values
returns-clause-values g t c =
    let low = option_map cut_seen c.args.range.now.low in
    let high = option_map cut_seen c.args.range.now.high in
    let first = plain c.first-first.result.now in
    let first_is = c.first-first.ensures.first in
    rising_ok low high (pairs_in c.args.waiting) c.in-Some.ensures c.requires.rising first first_is (sym c.is_past.ensures ∙ c.if-not-is_past.false) (sym c.is_before.ensures ∙ c.if-not-is_before.false) c.args.range.now.falling c.if-range.false c.args.range.now.most c.args.out.now c.gather-2.new.out c.gather-3.new.out c.gather-3.result c.in_ok-gather-2.ensures.values c.gather-3.ensures.values

pub returns-clause-counted : goal.returns-clause-counted
returns-clause-counted g t c =
    let low = option_map cut_seen c.args.range.now.low in
    let high = option_map cut_seen c.args.range.now.high in
    let first = plain c.first-first.result.now in
    let first_is = c.first-first.ensures.first in
    rising_both low high (pairs_in c.args.waiting) c.in-Some.ensures c.requires.rising first first_is (sym c.is_past.ensures ∙ c.if-not-is_past.false) (sym c.is_before.ensures ∙ c.if-not-is_before.false) c.args.range.now.falling c.args.range.now.most c.args.out.now c.gather-2.new.out c.args.steps.now c.tick.new.self c.gather-2.new.steps c.gather-3.new.steps c.tick.ensures.at_most_one c.if-range.false c.in_ok-gather-2.ensures.values (omega (arith, c.if-len-range-2.false, c.len-2.ensures)) c.gather-2.ensures.counted c.gather-3.ensures.counted
