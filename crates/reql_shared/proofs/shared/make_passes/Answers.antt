use Rattle.std.proofs.Common.{rules, suc, ◌≡◌, ◌+◌, [], ◌∷◌, ◌++◌, length, sym, ap, ◌∙◌, arith}
use Rattle.std.proofs.lemmas.List.FromFn.{map-range_with_len_more, length-map-range_with_len}
use Rattle.reql_shared.specs.Rule.{Lodges, maker, made_one, new_pass, sight}
use Rattle.reql_shared.specs.Sight.{Object, unused}
use Rattle.reql_shared.proofs.Sharing.{numbers_as}
use Rattle.reql_shared.proofs.shared.make_passes.Goals as goal

pub split_seat-seat-requires : goal.split_seat-seat-requires
split_seat-seat-requires g c =
    let i = c.loop-number.invariant in
    (i.0 ∙ c.requires.table, search rules, numbers_as (Lodges g.E.Engine.state g.E.Engine.machine) _ c.args.board.now.key.passes c.args.passes _ c.loop-number.number _ (ap (λ m. m.0) i.1) (sym c.requires.count) (omega (arith, c.loop-number-test.true, c.requires.count)))

pub push_reserved-requires : goal.push_reserved-requires
push_reserved-requires g c =
    let i = c.loop-number.invariant in
    let object : Object g.row.E-State.Denot = record { id = c.args.board.now.table_id; start = g.E.Engine.state c.args.board.now.key.engine.value; passes = c.args.passes } in
    let long = ap length i.3 ∙ length-map-range_with_len (unused object) 0 c.loop-number.number in
    search rules

pub loop-number-preserved : goal.loop-number-preserved
loop-number-preserved g c =
    let i = c.loop-number.invariant in
    let s = c.split_seat-seat.ensures in
    let n = c.loop-number.number in
    let start = g.E.Engine.state c.args.board.now.key.engine.value in
    let object : Object g.row.E-State.Denot = record { id = c.args.board.now.table_id; start = start; passes = c.args.passes } in
    let up : suc n ≡ n + 1 = omega arith in
    let table = s.3 ∙ i.0 ∙ c.requires.table in
    let me = s.4 ∙ (λ k. (new_pass (i.1 k).0, [])) in (
      s.0 ∙ i.0,
      s.2 ∙ (λ k. (made_one (i.1 k).0, (i.1 k).1)) ∙ ap (λ m. (maker start c.args.passes m, [])) up,
      search rules,
      c.push_reserved.ensures.items ∙ (λ k. i.3 k ++ sight (table k) (me k).0 ∷ []) ∙ sym (map-range_with_len_more (unused object) 0 n n (omega arith)),
    )
