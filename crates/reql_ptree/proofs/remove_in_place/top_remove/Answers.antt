use Rattle.std.proofs.Common.{◌≡◌, ℕ, List, length, ap, ◌∙◌, arith}
use Rattle.reql_datum.specs.Plain.{Plain}
use Rattle.reql_ptree.proofs.InPlace.{reach_one}
use Rattle.reql_ptree.proofs.remove_in_place.top_remove.Goals as goal
use Rattle.reql_ptree.proofs.remove_in_place.top_remove.Goals.{then-height-gt0+else-side_remove_in, else-height-gt0}

pub returns-then-side_remove_in-clause-counted : goal.returns-then-side_remove_in-clause-counted
returns-then-side_remove_in-clause-counted g c =
    omega (arith, reach_one c.args.top.now.1 (length c.args.top.now.0) (omega (arith, c.if-height-gt0.true, c.height.ensures.height)) c.height.ensures.grown, c.side_remove_in.ensures.counted)

pub returns-in_err-new-clause-counted : goal.returns-in_err-new-clause-counted
returns-in_err-new-clause-counted g c =
    elim c.if-height-gt0.branch [
      | then-height-gt0+else-side_remove_in w ↦
          let e : c.if-height-gt0.top.1 ≡ c.args.top.now.1 = ap (λ (v : List (Plain × Plain) × ℕ). v.1) w.top-is ∙ w.side_remove_in.ensures.height in
          omega (arith, e, w.steps-is, w.side_remove_in.ensures.counted, c.side_remove.ensures.counted, reach_one c.args.top.now.1 (length c.args.top.now.0) (omega (arith, w.if-height-gt0.true, c.height.ensures.height)) c.height.ensures.grown)
      | else-height-gt0 w ↦
          let e : c.if-height-gt0.top.1 ≡ c.args.top.now.1 = ap (λ (v : List (Plain × Plain) × ℕ). v.1) w.top-is in
          omega (arith, e, w.steps-is, w.if-height-gt0.false, c.height.ensures.height, c.side_remove.ensures.counted)
    ]

pub returns-clause-counted : goal.returns-clause-counted
returns-clause-counted g c =
    elim c.if-height-gt0.branch [
      | then-height-gt0+else-side_remove_in w ↦
          let e : c.if-height-gt0.top.1 ≡ c.args.top.now.1 = ap (λ (v : List (Plain × Plain) × ℕ). v.1) w.top-is ∙ w.side_remove_in.ensures.height in
          omega (arith, e, w.steps-is, w.side_remove_in.ensures.counted, c.side_remove.ensures.counted, reach_one c.args.top.now.1 (length c.args.top.now.0) (omega (arith, w.if-height-gt0.true, c.height.ensures.height)) c.height.ensures.grown)
      | else-height-gt0 w ↦
          let e : c.if-height-gt0.top.1 ≡ c.args.top.now.1 = ap (λ (v : List (Plain × Plain) × ℕ). v.1) w.top-is in
          omega (arith, e, w.steps-is, w.if-height-gt0.false, c.height.ensures.height, c.side_remove.ensures.counted)
    ]
