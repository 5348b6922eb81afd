use Rattle.std.proofs.Common.{◌≡◌, ℕ, List, true, false, Less, sym, ◌∙◌, subst}
use Rattle.reql_datum.specs.Plain.{Plain}
use Rattle.reql_datum.specs.Order.{order}
use Rattle.reql_datum.specs.View.{plain}
use Rattle.reql_ptree.specs.Next.{is_behind}
use Rattle.reql_ptree.specs.Turn.{AllBelow, OpensAbove}
use Rattle.reql_ptree.proofs.Falls.{reaches_first}
use Rattle.reql_ptree.proofs.Rising.{rising_back}
use Rattle.reql_ptree.proofs.Turns.{not_less, less, left_below, opens_over}
use Rattle.reql_ptree.proofs.Ways.{opens_at}
use Rattle.reql_ptree.proofs.fall.fall_at.Goals as goal

pub returns-then-least : goal.returns-then-least
returns-then-least c =
    let k = plain c.args.key.now in
    let below = sym c.compare.ensures.answer ∙ less c.compare.result (sym c.if-is_lt.true ∙ c.is_lt.ensures) in
    let opens = opens_at (λ x. order k x ≡ Less) (plain c.first.result.now) c.args.chunk.now c.first.ensures.first below in (
      (
        subst (λ (v : List (Plain × Plain) × ℕ). AllBelow k v.0) (sym c.in_default.ensures) tt,
        opens_over k c.args.chunk.now c.args.right.now.0 (rising_back c.args.left.now.0 _ c.requires.rising) c.first.ensures.chunk.some opens,
      ),
      λ e. absurd (let f : true ≡ false = sym c.if-least.true ∙ e in cc),
    )

pub returns-in-None : goal.returns-in-None
returns-in-None c =
    let k = plain c.args.key.now in
    let past = subst (λ o. is_behind true o ≡ true) c.compare.ensures.answer (not_less c.compare.result (sym c.if-is_lt.false ∙ c.is_lt.ensures)) in (
      (
        left_below k (plain c.first.result.now) c.args.left.now.0 c.args.chunk.now c.args.right.now.0 c.requires.rising c.first.ensures.chunk.some c.first.ensures.first past,
        subst (λ (v : List (Plain × Plain) × ℕ). OpensAbove k v.0) (sym c.in-None.ensures) tt,
      ),
      λ _. reaches_first k (plain c.first.result.now) c.args.chunk.now c.first.ensures.chunk.some c.first.ensures.first past,
    )
