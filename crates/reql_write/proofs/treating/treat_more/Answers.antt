use Rattle.std.proofs.Common.{rules, ◌≡◌, [], ◌∷◌, ◌++◌, ◌+◌, drop, map, ap, sym, ◌∙◌, subst}
use Rattle.std.proofs.lemmas.List.{map-append}
use Rattle.reql_datum.proofs.Walks.{rest_at}
use Rattle.reql_datum.specs.View.{plain}
use Rattle.reql_rules.specs.Lists.{joined}
use Rattle.reql_write_spec.specs.Treated.{changed_by, changes_of}
use Rattle.reql_write_spec.specs.Treating.{treat_all as treat_all_of}
use Rattle.reql_write.specs.Acting.{treating}
use Rattle.reql_write.specs.Seen.{seen}
use Rattle.reql_write.proofs.After.{after_one, treated_on}
use Rattle.reql_write.proofs.treating.treat_more.Goals as goal

pub loop-item-preserved : goal.loop-item-preserved
loop-item-preserved c =
    let docs = c.args.start.now in
    let ts = c.loop-item.all.items in
    let t = c.in_ok-treated.treated in
    let pushed : c.push.new.self.items ≡ ts ++ t ∷ [] = search rules in
    let turned : c.turn.new.documents ≡ changed_by c.loop-item.documents (changes_of (seen t)) = search rules in
    let more = ap (map seen) pushed ∙ map-append seen ts (t ∷ []) in
    let f = treating c.args.field.now c.args.act.now in
    let left = rest_at c.args.items.now c.loop-item.place (plain c.in-Some.item.now) (search rules) in
    let here : seen t ≡ f c.loop-item.documents (plain c.in-Some.item.now) = search rules in (
      ap (λ us. us ++ treat_all_of f c.turn.new.documents (drop (c.loop-item.place + 1) c.args.items.now)) more
          ∙ treated_on f c.loop-item.documents c.turn.new.documents (plain c.in-Some.item.now) (drop (c.loop-item.place + 1) c.args.items.now) (drop c.loop-item.place c.args.items.now) (map seen ts) (seen t)
          (treat_all_of f docs c.args.items.now) left here turned c.loop-item.invariant.0,
      subst (λ us. c.turn.new.documents ≡ changed_by docs (joined (map changes_of us))) (sym more)
          (after_one docs (map seen ts) (seen t) c.loop-item.documents c.turn.new.documents c.loop-item.invariant.1 turned),
    )
