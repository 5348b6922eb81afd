use Rattle.std.proofs.Common.{◌∷◌, ◌++◌, [], ap, ◌∙◌}
use Rattle.reql_spell.proofs.Spelled.{quoted_after}
use Rattle.reql_spell.proofs.texts.put_plain.Goals as goal

pub returns-clause-items : goal.returns-clause-items
returns-clause-items c =
    let s = c.args.text.now in
    let first = c.put_bytes.ensures.items ∙ ap (λ t. t ++ s) c.push_reserved.ensures.items in
    c.push_reserved-2.ensures.items ∙ ap (λ t. t ++ 34 ∷ []) first ∙ quoted_after c.args.out.now.items s c.requires.plain
