use Rattle.std.proofs.Common.{arith, ◌≡◌, ◌∷◌, [], ◌++◌, codes, map, string_bytes, subst, IfOk}
use Rattle.std.proofs.lemmas.Grind.{common_steps}
use Rattle.reql_words.proofs.telling.put_password.Goals as goal

pub returns : goal.returns
returns c =
    let told : c.as_str.result.now ≡ codes "--password=" ++ c.args.password.now = grind (arith, common_steps) in
    subst (λ word. IfOk c.put.result (λ _. map string_bytes c.put.new.all.items ≡ map string_bytes c.args.all.now.items ++ word ∷ [])) told c.put.ensures
