use Rattle.std.proofs.Common.{◌≡◌, ◌∷◌, [], ◌++◌, codes, rules, ap, ◌∙◌}
use Rattle.std.specs.Fmt.{signed_decimal}
use Rattle.json.specs.Print.{quoted}
use Rattle.reql_datum.specs.Zone.{zone_text}
use Rattle.reql_spell.proofs.Spelled.{time_spelled}
use Rattle.reql_spell.proofs.spell.write_time.Goals as goal

pub returns : goal.returns
returns c =
    let m = c.args.moment in
    let at : c.write_integer.new.out.items ≡ c.extend_from_slice.new.self.items ++ signed_decimal m.0 = search rules in
    let zone : c.write_text.new.out.items ≡ c.extend_from_slice-2.new.self.items ++ quoted (zone_text m.1) = search rules in
    c.in_ok-push.ensures.items
    ∙ ap (λ s. s ++ 125 ∷ []) (zone ∙ ap (λ s. s ++ quoted (zone_text m.1)) (c.in_ok-extend_from_slice-2.ensures.items ∙ ap (λ s. s ++ codes ",\"timezone\":") (at ∙ ap (λ s. s ++ signed_decimal m.0) c.in_ok-extend_from_slice.ensures.items)))
    ∙ time_spelled c.args.out.now.items m
