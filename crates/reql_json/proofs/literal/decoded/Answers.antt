use Rattle.std.proofs.Common.{◌≡◌, Some, Ok, refl, sym, ap, ◌∙◌}
use Rattle.reql_json.specs.Literal.{decoded, or_reserved}
use Rattle.reql_json.proofs.Symbols.{decode_right}
use Rattle.reql_json.proofs.literal.decoded.Goals as goal

pub returns-in_ok-of-in-Ok : goal.returns-in_ok-of-in-Ok
returns-in_ok-of-in-Ok c =
    let bytes = c.in-Ok.bytes.items in
    let is : decoded c.args.text.now ≡ Some bytes = decode_right c.args.text.now bytes c.in-Ok.ensures.ok (c.in-Ok.ensures.exact (refl, refl)) c.in-Ok.ensures.bytes in
    ap or_reserved is ∙ ap Ok (sym (c.in_ok-of-in-Ok.ensures ∙ c.as_slice.ensures.value))
