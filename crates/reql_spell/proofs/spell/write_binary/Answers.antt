use Rattle.std.proofs.Common.{◌++◌, codes, ap, ◌∙◌, arith}
use Rattle.base64.specs.Engines.{standard}
use Rattle.base64.specs.GeneralPurpose.{encode_of}
use Rattle.reql_json.proofs.Symbols.{bytes_from, escape_encoded}
use Rattle.reql_spell.proofs.Spelled.{binary_spelled}
use Rattle.reql_spell.proofs.spell.write_binary.Goals as goal

pub returns : goal.returns
returns c =
    let s = c.args.bytes.now in
    let plain = escape_encoded s (bytes_from s (λ i. let typed = c.type_inv.bytes i in omega arith)) in
    let first = c.in_ok-append_encoded.ensures ∙ ap (λ t. t ++ encode_of standard s) c.in_ok-extend_from_slice.ensures.items in
    c.in_ok-extend_from_slice-2.ensures.items ∙ ap (λ t. t ++ codes "\"}") first ∙ binary_spelled c.args.out.now.items s plain
