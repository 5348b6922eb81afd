use Rattle.std.proofs.Common.{◌++◌, append-nil, ap}
use Rattle.json.specs.Print.{print_from, quoted}
use Rattle.reql_spell.proofs.texts.escaped.Goals as goal

pub returns : goal.returns
unfolding print_from
returns c =
    rw (c.into_inner.ensures.items, c.in_ok-string.ensures.ok, c.string.ensures.room.0, c.new-out.ensures.tokens, c.new-out.ensures.before)
    (ap (λ t. c.args.bytes.items ++ t) (append-nil (quoted c.args.text.now)))
