use Rattle.std.proofs.Common.{◌≡◌, ◌∷◌, ap, sym, subst, rules}
use Rattle.json.specs.Token.{end_array}
use Rattle.serde_json.specs.Data.{no_items}
use Rattle.reql_read.specs.Apart.{asked_kind}
use Rattle.reql_read.specs.Quick.{ReadsParts}
use Rattle.reql_read.specs.declared.query.Query.TheVariants.{Continue, Stop, NoreplyWait, ServerInfo}
use Rattle.reql_read.proofs.Settled.{short_parts}
use Rattle.reql_read.proofs.quick.short.Goals as goal

pub returns-in-2 : goal.returns-in-2
returns-in-2 c =
    let r = c.close_array.new.reader in
    let closed : c.args.reader.now ≡ end_array ∷ r = search rules in
    subst (λ ts. ReadsParts c.args.kind ts Continue r) (sym closed) (short_parts c.args.kind r Continue (ap (λ k. asked_kind k no_items) c.in-2.is))

pub returns-in-3 : goal.returns-in-3
returns-in-3 c =
    let r = c.close_array.new.reader in
    let closed : c.args.reader.now ≡ end_array ∷ r = search rules in
    subst (λ ts. ReadsParts c.args.kind ts Stop r) (sym closed) (short_parts c.args.kind r Stop (ap (λ k. asked_kind k no_items) c.in-3.is))

pub returns-in-4 : goal.returns-in-4
returns-in-4 c =
    let r = c.close_array.new.reader in
    let closed : c.args.reader.now ≡ end_array ∷ r = search rules in
    subst (λ ts. ReadsParts c.args.kind ts NoreplyWait r) (sym closed) (short_parts c.args.kind r NoreplyWait (ap (λ k. asked_kind k no_items) c.in-4.is))

pub returns-in-5 : goal.returns-in-5
returns-in-5 c =
    let r = c.close_array.new.reader in
    let closed : c.args.reader.now ≡ end_array ∷ r = search rules in
    subst (λ ts. ReadsParts c.args.kind ts ServerInfo r) (sym closed) (short_parts c.args.kind r ServerInfo (ap (λ k. asked_kind k no_items) c.in-5.is))
