use Rattle.std.proofs.Common.{◌≡◌, ◌∷◌, sym, subst, rules}
use Rattle.json.specs.Token.{begin_array}
use Rattle.reql_read.specs.Quick.{ReadsNumber, ReadsParts, ReadsQuery}
use Rattle.reql_read.proofs.Settled.{query_read}
use Rattle.reql_read.proofs.Straight.{if_some}
use Rattle.reql_read.proofs.quick.read_query.Goals as goal

pub returns-then-kind-eq1 : goal.returns-then-kind-eq1
returns-then-kind-eq1 c =
    let r = c.read_start.new.reader in
    let ts = c.open_array.new.reader in
    let first : c.args.reader.now ≡ begin_array ∷ ts = search rules in
    let number = subst (λ n. ReadsNumber ts n c.number.new.reader) c.if-kind-eq1.true c.in_ok-kind.ensures in
    if_some (λ q. ReadsParts 1 c.number.new.reader q r) (λ q. ReadsQuery c.args.reader.now q r) c.read_start.result
    (λ q read. subst (λ us. ReadsQuery us q r) (sym first) (query_read 1 ts c.number.new.reader r q number read)) c.read_start.ensures

pub returns-else-kind-eq1 : goal.returns-else-kind-eq1
returns-else-kind-eq1 c =
    let r = c.short.new.reader in
    let ts = c.open_array.new.reader in
    let kind = c.in_ok-kind.kind in
    let first : c.args.reader.now ≡ begin_array ∷ ts = search rules in
    if_some (λ q. ReadsParts kind c.number.new.reader q r) (λ q. ReadsQuery c.args.reader.now q r) c.short.result
    (λ q read. subst (λ us. ReadsQuery us q r) (sym first) (query_read kind ts c.number.new.reader r q c.in_ok-kind.ensures read)) c.short.ensures
