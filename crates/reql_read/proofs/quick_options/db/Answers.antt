use Rattle.std.proofs.Common.{◌≡◌, ◌∷◌, ap, sym, subst, ◌∙◌, rules}
use Rattle.json.specs.Token.{begin_array, end_array, string}
use Rattle.reql_term.specs.Table.{number_of}
use Rattle.reql_term.specs.declared.op.Op.TheVariants as op
use Rattle.reql_read.specs.Quick.{ReadsNumber, ReadsData, database}
use Rattle.reql_read.proofs.Settled.{database_read}
use Rattle.reql_read.proofs.quick_options.db.Goals as goal

pub returns : goal.returns
returns c = λ depth some.
    let n = c.in_ok-number.number in
    let name = c.in_ok-name.name.now in
    let r = c.close_array-2.new.reader in
    let ts = c.open_array.new.reader in
    let is : n ≡ number_of op.Db = search rules in
    let first : c.args.reader.now ≡ begin_array ∷ ts = search rules in
    let second : c.number.new.reader ≡ begin_array ∷ c.open_array-2.new.reader = search rules in
    let third : c.open_array-2.new.reader ≡ string name ∷ c.text.new.reader = c.in_ok-name.ensures in
    let closed : c.text.new.reader ≡ end_array ∷ c.close_array.new.reader = search rules in
    let closed_again : c.close_array.new.reader ≡ end_array ∷ r = search rules in
    let rest = second ∙ ap (λ us. begin_array ∷ us) (third ∙ ap (λ us. string name ∷ us) (closed ∙ ap (λ us. end_array ∷ us) closed_again)) in
    subst (λ us. ReadsData depth us (database name) r) (sym first) (database_read depth n name ts r some is (subst (ReadsNumber ts n) rest c.in_ok-number.ensures))
