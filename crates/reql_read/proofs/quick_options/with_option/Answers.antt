use Rattle.std.proofs.Common.{◌≡◌, ◌≤◌, ◌∷◌, codes, option_map, sym, subst, arith, rules}
use Rattle.json.specs.Token.{key}
use Rattle.serde_json.specs.Data.{boolean}
use Rattle.reql_read.specs.Quick.{ReadsMembers, database, two_options}
use Rattle.reql_read.proofs.Settled.{option_first, put_db, put_noreply}
use Rattle.reql_read.proofs.Tokens.{shorter}
use Rattle.reql_read.proofs.quick_options.with_option.Goals as goal

pub returns-then-eq-clause-shorter : goal.returns-then-eq-clause-shorter
returns-then-eq-clause-shorter c =
    let two : 2 ≤ 2 = omega arith in
    let read = c.in_ok-db.ensures 2 two in
    shorter 2 c.args.reader.now c.db.new.reader read.j read.tokens

pub returns-then-eq-clause-read : goal.returns-then-eq-clause-read
returns-then-eq-clause-read c = λ depth all r some rest.
    let s = c.args.reader.now in
    let name = c.in_ok-db.db.now in
    let db = option_map (λ x. x.now) c.args.chosen.db in
    let before = two_options db c.args.chosen.noreply in
    let is : c.args.key.now ≡ codes "db" = search rules in
    subst (λ k. ReadsMembers depth (key k ∷ s) before all r) (sym is)
    (option_first depth (codes "db") (database name) s c.db.new.reader r before _ all (c.in_ok-db.ensures depth some) (put_db name db c.args.chosen.noreply) rest)

pub returns-then-eq-2-clause-shorter : goal.returns-then-eq-2-clause-shorter
returns-then-eq-2-clause-shorter c =
    let read = c.in_ok-noreply.ensures 2 in
    shorter 2 c.args.reader.now c.boolean.new.reader read.j read.tokens

pub returns-then-eq-2-clause-read : goal.returns-then-eq-2-clause-read
returns-then-eq-2-clause-read c = λ depth all r some rest.
    let s = c.args.reader.now in
    let b = c.in_ok-noreply.noreply in
    let db = option_map (λ x. x.now) c.args.chosen.db in
    let before = two_options db c.args.chosen.noreply in
    let is : c.args.key.now ≡ codes "noreply" = search rules in
    subst (λ k. ReadsMembers depth (key k ∷ s) before all r) (sym is)
    (option_first depth (codes "noreply") (boolean b) s c.boolean.new.reader r before _ all (c.in_ok-noreply.ensures depth) (put_noreply b db c.args.chosen.noreply) rest)
