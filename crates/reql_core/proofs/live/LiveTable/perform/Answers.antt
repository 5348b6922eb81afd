use Rattle.std.proofs.Common.{rules, ◌≡◌, ◌<◌, ◌-◌, ◌^◌, length, map, refl, subst, sym}
use Rattle.std.proofs.lemmas.List.{length-map}
use Rattle.reql_table.specs.Seen.{documents_of, indexes_of}
use Rattle.reql_write_spec.specs.Write.{write}
use Rattle.reql_table_spec.specs.declared.reply.Said.TheVariants as answers
use Rattle.reql_feeds.specs.Turn.{told}
use Rattle.reql_core.proofs.Written.{all_come, full, kept_none}
use Rattle.reql_core.proofs.live.LiveTable.perform.Goals as goal

pub land-requires-clause-come : goal.land-requires-clause-come
land-requires-clause-come g c =
    let is : c.deref-2.result.now ≡ c.args.planned.changes.items = search rules in
    rw is (all_come (documents_of c.args.self.now.moment.table) (map told c.args.planned.changes.items) (write (documents_of c.args.self.now.moment.table) (indexes_of c.args.self.now.moment.table) c.args.cmd.now).changes c.requires.changes (c.write_law.ensures.come (documents_of c.args.self.now.moment.table) (indexes_of c.args.self.now.moment.table) c.args.cmd.now))

pub returns-then-len-stamp-clause-does : goal.returns-then-len-stamp-clause-does
returns-then-len-stamp-clause-does g c =
    let many : 2 ^ 64 - 1 - c.args.self.now.moment.stamp < length c.args.planned.changes.items = search rules in
    full g.F.Following.held c.args.by c.args.cmd.now c.args.self.now (map told c.args.planned.changes.items) c.requires.changes c.requires.alive (subst (λ n. 2 ^ 64 - 1 - c.args.self.now.moment.stamp < n) (sym (length-map c.args.planned.changes.items told)) many)

pub returns-then-len-stamp-clause-kept : goal.returns-then-len-stamp-clause-kept
returns-then-len-stamp-clause-kept g c =
    let none = kept_none g.F.Following.held c.args.by c.args.cmd.now c.args.self.now c.args.self.now (answers.HistoryFull (2 ^ 64 - 1)) (returns-then-len-stamp-clause-does g c) refl in
    search (rules, none)
