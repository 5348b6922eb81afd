use Rattle.std.proofs.Common.{◌≡◌, List, length, IfOk, option_map, ap, subst, ◌∙◌, arith}
use Rattle.std.proofs.lemmas.List.{with_items_is}
use Rattle.reql_feeds.specs.Keeps.{feeds_of}
use Rattle.reql_feeds.specs.Seen.{all_sized}
use Rattle.reql_feeds.specs.declared.entry.Entry.{Entry}
use Rattle.reql_feeds.specs.Record.{records, batch, given}
use Rattle.reql_table_machine_spec.specs.Feeds.{find_feed}
use Rattle.reql_feeds.proofs.Whole.{stays, taken_left, kept_left}
use Rattle.reql_feeds.proofs.feeds.Feeds.take.Goals as goal

pub returns-clause-given : goal.returns-clause-given
returns-clause-given g c =
    let view = ap (λ (l : List (Entry g.row.F.Denot)). feeds_of (all_sized l)) c.deref_mut.ensures.value ∙ c.self.view_is in
    subst (λ fs. IfOk c.take_of.result (λ r. option_map batch r ≡ option_map (given c.args.max) (find_feed c.args.owner c.args.number (records g.F.Following.held fs)))) view c.take_of.ensures.given

pub returns-clause-left : goal.returns-clause-left
returns-clause-left g c =
    let view = ap (λ (l : List (Entry g.row.F.Denot)). feeds_of (all_sized l)) c.deref_mut.ensures.value ∙ c.self.view_is in
    let many : length c.take_of.new.entries ≡ c.self.inside.entries.len = omega (arith, c.take_of.auto.entries, c.deref_mut.ensures.len) in
    let is = with_items_is c.self.inside.entries c.take_of.new.entries many in
    taken_left g.F.Following.held c.deref_mut.result.now c.take_of.new.entries is c.args.self.now view c.args.owner c.args.number c.args.max c.take_of.result c.take_of.ensures.left c.take_of.ensures.same

pub returns-clause-kept : goal.returns-clause-kept
returns-clause-kept g c =
    let view = ap (λ (l : List (Entry g.row.F.Denot)). feeds_of (all_sized l)) c.deref_mut.ensures.value ∙ c.self.view_is in
    let many : length c.take_of.new.entries ≡ c.self.inside.entries.len = omega (arith, c.take_of.auto.entries, c.deref_mut.ensures.len) in
    let is = with_items_is c.self.inside.entries c.take_of.new.entries many in
    kept_left g.F.Following.held c.deref_mut.result.now c.take_of.new.entries is c.args.self.now view c.args.owner c.args.number c.args.max c.take_of.result c.take_of.ensures.left c.take_of.ensures.same

pub returns-clause-same : goal.returns-clause-same
returns-clause-same g c =
    let view = ap (λ (l : List (Entry g.row.F.Denot)). feeds_of (all_sized l)) c.deref_mut.ensures.value ∙ c.self.view_is in
    let many : length c.take_of.new.entries ≡ c.self.inside.entries.len = omega (arith, c.take_of.auto.entries, c.deref_mut.ensures.len) in
    let is = with_items_is c.self.inside.entries c.take_of.new.entries many in
    stays g.F.Following.held c.deref_mut.result.now c.take_of.new.entries is c.args.self.now view c.take_of.result c.take_of.ensures.same
