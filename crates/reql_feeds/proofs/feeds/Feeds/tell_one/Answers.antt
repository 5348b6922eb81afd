use Rattle.std.proofs.Common.{◌≡◌, List, length, ap, sym, subst, ◌∙◌, arith}
use Rattle.std.proofs.lemmas.List.{with_items_is}
use Rattle.reql_feeds.specs.Keeps.{feeds_of, Keeps}
use Rattle.reql_feeds.specs.Seen.{all_sized}
use Rattle.reql_feeds.specs.declared.entry.Entry.{Entry}
use Rattle.reql_feeds.specs.Told.{noticed}
use Rattle.reql_feeds.specs.Turn.{told}
use Rattle.reql_feeds.proofs.Whole.{stays, tell_keeps, tell_told, tell_stand, tell_find}
use Rattle.reql_feeds.proofs.feeds.Feeds.tell_one.Goals as goal

pub invariant_of-self : goal.invariant_of-self
invariant_of-self g c =
    let view = ap (λ (l : List (Entry g.row.F.Denot)). feeds_of (all_sized l)) c.deref_mut.ensures.value ∙ c.self.view_is in
    let many : length c.tell_entries.new.entries ≡ c.self.inside.entries.len = omega (arith, c.tell_entries.auto.entries, c.deref_mut.ensures.len) in
    let is = with_items_is c.self.inside.entries c.tell_entries.new.entries many in
    let k = subst (λ (l : List (Entry g.row.F.Denot)). Keeps g.F.Following.held (all_sized l)) (sym c.deref_mut.ensures.value) c.self.invariant in
    tell_keeps g.F.Following.held c.deref_mut.result.now c.tell_entries.new.entries is c.args.self.now view g.F.Following.fits g.F.Following.reads (noticed c.args.stamp (told c.args.change.now) (g.F.Following.documents c.args.after.now)) (g.F.Following.documents c.args.after.now) c.tell_entries.result c.tell_entries.ensures.turned c.tell_entries.ensures.same k

pub returns-clause-told : goal.returns-clause-told
returns-clause-told g c =
    let view = ap (λ (l : List (Entry g.row.F.Denot)). feeds_of (all_sized l)) c.deref_mut.ensures.value ∙ c.self.view_is in
    let many : length c.tell_entries.new.entries ≡ c.self.inside.entries.len = omega (arith, c.tell_entries.auto.entries, c.deref_mut.ensures.len) in
    let is = with_items_is c.self.inside.entries c.tell_entries.new.entries many in
    tell_told g.F.Following.held c.deref_mut.result.now c.tell_entries.new.entries is c.args.self.now view g.F.Following.fits g.F.Following.reads (noticed c.args.stamp (told c.args.change.now) (g.F.Following.documents c.args.after.now)) (g.F.Following.documents c.args.after.now) c.tell_entries.result c.tell_entries.ensures.turned

pub returns-clause-fits : goal.returns-clause-fits
returns-clause-fits g c =
    let view = ap (λ (l : List (Entry g.row.F.Denot)). feeds_of (all_sized l)) c.deref_mut.ensures.value ∙ c.self.view_is in
    let many : length c.tell_entries.new.entries ≡ c.self.inside.entries.len = omega (arith, c.tell_entries.auto.entries, c.deref_mut.ensures.len) in
    let is = with_items_is c.self.inside.entries c.tell_entries.new.entries many in
    tell_stand g.F.Following.held c.deref_mut.result.now c.tell_entries.new.entries is c.args.self.now view g.F.Following.fits g.F.Following.reads (noticed c.args.stamp (told c.args.change.now) (g.F.Following.documents c.args.after.now)) (g.F.Following.documents c.args.after.now) c.tell_entries.result c.tell_entries.ensures.turned

pub returns-clause-reads : goal.returns-clause-reads
returns-clause-reads g c =
    let view = ap (λ (l : List (Entry g.row.F.Denot)). feeds_of (all_sized l)) c.deref_mut.ensures.value ∙ c.self.view_is in
    let many : length c.tell_entries.new.entries ≡ c.self.inside.entries.len = omega (arith, c.tell_entries.auto.entries, c.deref_mut.ensures.len) in
    let is = with_items_is c.self.inside.entries c.tell_entries.new.entries many in
    tell_find g.F.Following.held c.deref_mut.result.now c.tell_entries.new.entries is c.args.self.now view g.F.Following.fits g.F.Following.reads (noticed c.args.stamp (told c.args.change.now) (g.F.Following.documents c.args.after.now)) (g.F.Following.documents c.args.after.now) c.tell_entries.result c.tell_entries.ensures.turned

pub returns-clause-same : goal.returns-clause-same
returns-clause-same g c =
    let view = ap (λ (l : List (Entry g.row.F.Denot)). feeds_of (all_sized l)) c.deref_mut.ensures.value ∙ c.self.view_is in
    let many : length c.tell_entries.new.entries ≡ c.self.inside.entries.len = omega (arith, c.tell_entries.auto.entries, c.deref_mut.ensures.len) in
    let is = with_items_is c.self.inside.entries c.tell_entries.new.entries many in
    stays g.F.Following.held c.deref_mut.result.now c.tell_entries.new.entries is c.args.self.now view c.tell_entries.result c.tell_entries.ensures.same
