use Rattle.std.proofs.Common.{rules, ◌≤◌, length}
use Rattle.reql_feeds.proofs.Blanks.{no_blanks, more_blanks, blanks_draft, blanks_ahead}
use Rattle.reql_feeds.proofs.drafting.blanks.Goals as goal

pub loop-entry-init : goal.loop-entry-init
loop-entry-init g c = no_blanks c.in_ok-shadows.shadows.items c.in_ok-shadows.ensures.items

pub loop-entry-preserved : goal.loop-entry-preserved
loop-entry-preserved g c = more_blanks c.loop-entry.shadows.items c.push.new.self.items c.blank.result c.loop-entry._entry-index c.loop-entry.invariant c.in_ok-push.ensures.items c.blank.ensures

pub returns-clause-draft : goal.returns-clause-draft
returns-clause-draft g c =
    let end : length c.args.entries.now ≤ c.loop-entry._entry-index = search rules in
    blanks_draft g.F.Following.held c.args.entries.now c.loop-entry.shadows.items c.loop-entry._entry-index c.loop-entry.invariant c.loop-entry.auto._entry-index-end end

pub returns-clause-same : goal.returns-clause-same
returns-clause-same g c =
    let end : length c.args.entries.now ≤ c.loop-entry._entry-index = search rules in
    blanks_ahead g.F.Following.held c.args.entries.now c.loop-entry.shadows.items c.loop-entry._entry-index c.loop-entry.invariant c.loop-entry.auto._entry-index-end end
