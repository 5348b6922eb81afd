use Rattle.reql_feed_limit.specs.Seen.{seen_step}
use Rattle.reql_feed_limit.proofs.Bridge.{stands_in_pairs, rising_after, item_told, item_shows, item_printable, tree_is}
use Rattle.reql_table.specs.Edits.{told}
use Rattle.reql_table.specs.Seen.{documents_of}
use Rattle.reql_feed_limit.proofs.feed.LimitFeed.prepare.Goals as goal

pub decided-requires : goal.decided-requires
decided-requires g c =
    let single = c.tree-tree.ensures.single in record {
      stands = stands_in_pairs c.args.self.now single (told c.args.change.now) (documents_of c.args.after.now) c.requires.stands;
      indexed = λ there. tree_is c.args.self.now c.args.after.now single c.tree-tree.ensures.numbered c.requires.tree (rising_after c.args.self.now single (told c.args.change.now) (documents_of c.args.after.now) c.requires.stands) there;
    }

pub returns-clause-item : goal.returns-clause-item
returns-clause-item g c =
    item_told c.args.self.now c.tree-tree.ensures.single (told c.args.change.now) (documents_of c.args.after.now) c.requires.stands (seen_step c.in_ok-step.step) c.in_ok-step.ensures.item

pub returns-clause-shows : goal.returns-clause-shows
returns-clause-shows g c =
    item_shows c.args.self.now c.tree-tree.ensures.single (told c.args.change.now) (documents_of c.args.after.now) c.requires.stands (seen_step c.in_ok-step.step) c.in_ok-step.ensures.item

pub returns-clause-places : goal.returns-clause-places
returns-clause-places g c =
    item_printable c.args.self.now c.tree-tree.ensures.single (told c.args.change.now) (documents_of c.args.after.now) c.requires.stands c.tree-tree.ensures.small (seen_step c.in_ok-step.step) c.in_ok-step.ensures.installs
