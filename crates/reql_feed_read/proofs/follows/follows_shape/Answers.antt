use Rattle.reql_feed_read.specs.Follows.{indexes_in, shape_of}
use Rattle.reql_feed_read.proofs.Requests.{shape_read}
use Rattle.reql_feed_read.proofs.follows.follows_shape.Goals as goal

pub returns-in_ok-shape-in-Some : goal.returns-in_ok-shape-in-Some
returns-in_ok-shape-in-Some c =
    (shape_read c.args.spec.now (indexes_in c.args.index.now) c.in-Some.slot (shape_of c.in_ok-shape-in-Some.shape) c.requires.kind c.in-Some.ensures c.in_ok-shape-in-Some.ensures, c.requires.kind)
