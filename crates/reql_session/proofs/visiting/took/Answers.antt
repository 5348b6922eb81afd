use Rattle.reql_open_cursors.specs.Kept.{books_of}
use Rattle.reql_session.proofs.Tokens.{feed_token}
use Rattle.reql_session.proofs.visiting.took.Goals as goal

pub returns-in-Batch-clause-keeps : goal.returns-in-Batch-clause-keeps
returns-in-Batch-clause-keeps g c = λ rest f found none off keeps. c.told_batch.ensures.keeps rest f found none off keeps

pub returns-in-Batch-clause-told : goal.returns-in-Batch-clause-told
returns-in-Batch-clause-told g c = λ k clock dice f arm arms l n found d some. rw c.in-Batch.is (c.told_batch.ensures.told k clock dice f arm arms l n found d)

pub returns-in-Gone-clause-told : goal.returns-in-Gone-clause-told
returns-in-Gone-clause-told g c = λ k clock dice f arm arms l n found d some. rw c.in-Gone.is (c.told_gone.ensures.told k clock dice f arm arms l found d)

pub returns-in-HistoryFull-clause-told : goal.returns-in-HistoryFull-clause-told
returns-in-HistoryFull-clause-told g c = λ k clock dice f arm arms l n found d some. rw (c.in-HistoryFull.is, feed_token c.args.token (books_of c.args.shelf.now).feeds f found) (c.told_full.ensures.told k clock dice f l found)
