use Rattle.std.proofs.Common.{rules}
use Rattle.std.proofs.lemmas.Fn.{filter_same}
use Rattle.reql_session.proofs.Given.{is_other_of, others_kept}
use Rattle.reql_session.proofs.gone.keep_others.Goals as goal

pub returns : goal.returns
returns c = λ arm s n. others_kept arm c.args.slot c.args.number c.args.arms.now.items _ s n (filter_same _ (is_other_of c.args.slot c.args.number) _ (λ x b f k. search rules) _ _ c.retain.ensures.filtered)
