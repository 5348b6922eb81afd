use Rattle.std.proofs.Common.{◌≡◌, not, nat_eq, ap, ◌∙◌}
use Rattle.std.specs.List.{list_any}
use Rattle.reql_read.proofs.NewIds.{none_of}
use Rattle.reql_read.proofs.quick_params.is_new.Goals as goal

pub returns : goal.returns
returns c =
    let among : c.contains.result ≡ list_any (λ k. nat_eq k c.args.id) c.as_slice.result.now = c.contains.ensures.value in
    ap not (among ∙ ap (list_any (λ k. nat_eq k c.args.id)) c.as_slice.ensures.ids) ∙ none_of c.args.id c.args.ids.now
