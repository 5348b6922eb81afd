use Rattle.std.proofs.Common.{◌+◌, ◌++◌, drop, ap, sym, ◌∙◌}
use Rattle.std.specs.Map.{keys_of}
use Rattle.reql_datum.specs.View.{plain}
use Rattle.reql_group.proofs.Rise.{next_again}
use Rattle.reql_group.proofs.grouped.Groups.map.Goals as goal

pub push-requires : goal.push-requires
push-requires g c =
    record {
      above = rw (c.in_ok-copy.ensures)
          (next_again c.loop-group.groups (plain c.in-Some.group.now) (plain c.in-Some.datum.now) (drop (c.loop-group.place + 1) c.args.self.now) c.args.self.now
          (ap (λ gs. keys_of c.loop-group.groups ++ keys_of gs) (sym c.in-Some.ensures.rest) ∙ c.loop-group.invariant.0) c.in-Some.ensures.rising);
    }
