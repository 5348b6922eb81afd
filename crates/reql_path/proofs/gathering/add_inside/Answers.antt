use Rattle.std.proofs.Common.{suc, [], ◌∷◌}
use Rattle.reql_datum.specs.Plain.{depth}
use Rattle.reql_datum.specs.View.{plain}
use Rattle.reql_rules.specs.Patterns.{inside}
use Rattle.reql_path.proofs.Gathered.{gathers_inside}
use Rattle.reql_path.proofs.gathering.add_inside.Goals as goal

pub returns : goal.returns
returns c =
    gathers_inside c.args.named.now.entries c.remove-old.new.self.entries c.insert.new.self.entries c.args.name.now c.in_ok-wanted.wanted (inside (plain c.args.pattern.now ∷ [])) (suc (depth (plain c.args.pattern.now)))
    c.remove-old.ensures.entries (rw (c.in_ok-key.ensures) at c.in_ok-insert.ensures.entries) c.remove-old.ensures.updates.0 (rw (c.in_ok-key.ensures) at c.in_ok-insert.ensures.updates.0) c.in_ok-insert.ensures.ordered
    (rw (c.remove-old.ensures.value) at c.in_ok-wanted.ensures.part) (rw (c.remove-old.ensures.value) at c.in_ok-wanted.ensures.bound)
