use Rattle.std.proofs.Common.{◌≤◌, arith}
use Rattle.reql_datum.specs.View.{plain}
use Rattle.reql_rules.specs.Lists.{object_of}
use Rattle.reql_datum.proofs.Members.{rising_nil}
use Rattle.reql_path.specs.Named.{reach, reach_all, AllStandFor}
use Rattle.reql_path.specs.declared.gathering.Wanted.{Wanted}
use Rattle.reql_path.specs.Normal.{Compiles}
use Rattle.reql_path.proofs.Compiled.{ok_with, builds_below, builds_next, compiles_built}
use Rattle.reql_path.proofs.compiling.+compile.Goals as goal

pub built-standing-requires : goal.built-standing-requires
built-standing-requires t c =
    let le : reach c.in-Some.wanted ≤ reach_all c.args.named.entries =
    builds_below c.loop-name.fields c.loop-name.named.entries c.pop_first.new.self.entries c.args.named.entries c.in-Some.name c.in-Some.wanted c.in-Some.ensures.removal c.loop-name.invariant in
    (omega (arith, le), tt)

pub built-loop-name-preserved : goal.built-loop-name-preserved
built-loop-name-preserved t c =
    rw (c.in_ok-put.ensures.members)
    (builds_next c.loop-name.fields c.loop-name.named.entries c.pop_first.new.self.entries c.args.named.entries c.in-Some.name c.in-Some.wanted (plain c.in_ok-value.value) c.in-Some.ensures.removal c.in_ok-value.ensures c.loop-name.invariant)

pub compiled-returns : goal.compiled-returns
compiled-returns t c =
    ok_with c.built.result (λ r. AllStandFor c.in_ok-named.named.entries r) (λ r. Compiles c.args.patterns.now (object_of r))
    (λ r h. compiles_built c.args.patterns.now c.in_ok-named.named.entries r c.in_ok-named.ensures (c.in_ok-named.ensures.rising (rising_nil Wanted)) h) c.built.ensures
