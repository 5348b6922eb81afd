use Rattle.std.proofs.Common.{◌≤◌, refl, arith}
use Rattle.reql_term.specs.View.{form_of}
use Rattle.reql_read.specs.declared.query.Query.TheVariants.{Start}
use Rattle.reql_read.proofs.Settled.{start_parts}
use Rattle.reql_read.proofs.quick.read_start.Goals as goal

pub returns : goal.returns
returns c =
    let term = c.in_ok-term.term in
    let s = c.in_ok-db.field-0 in
    let deep : 3 ≤ 126 = omega arith in
    start_parts c.args.reader.now c.read.new.reader c.read_settings.new.reader (form_of term) s (Start term (record { db = s.db; array_limit = s.array_limit; batch = s.batch }) s.noreply) c.in_ok-term.ensures (c.in_ok-db.ensures 126 deep) refl
