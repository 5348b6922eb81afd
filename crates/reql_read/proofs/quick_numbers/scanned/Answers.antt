use Rattle.std.proofs.Common.{◌≡◌, get_or, false, ◌==◌, sym, subst}
use Rattle.std.specs.Prelude.{SomeIff, ◌<◌, ◌^◌}
use Rattle.fast_float.specs.Text.{digits_of, IsInteger}
use Rattle.reql_read.proofs.Numerals.{unsigned_read}
use Rattle.reql_read.proofs.quick_numbers.scanned.Goals as goal

pub returns : goal.returns
returns c =
    let plain : (get_or c.args.bytes.now 0 0 == 45) ≡ false = sym c.if-has_minus.ensures.value in
    let found = subst (λ p. SomeIff c.to_u64.result (IsInteger p × (digits_of p < 2 ^ 64)) (digits_of p)) c.scan.ensures.parts c.to_u64.ensures in
    unsigned_read _ _ plain found
