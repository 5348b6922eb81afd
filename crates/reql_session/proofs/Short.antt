-- The answer for want of memory is short.
use Rattle.std.proofs.Common.{◌≡◌, ◌+◌, ◌≤◌, length, refl, arith}
use Rattle.std.specs.Fmt.{digits}
use Rattle.serde_json.proofs.OnLiterals.{serde_json_on_literals}
use Rattle.reql_session_spec.specs.Requests.{Internal}
use Rattle.reql_session_spec.specs.Bodies.{body}

internal_length : length (body Internal) ≡ 50
unfolding body serde_json_on_literals digits
internal_length = refl

pub internal_fits : length (body Internal) + 12 ≤ 256
internal_fits = omega (arith, internal_length)
