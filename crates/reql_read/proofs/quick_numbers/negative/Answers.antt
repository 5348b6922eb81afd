use Rattle.std.proofs.Common.{◌≡◌, get_or, drop, true, ◌==◌, ◌<ℤ◌, pos, FitsSigned, sym, ap, ◌∙◌, subst, Some, T, arith, take_all, length-drop}
use Rattle.std.specs.Int.{w64}
use Rattle.std.specs.Int.Signed.{lt_z_yes}
use Rattle.std.proofs.Math.Facts.{to_z-of_z}
use Rattle.fast_float.specs.Text.{scan}
use Rattle.serde_json.specs.Data.{negative}
use Rattle.serde_json.specs.Read.{number_of}
use Rattle.reql_read.proofs.Numerals.{negative_read}
use Rattle.reql_read.proofs.quick_numbers.negative.Goals as goal

pub returns-in-Some : goal.returns-in-Some
returns-in-Some c =
    let s = c.as_bytes-bytes.result.now in
    let minus : (get_or s 0 0 == 45) ≡ true = sym c.if-not-has_minus.ensures.value in
    let parts : c.scan.result ≡ scan (drop 1 s) = c.scan.ensures.parts ∙ ap scan (take_all _ (drop 1 s) (omega (arith, length-drop 1 s))) in
    let n = c.in-Some.n in
    let found = rw parts at c.in-Some.ensures in
    let fits : FitsSigned w64 n = rw found.1 found.0.1 in
    let below : n <ℤ pos 0 = lt_z_yes (subst T (sym (rw (to_z-of_z {w = w64} {z = n} fits) at c.if-n-lt0.true)) tt) in
    let read : number_of s ≡ Some (negative n) = negative_read s n minus found.0 found.1 below in
    rw (to_z-of_z {w = w64} {z = n} fits, ← c.as_bytes-bytes.ensures.value) read
