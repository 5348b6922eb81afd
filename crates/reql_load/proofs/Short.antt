-- Bodies are short: a number of 32 bits has at most ten digits.
use Rattle.std.proofs.Common.{ℕ, ◌+◌, ◌%◌, ◌<◌, ◌≤◌, ◌^◌, length, decimal, arith, length-append}
use Rattle.std.proofs.lemmas.Fmt.{length-decimal-le}
use Rattle.reql_load.specs.Script.{document, update_body, delete_body}

ten_digits : (i : ℕ) → i < 2 ^ 32 → length (decimal i) ≤ 10
ten_digits i h = length-decimal-le 10 i (omega arith) (omega arith) (omega arith)

four_digits : (i : ℕ) → i < 1009 → length (decimal i) ≤ 4
four_digits i h = length-decimal-le 4 i (omega arith) (omega arith) (omega arith)

pub short_document : (seed i : ℕ) → i < 2 ^ 32 → length (document seed i) ≤ 40
unfolding document
short_document seed i h =
    let a = ten_digits i h in
    let b = four_digits ((i + seed) % 1009) (omega arith) in
    simp length-append (omega arith)

pub short_update : (i : ℕ) → i < 2 ^ 32 → length (update_body i) < 2 ^ 32
unfolding update_body
short_update i h = let a = ten_digits i h in simp length-append (omega arith)

pub short_delete : (i : ℕ) → i < 2 ^ 32 → length (delete_body i) < 2 ^ 32
unfolding delete_body
short_delete i h = let a = ten_digits i h in simp length-append (omega arith)
