-- What is held behind a greeting.
use Rattle.std.proofs.Common.{◌≡◌, ℕ, ◌+◌, ◌-◌, ◌≤◌, List, ◌++◌, length, take, drop, sym, ap, subst, ◌∙◌, arith}
use Rattle.std.proofs.lemmas.List.{drop-take}
use Rattle.std.proofs.Math.Seq.{drop-append_seam}
use Rattle.reql_wire.specs.Greeting.{greeting_by}
use Rattle.reql_wire.proofs.Greetings.{length-greeting_by}

pub behind : (key before buf held : List ℕ) (n used : ℕ) → before ++ take n buf ≡ greeting_by key ++ drop used (take n buf) → used ≤ n → held ≡ take (n - used) (drop used buf) → drop (12 + length key) (before ++ take n buf) ≡ held
behind key before buf held n used greeted fits rest =
    let f : used + (n - used) ≡ n = omega arith in
    let cut : drop used (take n buf) ≡ take (n - used) (drop used buf) = subst (λ k. drop used (take k buf) ≡ take (n - used) (drop used buf)) f (drop-take used (n - used) buf) in
    ap (drop (12 + length key)) greeted ∙ subst (λ l. drop l (greeting_by key ++ drop used (take n buf)) ≡ drop used (take n buf)) (length-greeting_by key) (drop-append_seam (greeting_by key) (drop used (take n buf))) ∙ cut ∙ sym rest

pub behind_call : (before buf held : List ℕ) (n used : ℕ) → drop 4 (before ++ take n buf) ≡ drop used (take n buf) → used ≤ n → held ≡ take (n - used) (drop used buf) → drop 4 (before ++ take n buf) ≡ held
behind_call before buf held n used called fits rest =
    let f : used + (n - used) ≡ n = omega arith in
    let cut : drop used (take n buf) ≡ take (n - used) (drop used buf) = subst (λ k. drop used (take k buf) ≡ take (n - used) (drop used buf)) f (drop-take used (n - used) buf) in
    called ∙ cut ∙ sym rest
