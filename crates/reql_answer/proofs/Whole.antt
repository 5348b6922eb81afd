-- The texts of whole answers, from what stands before and after what they tell.
use Rattle.std.proofs.Common.{◌≡◌, ℕ, List, ◌++◌, true, Option, None, codes, decimal, sym, ap, ◌∙◌, append_assoc}
use Rattle.json.specs.Print.{quoted, escape_byte}
use Rattle.serde_json.specs.Written.{members_text}
use Rattle.reql_json.specs.Showing.{members_of}
use Rattle.reql_answer.specs.declared.error.ErrorType.{ErrorType}
use Rattle.reql_answer.specs.Body.{Stamped, body, code_of, refusal, fault}
use Rattle.reql_answer.specs.Ending.{ending, end_text}
use Rattle.reql_answer.proofs.Ended.{ending_spelled}

around : (a v z e : List ℕ) → ((a ++ v) ++ z) ++ e ≡ a ++ ((v ++ z) ++ e)
around a v z e = simp append_assoc

around_two : (a n b v z e : List ℕ) → ((((a ++ n) ++ b) ++ v) ++ z) ++ e ≡ a ++ (n ++ (b ++ ((v ++ z) ++ e)))
around_two a n b v z e = simp append_assoc

pub refused : (kind : ℕ) (why : List ℕ) → ((codes "{\"b\":[],\"r\":[" ++ quoted why) ++ codes "]") ++ end_text kind None ≡ body (refusal kind why)
unfolding escape_byte
refused kind why =
    let start = codes "{\"b\":[],\"r\":[" in
    ap (λ t. ((start ++ quoted why) ++ codes "]") ++ t) (sym (ending_spelled kind None)) ∙ around start (quoted why) (codes "]") (members_text true (members_of (ending kind None)))

pub failed : (error : ErrorType) (why : List ℕ) (stamp : Option Stamped) → ((((codes "{\"b\":[],\"e\":" ++ decimal (code_of error)) ++ codes ",\"r\":[") ++ quoted why) ++ codes "]") ++ end_text 18 stamp ≡ body (fault error why stamp)
unfolding escape_byte
failed error why stamp =
    let start = codes "{\"b\":[],\"e\":" in
    let n = decimal (code_of error) in
    ap (λ t. ((((start ++ n) ++ codes ",\"r\":[") ++ quoted why) ++ codes "]") ++ t) (sym (ending_spelled 18 stamp))
    ∙ around_two start n (codes ",\"r\":[") (quoted why) (codes "]") (members_text true (members_of (ending 18 stamp)))
