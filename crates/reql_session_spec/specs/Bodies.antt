-- The bodies of a session's answers, and its texts (RethinkDB's guide on writing drivers; `Response` of ql2.proto).
use Rattle.std.specs.Prelude.{ℕ, nat_eq, List, [], ◌∷◌, ◌++◌, map, Bool, false, cond, ◌||◌, Some, None, codes}
use Rattle.std.specs.Fmt.{decimal}
use Rattle.serde_json.specs.Data as json
use Rattle.reql_json.specs.Showing.{shown, members_of}
use Rattle.reql_answer.specs.Body as answers
use Rattle.reql_answer.specs.Body.{results, refusal, fault, internal, numbers}
use Rattle.reql_session_spec.specs.Requests.{Shown, Answer, Client, Compile, Failed, Internal, Atom, Last, Part, Batch, Waited, Info}

-- whether the notes of a feed say that it is united, so that answers tell the arm of each item
abbrev pub is_united : List ℕ → Bool
is_united [] = false
is_united (n ∷ ns) = nat_eq n 4 || is_united ns

abbrev pub arms_told : List ℕ → List Shown → answers.Answer
arms_told notes xs = cond (is_united notes) ((codes "a", numbers (map (λ x. x.at) xs)) ∷ []) []

-- what SERVER_INFO tells
abbrev pub server_info : json.Data
server_info = json.object (members_of (
    (codes "id", json.string (codes "00000000-0000-0000-0000-000000000000"))
    ∷ (codes "name", json.string (codes "reqld"))
    ∷ (codes "proxy", json.boolean false)
    ∷ []
    ))

-- the members of an answer, by rising name
abbrev pub told : Answer → answers.Answer
told (Client why) = refusal 16 why
told (Compile why) = refusal 17 why
told (Failed error why s) = fault error why s
told Internal = internal
told (Atom v s) = results 1 [] None (shown v ∷ []) (Some s)
told (Last vs s) = results 2 [] None (map shown vs) s
told (Part vs s) = results 3 [] None (map shown vs) s
told (Batch notes xs s) = arms_told notes xs ++ results 3 notes (Some (map (λ x. x.stamp) xs)) (map (λ x. shown x.item) xs) s
told Waited = results 4 [] None [] None
told Info = results 5 [] None (server_info ∷ []) None

unfoldable pub body : Answer → List ℕ
body a = answers.body (told a)

-- the texts: a token has something open, has nothing open, or has a CONTINUE that waits; a body would be too long; a
-- history is full
abbrev pub in_use : ℕ → List ℕ
in_use token = codes "Token " ++ (decimal token ++ codes " is in use.")

abbrev pub not_open : ℕ → List ℕ
not_open token = codes "Token " ++ (decimal token ++ codes " has no open cursor.")

abbrev pub at_wait : ℕ → List ℕ
at_wait token = codes "Token " ++ (decimal token ++ codes " is already waiting.")

abbrev pub too_long : ℕ → List ℕ
too_long most = codes "Answer over size limit `" ++ (decimal most ++ codes "`.")

abbrev pub full : List ℕ
full = codes "History is full."
