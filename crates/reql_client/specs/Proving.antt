-- The client's side of SCRAM-SHA-256 (RFC 5802 with the hash of RFC 7677, 3), without channel binding, as the user `admin`.
use Rattle.std.specs.Prelude.{ℕ, nat_lt, Bool, ◌&&◌, if◌then◌else◌, List, ◌++◌, length, drop, codes, Option, Some, None, option_and_then}
use Rattle.std.specs.Char.{is_ascii_graphic}
use Rattle.std.specs.List.{list_all}
use Rattle.base64.specs.Engines.{standard}
use Rattle.base64.specs.GeneralPurpose.{decoded_of, encode_of}
use Rattle.serde_json.specs.Find.{as_number, as_u64}
use Rattle.reql_scram.specs.Hash.{salted}
use Rattle.reql_scram.specs.Scram.{client_proof, server_signature}
use Rattle.reql_scram.specs.Texts.{begins, before_comma, from_comma}
use Rattle.reql_client.specs.Reading.{json_of}

-- client-first-message-bare, by a nonce (RFC 5802, 7)
unfoldable pub first_bare : List ℕ → List ℕ
first_bare nonce = codes "n=admin,r=" ++ nonce

-- ---- server-first-message (RFC 5802, 7)

-- the joined nonce, the salt, and the iteration count
pub record ServerFirst : Type 0 where
  pub nonce : List ℕ
  pub salt : List ℕ
  pub rounds : ℕ

-- an iteration count that a client takes: 4096 at least (RFC 7677, 4), and 1000000 at most, so that no server holds it up for long
unfoldable pub fitting : ℕ → Option ℕ
fitting rounds = if nat_lt rounds 4096 then None else if nat_lt 1000000 rounds then None else Some rounds

-- a number is written as JSON writes a whole one (RFC 5802, 7: posit-number)
unfoldable pub rounds_in : List ℕ → Option ℕ
rounds_in text = option_and_then fitting (option_and_then as_u64 (option_and_then as_number (json_of text)))

abbrev pub first_by : List ℕ → List ℕ → Option ℕ → Option ServerFirst
first_by nonce salt None = None
first_by nonce salt (Some rounds) = Some (record { nonce = nonce; salt = salt; rounds = rounds })

-- one field after another, each behind a comma; what follows the count is passed over
unfoldable pub count_read : List ℕ → List ℕ → List ℕ → Option ServerFirst
count_read nonce salt rest = if begins rest (codes ",i=") then first_by nonce salt (rounds_in (before_comma (drop 3 rest))) else None

abbrev pub salted_read : List ℕ → List ℕ → Option (List ℕ) → Option ServerFirst
salted_read nonce rest None = None
salted_read nonce rest (Some salt) = count_read nonce salt rest

unfoldable pub salt_read : List ℕ → List ℕ → Option ServerFirst
salt_read nonce rest =
    if begins rest (codes ",s=") then salted_read nonce (from_comma (drop 3 rest)) (decoded_of standard (before_comma (drop 3 rest))) else None

-- the joined nonce begins with the client's own, and more follows; it is printable ASCII
unfoldable pub is_joined : List ℕ → List ℕ → Bool
is_joined own nonce = begins nonce own && nat_lt (length own) (length nonce) && list_all is_ascii_graphic nonce

unfoldable pub server_first_of : List ℕ → List ℕ → Option ServerFirst
server_first_of own text =
    if begins text (codes "r=") && is_joined own (drop 2 (before_comma text))
    then salt_read (drop 2 (before_comma text)) (from_comma text)
    else None

-- ---- what the client answers

-- client-final-message, and the server-final-message that is wanted for it
pub record Proof : Type 0 where
  pub said : List ℕ
  pub wanted : List ℕ

-- client-final-message-without-proof, where `biws` is the header `n,,` in base64 (RFC 5802, 7)
unfoldable pub front_by : List ℕ → List ℕ
front_by nonce = codes "c=biws,r=" ++ nonce

-- AuthMessage (RFC 5802, 3), by the client's nonce, the server-first-message and client-final-message-without-proof
unfoldable pub auth_by : List ℕ → List ℕ → List ℕ → List ℕ
auth_by own text front = first_bare own ++ (codes "," ++ (text ++ (codes "," ++ front)))

-- by SaltedPassword and AuthMessage
unfoldable pub said_by : List ℕ → List ℕ → List ℕ → List ℕ
said_by salted auth front = front ++ (codes ",p=" ++ encode_of standard (client_proof salted auth))

unfoldable pub wanted_by : List ℕ → List ℕ → List ℕ
wanted_by salted auth = codes "v=" ++ encode_of standard (server_signature salted auth)

abbrev pub proof_by : List ℕ → List ℕ → List ℕ → Proof
proof_by salted auth front = record { said = said_by salted auth front; wanted = wanted_by salted auth }

-- by a password, the client's nonce, and the server-first-message with what is read of it
unfoldable pub proof_of : List ℕ → List ℕ → List ℕ → ServerFirst → Proof
proof_of password own text first = proof_by (salted password first.salt first.rounds) (auth_by own text (front_by first.nonce)) (front_by first.nonce)
