-- What the program has of a login, as definitions see it.
use Rattle.std.specs.Prelude.{◌≡◌, ◌≤◌, ℕ, List, length, drop, option_map, vec_items}
use Rattle.reql_client.specs.Proving as proving
use Rattle.reql_client.specs.Login as logins
use Rattle.reql_client.specs.declared.server_first.ServerFirst.{ServerFirst}
use Rattle.reql_client.specs.declared.proof.Proof.{Proof}
use Rattle.reql_client.specs.declared.word.Word.{Word}
use Rattle.reql_client.specs.declared.word.Word.TheVariants as word
use Rattle.reql_client.specs.declared.turn.Stage.{Stage}
use Rattle.reql_client.specs.declared.turn.Stage.TheVariants as stage
use Rattle.reql_client.specs.declared.turn.Turn.{Turn}
use Rattle.reql_client.specs.declared.turn.Turn.TheVariants as turn

abbrev pub shown : ServerFirst → proving.ServerFirst
shown first = record { nonce = first.nonce.now; salt = first.salt.items; rounds = first.rounds }

abbrev pub proof_shown : Proof → proving.Proof
proof_shown proof = record { said = proof.said.items; wanted = proof.wanted.items }

-- what was heard at the front of some bytes, but for memory, which may always be wanted
abbrev pub Hears : List ℕ → Word → logins.Word → Type 0
Hears held word.Partial w = w ≡ logins.Partial
Hears held (word.Grants text used) w = (used ≤ length held) × (w ≡ logins.Grants (option_map vec_items text) (drop used held))
Hears held (word.Refuses why) w = w ≡ logins.Refuses why
Hears held word.Strange w = w ≡ logins.Strange
Hears held word.Memory w = Unit {0}

abbrev pub stage_of : Stage → logins.Stage
stage_of stage.Begun = logins.Begun
stage_of stage.Called = logins.Called
stage_of stage.Named = logins.Named
stage_of (stage.Proved wanted) = logins.Proved wanted.items

-- its turn by some bytes, likewise
abbrev pub Takes : Turn → logins.Turn → Type 0
Takes turn.Waits t = t ≡ logins.Waits
Takes (turn.Says bytes held next) t = t ≡ logins.Says bytes.items held.items (stage_of next)
Takes (turn.Enters held) t = t ≡ logins.Enters held.items
Takes (turn.Refused why) t = t ≡ logins.Refused why
Takes turn.Lost t = t ≡ logins.Lost
Takes turn.Memory t = Unit {0}
