-- What the words of the command line ask for.
use Rattle.std.specs.Prelude.{◌≡◌, ◌≤◌, ◌==◌, ◌&&◌, ◌||◌, ℕ, nat_le, Bool, true, List, length, IfSome, Result, Ok, Err}
use Rattle.std.specs.List.{list_all}
use Rattle.reql_query.specs.declared.words.Command.{Command}
use Rattle.reql_query.specs.declared.words.Command.TheVariants as command
use Rattle.reql_query.specs.declared.words.Credential.{Credential}
use Rattle.reql_query.specs.declared.words.Credential.TheVariants as credential
use Rattle.reql_query.specs.declared.words.Said.{Said}
use Rattle.reql_query.specs.declared.words.Server.{Server}
use Rattle.reql_query.specs.declared.words.Table.{Table}

-- a name of a database or table: 1 to 127 letters, digits, underscores and dashes
abbrev pub is_name_byte : ℕ → Bool
is_name_byte b = (nat_le 65 b && nat_le b 90) || (nat_le 97 b && nat_le b 122) || (nat_le 48 b && nat_le b 57) || (b == 95) || (b == 45)

pub record IsName (text : List ℕ) : Type 0 where
  pub some : 1 ≤ length text
  pub few : length text ≤ 127
  pub bytes : list_all is_name_byte text ≡ true

-- a key is one that a server takes
abbrev pub FitsCredential : Credential → Type 0
FitsCredential (credential.Key key) = length key.now ≤ 1024
FitsCredential (credential.Password password) = Unit {0}
FitsCredential (credential.PasswordFile path) = Unit {0}

-- and a port is none but 0
abbrev pub FitsServer : Server → Type 0
FitsServer server = (1 ≤ server.port) × FitsCredential server.credential

abbrev pub FitsTable : Table → Type 0
FitsTable table = IsName table.database.now × IsName table.name.now

abbrev pub Fits : Command → Type 0
Fits (command.Ask server bodies) = FitsServer server
Fits (command.Dump server table) = FitsServer server × FitsTable table
Fits (command.Restore server table) = FitsServer server × FitsTable table
Fits command.Help = Unit {0}
Fits (command.Wrong word) = Unit {0}
Fits (command.NoPort word) = Unit {0}
Fits (command.NoTable word) = Unit {0}
Fits command.LongKey = Unit {0}
Fits (command.Missing option) = Unit {0}
Fits (command.Untold wanted) = Unit {0}

-- what was said so far is right
abbrev pub IsRight : Said → Type 0
IsRight said = IfSome said.port (λ port. 1 ≤ port) × IfSome said.credential FitsCredential × IfSome said.table FitsTable

-- one more option is said, or this is why it can't be
abbrev pub Says : Result Said Command → Type 0
Says (Ok said) = IsRight said
Says (Err refusal) = Fits refusal
