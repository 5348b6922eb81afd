-- What the words of the command line ask for.
use Rattle.std.specs.Prelude.{◌≡◌, ℕ, List, [], ◌∷◌, ◌++◌, length, Option, Some, None, option_map, is_none, is_some, unwrap_or, Result, Ok, Err, Bool, true, false, ◌&&◌, ◌||◌, ◌==◌, not, nat_le, nat_lt, cond, codes, map}
use Rattle.std.specs.Borrow.{Bor}
use Rattle.std.specs.Char.{is_ascii_digit}
use Rattle.std.specs.List.{list_all, list_any, position_or_len, before_first, after_first}
use Rattle.std.specs.Str.{bytes_eq}
use Rattle.std.specs.Str.Parse.{digits_value}
use Rattle.reql_wire.specs.Greeting.{longest_key}
use Rattle.reql_catalog.specs.Catalog.{is_name}
use Rattle.reql_words.specs.declared.options.Options.{Options}
use Rattle.reql_words.specs.declared.options.Server.{Server}
use Rattle.reql_words.specs.declared.options.Server.TheVariants as servers
use Rattle.reql_words.specs.declared.words.Command.{Command}
use Rattle.reql_words.specs.declared.words.Command.TheVariants as says
use Rattle.reql_words.specs.declared.words.Refusal.{Refusal}
use Rattle.reql_words.specs.declared.words.Refusal.TheVariants as refuses
use Rattle.reql_words.specs.declared.words.Wanted.{Wanted}
use Rattle.reql_words.specs.declared.words.Wanted.TheVariants as wanted

-- what the words ask for; sessions are served by a key and a password, with tables by database and name, one of them over standard
-- input and output, or on a port by so many workers, so many at once and so many in all, and quietly or not; or the words have to say what stands in this
-- file before they ask for sessions; a load has a seed and a size; in place of a word that is not within, a number from the least to the
-- most is wanted
pub data Asks : Type 0 where
  Stdio : List ℕ → List ℕ → List (List ℕ × List ℕ) → Asks
  Listen : ℕ → ℕ → ℕ → ℕ → List ℕ → List ℕ → Bool → List (List ℕ × List ℕ) → Asks
  PasswordFile : List ℕ → Asks
  Load : ℕ → ℕ → Asks
  Help : Asks
  Version : Asks
  Wrong : List ℕ → Asks
  NotWithin : List ℕ → ℕ → ℕ → Asks
  BadPassword : Asks
  Missing : Wanted → Asks

-- what the options of a server so far have said: a key, a password or the file that it stands in, tables in the order of the words,
-- numbers, and whether to say little
pub record Said : Type 0 where
  pub server : Server
  pub key : Option (List ℕ)
  pub password : Option (List ℕ)
  pub file : Option (List ℕ)
  pub tables : List (List ℕ × List ℕ)
  pub port : Option ℕ
  pub workers : Option ℕ
  pub clients : Option ℕ
  pub sessions : Option ℕ
  pub quiet : Bool

abbrev pub said_nothing : Server → Said
said_nothing server = record {
  server = server;
  key = None;
  password = None;
  file = None;
  tables = [];
  port = None;
  workers = None;
  clients = None;
  sessions = None;
  quiet = false;
}

-- a word's database and table stand before and behind its first point, and both are names; the empty text, where it has none, isn't
abbrev pub is_point : ℕ → Bool
is_point b = b == 46

abbrev pub table_in : List ℕ → Option (List ℕ × List ℕ)
table_in word = cond (is_name (before_first is_point word) && is_name (after_first is_point word)) (Some (before_first is_point word, after_first is_point word)) None

abbrev pub is_pair : List ℕ × List ℕ → List ℕ × List ℕ → Bool
is_pair p q = bytes_eq q.0 p.0 && bytes_eq q.1 p.1

-- words name at most so many tables, as many as a server has slots for
abbrev pub most_tables : ℕ
most_tables = 256

-- one more option with its value, or why it can't be: a key is said once and has at most 1024 bytes
abbrev pub with_key : List ℕ → List ℕ → Said → Result Said Asks
with_key word value said =
    cond (is_none said.key)
    (cond (nat_le (length value) longest_key) (Ok (record said { key = Some value })) (Err (Wrong value)))
    (Err (Wrong word))

-- a password has at most 256 characters, each a printable one of ASCII
abbrev pub longest_password : ℕ
longest_password = 256

abbrev pub is_printable : ℕ → Bool
is_printable b = nat_le 32 b && nat_le b 126

abbrev pub is_password : List ℕ → Bool
is_password value = nat_le (length value) longest_password && list_all is_printable value

-- a password is said once, by itself or by its file, and no fault tells it
abbrev pub no_password : Said → Bool
no_password said = is_none said.password && is_none said.file

abbrev pub with_password : List ℕ → List ℕ → Said → Result Said Asks
with_password word value said =
    cond (no_password said)
    (cond (is_password value) (Ok (record said { password = Some value })) (Err BadPassword))
    (Err (Wrong word))

abbrev pub with_file : List ℕ → List ℕ → Said → Result Said Asks
with_file word value said = cond (no_password said) (Ok (record said { file = Some value })) (Err (Wrong word))

-- a table is said once, and no more than there may be
abbrev pub one_more : List ℕ → Said → Option (List ℕ × List ℕ) → Result Said Asks
one_more value said None = Err (Wrong value)
one_more value said (Some p) =
    cond (nat_lt (length said.tables) most_tables && not (list_any (is_pair p) said.tables))
    (Ok (record said { tables = said.tables ++ p ∷ [] })) (Err (Wrong value))

abbrev pub with_table : List ℕ → Said → Result Said Asks
with_table value said = one_more value said (table_in value)

-- a number is written in decimal digits, with no sign and no needless zero before them
abbrev pub is_numeral : List ℕ → Bool
is_numeral [] = false
is_numeral (b ∷ bs) = (not (b == 48) || length bs == 0) && list_all is_ascii_digit (b ∷ bs)

-- from the least to the most
abbrev pub is_within : ℕ → ℕ → List ℕ → Bool
is_within least most word = is_numeral word && (nat_le least (digits_value 10 word) && nat_le (digits_value 10 word) most)

abbrev pub number_within : ℕ → ℕ → List ℕ → Option ℕ
number_within least most word = cond (is_within least most word) (Some (digits_value 10 word)) None

-- a number is said once, and within its range
abbrev pub number_or : List ℕ → ℕ → ℕ → Option ℕ → Result ℕ Asks
number_or value least most None = Err (NotWithin value least most)
number_or value least most (Some n) = Ok n

abbrev pub within_or : List ℕ → ℕ → ℕ → Result ℕ Asks
within_or word least most = number_or word least most (number_within least most word)

abbrev pub number_once : List ℕ → List ℕ → Bool → ℕ → ℕ → Result ℕ Asks
number_once word value is_first least most = cond is_first (within_or value least most) (Err (Wrong word))

abbrev pub put : Result ℕ Asks → (ℕ → Said) → Result Said Asks
put (Ok n) said = Ok (said n)
put (Err a) said = Err a

-- port 1 to 65535, 1 to 64 workers, 1 to 4096 clients at once, 1 to 4294967295 sessions
abbrev pub with_port : List ℕ → List ℕ → Said → Result Said Asks
with_port word value said = put (number_once word value (is_none said.port) 1 65535) (λ n. record said { port = Some n })

abbrev pub with_workers : List ℕ → List ℕ → Said → Result Said Asks
with_workers word value said = put (number_once word value (is_none said.workers) 1 64) (λ n. record said { workers = Some n })

abbrev pub with_clients : List ℕ → List ℕ → Said → Result Said Asks
with_clients word value said = put (number_once word value (is_none said.clients) 1 4096) (λ n. record said { clients = Some n })

abbrev pub with_sessions : List ℕ → List ℕ → Said → Result Said Asks
with_sessions word value said = put (number_once word value (is_none said.sessions) 1 4294967295) (λ n. record said { sessions = Some n })

-- the options that a server that listens has alone
abbrev pub with_number : Server → List ℕ → List ℕ → Said → Result Said Asks
with_number servers.Stdio word value said = Err (Wrong word)
with_number servers.Listen word value said =
    cond (bytes_eq word (codes "--port")) (with_port word value said)
    (cond (bytes_eq word (codes "--workers")) (with_workers word value said)
    (cond (bytes_eq word (codes "--clients")) (with_clients word value said)
    (cond (bytes_eq word (codes "--sessions")) (with_sessions word value said) (Err (Wrong word)))))

abbrev pub with_option : List ℕ → List ℕ → Said → Result Said Asks
with_option word value said =
    cond (bytes_eq word (codes "--key")) (with_key word value said)
    (cond (bytes_eq word (codes "--table")) (with_table value said)
    (cond (bytes_eq word (codes "--password")) (with_password word value said)
    (cond (bytes_eq word (codes "--password-file")) (with_file word value said) (with_number said.server word value said))))

-- an option that one word says whole: with its value behind the first equals sign, or one that has no value, which a server that
-- listens has alone, and which is said once
abbrev pub is_equals : ℕ → Bool
is_equals b = b == 61

abbrev pub value_in : List ℕ → Option (List ℕ × List ℕ)
value_in word = cond (nat_lt (position_or_len is_equals word) (length word)) (Some (before_first is_equals word, after_first is_equals word)) None

abbrev pub is_whole : List ℕ → Bool
is_whole word = is_some (value_in word) || bytes_eq word (codes "--quiet")

abbrev pub with_quiet : Server → List ℕ → Said → Result Said Asks
with_quiet servers.Stdio word said = Err (Wrong word)
with_quiet servers.Listen word said = cond said.quiet (Err (Wrong word)) (Ok (record said { quiet = true }))

abbrev pub with_value : List ℕ → Said → Option (List ℕ × List ℕ) → Result Said Asks
with_value word said None = with_quiet said.server word said
with_value word said (Some p) = with_option p.0 p.1 said

abbrev pub with_whole : List ℕ → Said → Result Said Asks
with_whole word said = with_value word said (value_in word)

-- the words end at an option whose value is wanted
abbrev pub lacks_number : Server → List ℕ → Said → Asks
lacks_number servers.Stdio word said = Wrong word
lacks_number servers.Listen word said =
    cond (bytes_eq word (codes "--port") && is_none said.port) (Missing wanted.Port)
    (cond (bytes_eq word (codes "--workers") && is_none said.workers) (Missing wanted.Workers)
    (cond (bytes_eq word (codes "--clients") && is_none said.clients) (Missing wanted.Clients)
    (cond (bytes_eq word (codes "--sessions") && is_none said.sessions) (Missing wanted.Sessions) (Wrong word))))

abbrev pub lacks_value : List ℕ → Said → Asks
lacks_value word said =
    cond (bytes_eq word (codes "--key") && is_none said.key) (Missing wanted.Key)
    (cond (bytes_eq word (codes "--table")) (Missing wanted.TableName)
    (cond (bytes_eq word (codes "--password") && no_password said) (Missing wanted.Password)
    (cond (bytes_eq word (codes "--password-file") && no_password said) (Missing wanted.PasswordFile) (lacks_number said.server word said))))

-- All options are said. Without a key it is empty, and so is the password; without a port it is 28015, which drivers use where none is
-- said; without more, 4 workers serve 1024 clients at once, and as many sessions as may be.
abbrev pub serves_by : Server → Said → Asks
serves_by servers.Stdio said = Stdio (unwrap_or said.key []) (unwrap_or said.password []) said.tables
serves_by servers.Listen said =
    Listen (unwrap_or said.port 28015) (unwrap_or said.workers 4) (unwrap_or said.clients 1024) (unwrap_or said.sessions 4294967295)
    (unwrap_or said.key []) (unwrap_or said.password []) said.quiet said.tables

-- where a password stands in a file, that comes first
abbrev pub serves_from : Option (List ℕ) → Said → Asks
serves_from None said = serves_by said.server said
serves_from (Some file) said = PasswordFile file

abbrev pub serves : Said → Asks
serves said = serves_from said.file said

-- options in any order, each said whole by one word, or with the next word as its value, whatever that begins with
abbrev pub goes_on : Result Said Asks → (Said → Asks) → Asks
goes_on (Ok said) rest = rest said
goes_on (Err why) rest = why

abbrev pub asks_options : List (List ℕ) → Said → Asks
asks_options [] said = serves said
asks_options (w ∷ []) said = cond (is_whole w) (goes_on (with_whole w said) serves) (lacks_value w said)
asks_options (w ∷ (v ∷ ws)) said =
    cond (is_whole w) (goes_on (with_whole w said) (asks_options (v ∷ ws))) (goes_on (with_option w v said) (asks_options ws))

-- the words with this password said in place of the file that it stands in
abbrev pub told_value : List ℕ → List ℕ → Option (List ℕ × List ℕ) → List ℕ
told_value password word None = word
told_value password word (Some p) = cond (bytes_eq p.0 (codes "--password-file")) (codes "--password=" ++ password) word

abbrev pub told_word : List ℕ → List ℕ → List ℕ
told_word password word = told_value password word (value_in word)

abbrev pub told_pair : List ℕ → List ℕ → List ℕ → List (List ℕ)
told_pair password word value = cond (bytes_eq word (codes "--password-file")) (codes "--password" ∷ password ∷ []) (word ∷ value ∷ [])

abbrev pub told_options : List ℕ → List (List ℕ) → List (List ℕ)
told_options password [] = []
told_options password (w ∷ []) = told_word password w ∷ []
told_options password (w ∷ (v ∷ ws)) =
    cond (is_whole w) (told_word password w ∷ told_options password (v ∷ ws)) (told_pair password w v ++ told_options password ws)

abbrev pub told : List ℕ → List (List ℕ) → List (List ℕ)
told password [] = []
told password (w ∷ ws) = w ∷ told_options password ws

-- the words end here
abbrev pub ends_in : Asks → List (List ℕ) → Asks
ends_in asks [] = asks
ends_in asks (w ∷ ws) = Wrong w

-- a load is asked for by its seed, 0 to 1000000, and its size, 1 to 20000
abbrev pub with_size : ℕ → List (List ℕ) → Result ℕ Asks → Asks
with_size seed ws (Ok size) = ends_in (Load seed size) ws
with_size seed ws (Err why) = why

abbrev pub asks_size : ℕ → List (List ℕ) → Asks
asks_size seed [] = Missing wanted.Size
asks_size seed (w ∷ ws) = with_size seed ws (within_or w 1 20000)

abbrev pub with_seed : List (List ℕ) → Result ℕ Asks → Asks
with_seed ws (Ok seed) = asks_size seed ws
with_seed ws (Err why) = why

abbrev pub asks_load : List (List ℕ) → Asks
asks_load [] = Missing wanted.Seed
asks_load (w ∷ ws) = with_seed ws (within_or w 0 1000000)

abbrev pub asks : List (List ℕ) → Asks
asks [] = Missing wanted.Command
asks (w ∷ ws) =
    cond (bytes_eq w (codes "stdio")) (asks_options ws (said_nothing servers.Stdio))
    (cond (bytes_eq w (codes "listen")) (asks_options ws (said_nothing servers.Listen))
    (cond (bytes_eq w (codes "load")) (asks_load ws)
    (cond (bytes_eq w (codes "--help") || bytes_eq w (codes "-h")) (ends_in Help ws)
    (cond (bytes_eq w (codes "--version")) (ends_in Version ws) (Wrong w)))))

-- a table as a command and the options hold it
abbrev pub named : Bor (List ℕ) × Bor (List ℕ) → List ℕ × List ℕ
named t = (t.0.now, t.1.now)

-- whether a table may be named beside these
abbrev pub is_one_more : List ℕ × List ℕ → List (Bor (List ℕ) × Bor (List ℕ)) → Bool
is_one_more p tables = nat_lt (length tables) most_tables && not (list_any (λ t. is_pair p (named t)) tables)

-- a refusal, and a command, say what the words ask for
abbrev pub refused : Refusal → Asks
refused (refuses.Wrong word) = Wrong word.now
refused (refuses.NotWithin word least most) = NotWithin word.now least most
refused refuses.BadPassword = BadPassword
refused (refuses.Missing what) = Missing what

abbrev pub Says : Asks → Command → Type 0
Says a (says.Stdio key password tables) = a ≡ Stdio key.now password.now (map named tables.items)
Says a (says.Listen port workers clients sessions key password quiet tables) = a ≡ Listen port workers clients sessions key.now password.now quiet (map named tables.items)
Says a (says.PasswordFile path) = a ≡ PasswordFile path.now
Says a (says.Load seed size) = a ≡ Load seed size
Says a says.Help = a ≡ Help
Says a says.Version = a ≡ Version
Says a (says.Refused refusal) = a ≡ refused refusal

-- what the program holds of the options, and what it makes of one more: they go on, or they are refused
abbrev pub said_of : Options → Said
said_of o = record {
  server = o.server;
  key = option_map (λ k. k.now) o.key;
  password = option_map (λ p. p.now) o.password;
  file = option_map (λ f. f.now) o.file;
  tables = map named o.tables.items;
  port = o.port;
  workers = o.workers;
  clients = o.clients;
  sessions = o.sessions;
  quiet = o.quiet;
}

abbrev pub Steps : Result Said Asks → Said → Result (Unit {0}) Refusal → Type 0
Steps a said (Ok u) = a ≡ Ok said
Steps a said (Err refusal) = a ≡ Err (refused refusal)

-- a number of one option
abbrev pub Numbers : Result ℕ Asks → Result ℕ Refusal → Type 0
Numbers a (Ok n) = a ≡ Ok n
Numbers a (Err refusal) = a ≡ Err (refused refusal)

-- and of all that are left
abbrev pub SaysAll : Asks → Said → Result (Unit {0}) Refusal → Type 0
SaysAll a said (Ok u) = a ≡ serves said
SaysAll a said (Err refusal) = a ≡ refused refusal
