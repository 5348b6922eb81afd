-- How printing and reading meet.
use Rattle.std.specs.Prelude.{◌≡◌, ℕ, List, true, ◌↔◌, is_some, Option, Some, None, Ok}
use Rattle.reql_term.specs.Form.{Form}
use Rattle.reql_read.specs.Globals.{usual}
use Rattle.reql_read.specs.Query.{Asked, start, continued, stop, noreply_wait, server_info, query_text}
use Rattle.reql_read.specs.Spelling.{spelled, HasText, IsHeld}
use Rattle.reql_print.specs.Printed.{is_held, printed}

-- what is printed of a term reads back to that very term, with the options that a query has where it says none
abbrev pub PrintedReadsBack : Type 0
PrintedReadsBack = (f : Form) (text : List ℕ) → printed f ≡ Some text → HasText (spelled f) → query_text text ≡ Ok (start f usual)

-- the term that a body starts
abbrev pub started : Asked → Option Form
started (start f s) = Some f
started continued = None
started stop = None
started noreply_wait = None
started server_info = None

-- each term that is read from a body can be printed
abbrev pub ReadIsPrinted : Type 0
ReadIsPrinted = (body : List ℕ) (a : Asked) (f : Form) → query_text body ≡ Ok a → started a ≡ Some f → is_some (printed f) ≡ true

-- the test tells just the terms that a body can hold
abbrev pub TellsHeld : Type 0
TellsHeld = (f : Form) → (is_held f ≡ true) ↔ IsHeld f
