-- Where a line of a file ends.
use Rattle.std.specs.Prelude.{ℕ, Bool, ◌||◌, ◌==◌}

abbrev pub is_line_end : ℕ → Bool
is_line_end b = b == 10 || b == 13
