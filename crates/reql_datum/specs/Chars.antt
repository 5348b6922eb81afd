-- The bytes of a name, which lie in it or are shared.
use Rattle.std.specs.Prelude.{ℕ, List}
use Rattle.std.specs.Arc.{arc_str_bytes}
use Rattle.reql_datum.specs.declared.name.Chars.{Chars}
use Rattle.reql_datum.specs.declared.name.Chars.TheVariants as v

abbrev pub chars_bytes : Chars → List ℕ
chars_bytes (v.Short s) = s
chars_bytes (v.Shared s) = arc_str_bytes s
