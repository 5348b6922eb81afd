-- Where a fault of chained text is.
use Rattle.std.specs.Prelude.{◌≡◌, ◌+◌, ◌||◌, ℕ, nat_lt, Bool, not, List, take, count_by}
use Rattle.reql_chain.specs.declared.fault.ChainFault.{ChainFault}
use Rattle.reql_chain.specs.declared.fault.ChainFault.TheVariants as fault

-- whether a byte of UTF-8 begins a character: those within one are 0x80 to 0xbf
abbrev pub begins_character : ℕ → Bool
begins_character b = nat_lt b 128 || not (nat_lt b 192)

-- the column of a byte: how many characters begin before it, from 1
abbrev pub column_of : List ℕ → ℕ → ℕ
column_of text at = count_by begins_character (take at text) + 1

-- a fault is at a column of the text, or at its end
abbrev pub Points : List ℕ → ChainFault → Type 0
Points text (fault.At column what) = (at : ℕ) × (column ≡ column_of text at)
Points text fault.Memory = Unit {0}
