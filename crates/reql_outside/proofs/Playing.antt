use Rattle.std.proofs.Common.{◌≡◌, ℕ, List, ◌++◌, drop, take, map, ap, sym, ◌∙◌, append_assoc}
use Rattle.std.proofs.lemmas.List.{map-append, take-append-drop}
use Rattle.reql_outside.specs.Plays.{Play, Byte, Scripted, left_of}

-- what was left before is what was given, and what is left now
pub left_taken : (s : Scripted) (n : ℕ) (left : List Play) (given : List ℕ) → left_of s ≡ left → given ≡ take n s.piece → left ≡ map Byte given ++ left_of (record { piece = drop n s.piece; later = s.later })
left_taken s n left given e f =
    sym e
    ∙ ap (λ p. map Byte p ++ s.later) (sym (take-append-drop n s.piece))
    ∙ ap (λ p. p ++ s.later) (map-append Byte (take n s.piece) (drop n s.piece))
    ∙ append_assoc (map Byte (take n s.piece)) (map Byte (drop n s.piece)) s.later
    ∙ ap (λ p. map Byte p ++ (map Byte (drop n s.piece) ++ s.later)) (sym f)
