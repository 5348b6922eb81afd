-- A term as it is written in a body, once its shape was tested.
use Rattle.std.specs.Prelude.{ℕ, suc, List, [], ◌∷◌}
use Rattle.serde_json.specs.Data.{Data}

-- names of optional arguments
abbrev pub Names : Type 0
Names = List (List ℕ)

-- A term is written [number, arguments, optional arguments], and an object as itself. Five numbers have a form of
-- their own, in which no optional argument is ever read: of those the names alone are kept.
mutual
  pub data Written : Type 0 where
    -- a JSON value that stands for a document: null, a boolean, a number, a text, or an object that has the reserved name
    value : Data → Written
    -- [2, items]
    array : Parts → Names → Written
    -- {name: term, ..}, and [3, [], {name: term, ..}]
    object : NamedParts → Written
    -- [10, [id]]
    variable : ℕ → Names → Written
    -- [13]
    row : Names → Written
    -- [69, [[2, ids], body]], with the names that stand with the ids before the body
    function : List ℕ → Names → Written → Names → Written
    -- any other number
    call : ℕ → Parts → NamedParts → Written

  pub data Parts : Type 0 where
    no_parts : Parts
    part : Written → Parts → Parts

  pub data NamedParts : Type 0 where
    no_named : NamedParts
    named : List ℕ → Written → NamedParts → NamedParts

abbrev pub count_of : Parts → ℕ
count_of no_parts = 0
count_of (part w ws) = suc (count_of ws)

abbrev pub names_of : NamedParts → Names
names_of no_named = []
names_of (named k w ws) = k ∷ names_of ws
