-- The first of two lists of faults, one after another.
use Rattle.std.proofs.Common.{◌≡◌, List, [], ◌∷◌, ◌++◌, Option, Some, None, Result, Ok, Err, refl}
use Rattle.reql_faults.specs.Faults.{first_fault}
use Rattle.reql_faults.specs.Finds.{Finds}
use Rattle.reql_faults.specs.declared.fault.CompileFault.{CompileFault}
use Rattle.reql_faults.specs.declared.fault.CompileFault.TheVariants as e
use Rattle.reql_faults.proofs.Below.{form_below, field_below, one_of, count_of}

-- where the first list has a fault it is the first; where it has none, what the second has
pub first_some : (es fs : List CompileFault) (x : CompileFault) → first_fault es ≡ Some x → first_fault (es ++ fs) ≡ Some x
first_some [] fs x h = cc
first_some (e ∷ es) fs x h = h

pub first_none : (es fs : List CompileFault) → first_fault es ≡ None → first_fault (es ++ fs) ≡ first_fault fs
first_none [] fs h = refl
first_none (e ∷ es) fs h = cc

pub finds_first : (T : Type 0) (f : CompileFault) (es fs : List CompileFault) → Finds {T = T} (Err f) es → Finds {T = T} (Err f) (es ++ fs)
finds_first T (e.Unbound n) es fs h = first_some es fs _ h
finds_first T e.WriteNested es fs h = first_some es fs _ h
finds_first T e.TableNotLiteral es fs h = first_some es fs _ h
finds_first T e.FeedShape es fs h = first_some es fs _ h
finds_first T e.OffsetsNeedLimit es fs h = first_some es fs _ h
finds_first T e.Memory es fs h = tt

-- what is left of a walk stands for the whole
pub finds_same : {T : Type 0} (r : Result T CompileFault) (es fs : List CompileFault) → first_fault es ≡ first_fault fs → Finds r fs → Finds r es
finds_same (Ok x) es fs same h = rw same h
finds_same (Err (e.Unbound n)) es fs same h = rw same h
finds_same (Err e.WriteNested) es fs same h = rw same h
finds_same (Err e.TableNotLiteral) es fs same h = rw same h
finds_same (Err e.FeedShape) es fs same h = rw same h
finds_same (Err e.OffsetsNeedLimit) es fs same h = rw same h
finds_same (Err e.Memory) es fs same h = tt

pub ruleset firsts = (first_none, finds_first, finds_same, form_below, field_below, one_of, count_of)
