-- What a client is told of a fault of planning, a compile error.
use Rattle.std.specs.Prelude.{ℕ, List, ◌++◌, codes}
use Rattle.std.specs.Fmt.{decimal}
use Rattle.reql_faults.specs.declared.fault.CompileFault.{CompileFault}
use Rattle.reql_faults.specs.declared.fault.CompileFault.TheVariants as fault

abbrev pub unbound_text : ℕ → List ℕ
unbound_text n = codes "Unbound variable " ++ (decimal n ++ codes ".")

abbrev pub fault_text : CompileFault → List ℕ
fault_text (fault.Unbound n) = unbound_text n
fault_text fault.WriteNested = codes "Write or command inside another term."
fault_text fault.TableNotLiteral = codes "Name is not a literal text."
fault_text fault.FeedShape = codes "Changes cannot follow this term."
fault_text fault.OffsetsNeedLimit = codes "include_offsets needs order_by with an index and limit."
fault_text fault.Memory = codes "Out of memory."
