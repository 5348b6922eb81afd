-- A fault of a term, whatever stands beside it.
use Rattle.std.proofs.Common.{List, Result, Err}
use Rattle.reql_faults.specs.Finds.{Finds}
use Rattle.reql_faults.specs.declared.fault.CompileFault.{CompileFault}
use Rattle.reql_faults.specs.declared.fault.CompileFault.TheVariants as fault

pub finds_as : (S T : Type 0) (e : CompileFault) (es : List CompileFault) → Finds {T = S} (Err e) es → Finds {T = T} (Err e) es
finds_as S T fault.Memory es is = is
finds_as S T (fault.Unbound n) es is = is
finds_as S T fault.WriteNested es is = is
finds_as S T fault.TableNotLiteral es is = is
finds_as S T fault.FeedShape es is = is
finds_as S T fault.OffsetsNeedLimit es is = is
