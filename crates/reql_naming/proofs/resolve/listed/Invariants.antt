use Rattle.std.proofs.Common.{◌≡◌, take, map}
use Rattle.reql_datum.specs.View.{plain}
use Rattle.reql_term.specs.Form.{literal}
use Rattle.reql_naming.proofs.resolve.listed.Given as goal

abbrev pub invariant-loop-item : goal.invariant-loop-item
invariant-loop-item l = l.terms ≡ map literal (map plain (take l.item-index l.item-items))
