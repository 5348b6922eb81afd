use Rattle.std.proofs.Common.{◌≡◌, ◌++◌, drop, false, map, string_bytes}
use Rattle.reql_query.specs.Requests.{listed}
use Rattle.reql_query.proofs.requests.put_documents.Given as goal

abbrev pub invariant-loop-document : goal.invariant-loop-document
invariant-loop-document l = l.out.items ++ listed l.later (map string_bytes (drop l.document-index l.documents)) ≡ l.initial.out.items ++ listed false (map string_bytes l.documents)
