-- The request of a dump is short.
use Rattle.std.proofs.Common.{ℕ, ◌^◌, ◌<◌, ◌≤◌, ◌++◌, List, length, codes, arith, length-append}
use Rattle.reql_query.specs.Requests.{database_term, dump_body, name_and_end, table_term}

pub short_dump : (database name : List ℕ) → length database ≤ 127 → length name ≤ 127 → length (dump_body database name) < 2 ^ 32
unfolding dump_body table_term database_term name_and_end
short_dump database name a b =
    omega (
      arith,
      a,
      b,
      length-append name (codes "\"]]"),
      length-append database (codes "\"]]"),
      length-append (database ++ codes "\"]]") (codes ",\"" ++ (name ++ codes "\"]]")),
      length-append ((database ++ codes "\"]]") ++ (codes ",\"" ++ (name ++ codes "\"]]"))) (codes "]"),
    )
