-- The objects that INFO, CONFIG, STATUS and INDEX_STATUS give (ReQL API reference: info, config, status, indexStatus), and the ids of tables and databases.
use Rattle.std.specs.Prelude.{ℕ, zero, suc, ◌+◌, ◌/◌, ◌%◌, ◌^◌, nat_lt, List, [], ◌∷◌, ◌++◌, map, take, drop, Bool, true, false, if◌then◌else◌, codes}
use Rattle.reql_datum.specs.Plain.{Plain, boolean, text}
use Rattle.reql_rules.specs.Lists.{Bytes, object_of, array_of}
use Rattle.reql_rules.specs.Places.{counted_as}

-- so many hexadecimal digits
abbrev pub digit : ℕ → ℕ
digit d = if nat_lt d 10 then 48 + d else 87 + d

abbrev pub hex : ℕ → ℕ → Bytes
hex zero n = []
hex (suc k) n = hex k (n / 16) ++ digit (n % 16) ∷ []

abbrev pub hyphened : Bytes → Bytes
hyphened s = take 8 s ++ (45 ∷ take 4 (drop 8 s) ++ (45 ∷ take 4 (drop 12 s) ++ (45 ∷ take 4 (drop 16 s) ++ 45 ∷ drop 20 s)))

abbrev pub uuid : ℕ → Plain
uuid n = text (hyphened (hex 32 n))

abbrev pub table_id : ℕ → Plain
table_id n = uuid n

abbrev pub database_id : ℕ → Plain
database_id made = uuid (2 ^ 64 + made)

-- a table: its slot, the name and the number of its database, its own name, its key field, its indexes in order
pub record About : Type 0 where
  pub slot : ℕ
  pub db : Bytes
  pub db_number : ℕ
  pub name : Bytes
  pub key : Bytes
  pub indexes : List Bytes

abbrev pub texts : List Bytes → Plain
texts names = array_of (map text names)

abbrev pub db_info : Bytes → ℕ → Plain
db_info name made = object_of ((codes "id", database_id made) ∷ (codes "name", text name) ∷ (codes "type", text (codes "DB")) ∷ [])

abbrev pub db_config : Bytes → ℕ → Plain
db_config name made = object_of ((codes "id", database_id made) ∷ (codes "name", text name) ∷ [])

abbrev pub table_info : About → ℕ → Plain
table_info t count = object_of (
    (codes "db", db_info t.db t.db_number) ∷
    (codes "doc_count_estimates", array_of (counted_as count ∷ [])) ∷
    (codes "id", table_id t.slot) ∷
    (codes "indexes", texts t.indexes) ∷
    (codes "name", text t.name) ∷
    (codes "primary_key", text t.key) ∷
    (codes "type", text (codes "TABLE")) ∷ [])

abbrev pub table_config : About → Plain
table_config t = object_of (
    (codes "db", text t.db) ∷
    (codes "id", table_id t.slot) ∷
    (codes "indexes", texts t.indexes) ∷
    (codes "name", text t.name) ∷
    (codes "primary_key", text t.key) ∷ [])

abbrev pub readiness : Plain
readiness = object_of (
    (codes "all_replicas_ready", boolean true) ∷
    (codes "ready_for_outdated_reads", boolean true) ∷
    (codes "ready_for_reads", boolean true) ∷
    (codes "ready_for_writes", boolean true) ∷ [])

abbrev pub table_status : About → Plain
table_status t = object_of (
    (codes "db", text t.db) ∷
    (codes "id", table_id t.slot) ∷
    (codes "name", text t.name) ∷
    (codes "status", readiness) ∷ [])

-- what INDEX_STATUS and INDEX_WAIT give of an index
abbrev pub index_status : Bytes → Bool → Plain
index_status name multi = object_of (
    (codes "geo", boolean false) ∷
    (codes "index", text name) ∷
    (codes "multi", boolean multi) ∷
    (codes "outdated", boolean false) ∷
    (codes "ready", boolean true) ∷ [])

-- what INFO gives of any other value
abbrev pub type_info : Bytes → Plain
type_info kind = object_of ((codes "type", text kind) ∷ [])
