-- The usual limits.
use Rattle.std.specs.Prelude.{◌^◌}
use Rattle.reql_table_spec.specs.declared.limits.Limits.{Limits}

abbrev pub usual_limits : Limits
usual_limits = record { batch = 1000; turns = 2 ^ 60; slots = 256; feeds = 1024; cursors = 1024; tail = 65536; frame = 67108864; answer = 268435456 }
