-- Which plain values may be keys: booleans, numbers, binaries, times, texts, and arrays of keys.
use Rattle.std.specs.Prelude.{Bool, true, false, ◌&&◌}
use Rattle.reql_datum.specs.Plain.{Plain, array, boolean, number, binary, time, text, Plains, no_items, item}

abbrev mutual
  pub is_key : Plain → Bool
  is_key (array vs) = are_keys vs
  is_key (boolean b) = true
  is_key (number n) = true
  is_key (binary s) = true
  is_key (time t) = true
  is_key (text s) = true
  is_key v = false

  pub are_keys : Plains → Bool
  are_keys no_items = true
  are_keys (item v vs) = is_key v && are_keys vs
