-- The faults of evaluation, with their texts; the kinds are those of ql2.proto (Response.ErrorType).
use Rattle.std.specs.Prelude.{ℕ, ℤ, ◌++◌, codes}
use Rattle.std.specs.Fmt.{decimal, signed_decimal}
use Rattle.reql_datum.specs.Answer.{Reason, query_logic, non_existence, resource_limit, op_failed}
use Rattle.reql_datum.specs.declared.whole.NumFault.{NumFault}
use Rattle.reql_datum.specs.declared.whole.NumFault.TheVariants.{OverRange, ZeroDivisor, NotWhole}
use Rattle.reql_rules.specs.Lists.{Bytes}

-- types
abbrev pub type_text : Bytes → Bytes → Bytes
type_text want found = codes "Expected type " ++ (want ++ (codes " but found " ++ (found ++ codes ".")))

abbrev pub type_fault : Bytes → Bytes → Reason
type_fault want found = query_logic (type_text want found)

abbrev pub null_fault : Bytes → Reason
null_fault want = non_existence (type_text want (codes "NULL"))

abbrev pub wrong_count : ℕ → ℕ → Reason
wrong_count takes count = query_logic (codes "Expected " ++ (decimal takes ++ (codes " arguments but found " ++ (decimal count ++ codes "."))))

abbrev pub bad_option : Bytes → Reason
bad_option name = query_logic (codes "Bad value for optional argument `" ++ (name ++ codes "`."))

-- numbers
abbrev pub number_fault : NumFault → Reason
number_fault OverRange = query_logic (codes "Number outside the range of whole numbers.")
number_fault ZeroDivisor = query_logic (codes "Cannot divide by zero.")
number_fault NotWhole = query_logic (codes "Quotient is not a whole number.")

abbrev pub negative_count : Reason
negative_count = query_logic (codes "Count is negative.")

-- documents and their parts
abbrev pub cannot_coerce : Bytes → Bytes → Reason
cannot_coerce from to = query_logic (codes "Cannot coerce " ++ (from ++ (codes " to " ++ (to ++ codes "."))))

abbrev pub bad_pattern : Reason
bad_pattern = query_logic (codes "Invalid field pattern.")

abbrev pub bad_name_in_object : Reason
bad_name_in_object = query_logic (codes "Bad name in object.")

abbrev pub not_a_key : Bytes → Reason
not_a_key kind = query_logic (codes "Value of type " ++ (kind ++ codes " cannot be a key."))

abbrev pub unshowable : Reason
unshowable = query_logic (codes "Value cannot be shown or stored.")

abbrev pub no_attribute : Bytes → Reason
no_attribute name = non_existence (codes "No attribute `" ++ (name ++ codes "` in object."))

abbrev pub field_of_null : Reason
field_of_null = non_existence (codes "Cannot take a field of null.")

abbrev pub out_of_bounds : ℤ → Reason
out_of_bounds place = non_existence (codes "Index out of bounds: " ++ (signed_decimal place ++ codes "."))

abbrev pub nothing_to_aggregate : Reason
nothing_to_aggregate = non_existence (codes "Cannot aggregate an empty sequence.")

-- terms in a wrong place
abbrev pub misplaced : Reason
misplaced = query_logic (codes "Misplaced term.")

abbrev pub misplaced_order : Reason
misplaced_order = query_logic (codes "Misplaced ordering or index.")

abbrev pub empty_error : Reason
empty_error = query_logic (codes "Empty ERROR term outside a default block.")

-- limits
abbrev pub over_array : ℕ → Reason
over_array limit = resource_limit (codes "Array over size limit `" ++ (decimal limit ++ codes "`."))

abbrev pub over_depth : Reason
over_depth = resource_limit (codes "Nesting over limit `100`.")

abbrev pub over_range : Reason
over_range = resource_limit (codes "Range over size limit `1000000`.")

-- indexes
abbrev pub no_index : Bytes → Reason
no_index name = op_failed (codes "Index `" ++ (name ++ codes "` does not exist."))
