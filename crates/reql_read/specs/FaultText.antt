-- What a client is told of a fault of reading.
use Rattle.std.specs.Prelude.{ℕ, List, ◌++◌, codes}
use Rattle.std.specs.Fmt.{decimal}
use Rattle.reql_json.specs.declared.fault.JsonFault.{JsonFault}
use Rattle.reql_json.specs.declared.fault.JsonFault.TheVariants as json
use Rattle.reql_read.specs.declared.fault.ReadFault.{ReadFault}
use Rattle.reql_read.specs.declared.fault.ReadFault.TheVariants as fault

abbrev pub number_text : JsonFault → List ℕ
number_text json.Fraction = codes "Number is not whole."
number_text json.OverRange = codes "Number outside the range of whole numbers."
number_text json.Reserved = codes "Reserved name `$reql_type$`."
number_text json.Memory = codes "Out of memory."

abbrev pub unknown_text : ℕ → List ℕ
unknown_text n = codes "Unknown term " ++ decimal n ++ codes "."

abbrev pub left_out_text : ℕ → List ℕ
left_out_text n = codes "Term " ++ decimal n ++ codes " is not supported."

abbrev pub arity_text : ℕ → ℕ → List ℕ
arity_text n count = codes "Term " ++ (decimal n ++ (codes " does not take " ++ (decimal count ++ codes " arguments.")))

abbrev pub option_text : List ℕ → List ℕ
option_text name = codes "Unrecognized optional argument `" ++ name ++ codes "`."

abbrev pub fault_text : ReadFault → List ℕ
fault_text fault.NotJson = codes "Query is not JSON."
fault_text fault.BadShape = codes "Query has a wrong shape."
fault_text (fault.UnknownTerm n) = unknown_text n
fault_text (fault.LeftOut n) = left_out_text n
fault_text (fault.Arity n count) = arity_text n count
fault_text (fault.BadOptarg name) = option_text name
fault_text (fault.Number e) = number_text e
fault_text fault.Memory = codes "Out of memory."
