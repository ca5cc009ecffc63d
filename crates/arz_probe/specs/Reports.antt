-- What is printed of a file, and the status.
use Rattle.std.specs.Prelude.{ℕ, List, ◌++◌, codes, decimal, Option, Some, None, option_map, Result, Ok, Err, if◌then◌else◌}
use Rattle.std.specs.Str.{is_utf8}
use Rattle.hex.specs.Hex.{encode_lower}
use Rattle.serde_json.specs.Read.{read}
use Rattle.serde_json.specs.Written.{compact_text}
use Rattle.arz_json.specs.Reading.{tree_of}
use Rattle.arz_json.specs.Tree.{has_opaque}
use Rattle.arz_json.specs.Writing.{data_of}
use Rattle.arz_json.specs.declared.tree.Json.{Json}
use Rattle.arz_wire.specs.Reading.{first_tree}
use Rattle.arz_wire.specs.Spelling.{spelling}
use Rattle.arz_wire.specs.declared.fault.WireFault.{WireFault}
use Rattle.arz_wire.specs.declared.fault.WireFault.TheVariants.{Short, BadTag, NotCanonical, TooDeep, Memory}
use Rattle.arz_probe.specs.declared.report.Report.{Report}

abbrev pub line : List ℕ → List ℕ
line text = text ++ codes "\n"

abbrev pub good : List ℕ → Report
good text = record { text = line text; status = 0 }

abbrev pub refused : List ℕ → Report
refused text = record { text = line text; status = 3 }

abbrev pub words_form : Report
words_form = record { text = line (codes "words"); status = 2 }

abbrev pub file_form : List ℕ → Report
file_form path = record { text = line (codes "file " ++ path); status = 13 }

-- ---- from a JSON text (RFC 8259) to the wire form

-- the tree of bytes that are UTF-8 and a JSON text
abbrev pub tree_in : List ℕ → Option Json
tree_in bytes = if is_utf8 bytes then option_map tree_of (read bytes) else None

abbrev pub wire_of : Option Json → Report
wire_of (Some tree) = good (encode_lower (spelling tree))
wire_of None = refused (codes "NotJson")

abbrev pub wire_form : List ℕ → Report
wire_form bytes = wire_of (tree_in bytes)

-- ---- from the wire form to a JSON text

-- a kind of fault, and its place
abbrev pub placed : List ℕ → ℕ → List ℕ
placed kind at = kind ++ codes " " ++ decimal at

-- want of memory is no fault of the bytes
abbrev pub fault_text : WireFault → List ℕ
fault_text Short = codes "Short"
fault_text (BadTag at) = placed (codes "BadTag") at
fault_text (NotCanonical at) = placed (codes "NotCanonical") at
fault_text (TooDeep at) = placed (codes "TooDeep") at
fault_text Memory = codes "Memory"

abbrev pub text_form : Json → ℕ → Report
text_form tree taken = if has_opaque tree then refused (codes "FractionUsed") else good (compact_text (data_of tree) ++ codes " " ++ decimal taken)

abbrev pub unwire_of : Result (Json × ℕ) WireFault → Report
unwire_of (Ok x) = text_form x.0 x.1
unwire_of (Err fault) = refused (fault_text fault)

abbrev pub unwire_form : List ℕ → Report
unwire_form bytes = unwire_of (first_tree bytes)
