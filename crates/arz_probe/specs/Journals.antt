-- What is printed of a journal's file, and the status.
use Rattle.std.specs.Prelude.{◌≡◌, ℕ, Bool, ◌+◌, List, [], ◌∷◌, ◌++◌, length, codes, Option, Some, None, if◌then◌else◌}
use Rattle.std.specs.List.{flat_map, sum_by}
use Rattle.arz_wire.specs.Entries.{entry_spelling}
use Rattle.arz_wire.specs.Spelling.{spelling}
use Rattle.arz_wire.specs.declared.entry.Entry.{Entry}
use Rattle.arz_wire.specs.declared.entry.Entry.TheVariants.{Start, Begun, Held, Served}
use Rattle.arz_journal.specs.Journal.{recovered, ahead}
use Rattle.arz_probe.specs.Reports.{line, good, placed}
use Rattle.arz_probe.specs.declared.report.Report.{Report}

abbrev pub flag_text : Bool → List ℕ
flag_text flag = if flag then codes "true" else codes "false"

-- what an entry tells, and how many bytes its tree has in wire form, or its message
abbrev pub entry_text : Entry → List ℕ
entry_text (Start tree) = placed (codes "start") (length (spelling tree))
entry_text (Begun n) = placed (codes "begun") n
entry_text (Held n closed message) = placed (placed (codes "held") n ++ codes " " ++ flag_text closed) (length message)
entry_text (Served n) = placed (codes "served") n

-- a line for each
abbrev pub entry_lines : List Entry → List ℕ
entry_lines entries = flat_map (λ entry. line (entry_text entry)) entries

-- how many bytes an entry has with its gate and the number behind it
abbrev pub block_length : Entry → ℕ
block_length entry = 5 + length (entry_spelling entry)

-- the place of the gate behind entries that begin at a place
abbrev pub gate_behind : ℕ → List Entry → ℕ
gate_behind at entries = at + sum_by block_length entries

-- the lines of entries, and then how they end
abbrev pub ended_form : List Entry → Option ℕ → Report
ended_form entries (Some at) = record { text = entry_lines entries ++ line (placed (codes "not a journal") at); status = 12 }
ended_form entries None = record { text = entry_lines entries ++ line (placed (codes "closed gate") (gate_behind 8 entries)); status = 0 }

abbrev pub recovered_form : List Entry → Option ℕ → Report
recovered_form [] None = good (codes "nothing")
recovered_form [] (Some at) = ended_form [] (Some at)
recovered_form (entry ∷ entries) broken = ended_form (entry ∷ entries) broken

-- what is printed of a file
abbrev pub journal_form : List ℕ → Report
journal_form file = recovered_form (recovered file).entries (recovered file).broken

-- a text goes on by the lines of the entries ahead of a place, whose last is behind that place
pub record Listed (before file : List ℕ) (place : ℕ) (now : List ℕ) (behind : ℕ) : Type 0 where
  pub text : now ≡ before ++ entry_lines (ahead file place).entries
  pub closed : (ahead file place).broken ≡ None
  pub gate : behind ≡ gate_behind place (ahead file place).entries

-- and of those up to where it is no journal
pub record IsBrokenAt (before file : List ℕ) (place : ℕ) (now : List ℕ) (at : ℕ) : Type 0 where
  pub text : now ≡ before ++ entry_lines (ahead file place).entries
  pub broken : (ahead file place).broken ≡ Some at
