-- What is printed and answered for what a command comes to.
use Rattle.std.specs.Prelude.{ℕ, ◌+◌, ◌==◌, if◌then◌else◌, List, [], ◌∷◌, ◌++◌, length, codes}
use Rattle.std.specs.List.{flat_map}
use Rattle.std.specs.Fmt.{decimal}
use Rattle.std.specs.declared.option.Option.{Option}
use Rattle.std.specs.declared.option.Option.TheVariants.{None, Some}
use Rattle.serde_json.specs.Written.{compact_text}
use Rattle.arz_json.specs.Writing.{data_of}
use Rattle.arz_json.specs.declared.Json.TheVariants.{Object}
use Rattle.arz_json.specs.declared.Refusal.{Refusal}
use Rattle.arz_flow.specs.declared.answers.End.{End}
use Rattle.arz_flow.specs.declared.answers.End.TheVariants.{Completed, Broke, Out, Stuck, Budget}
use Rattle.arz_flow.specs.Lines.{line_of_end}
use Rattle.arz_session.specs.declared.session.How.{How}
use Rattle.arz_session.specs.declared.session.How.TheVariants.{Held, Sent, Served, Mock}
use Rattle.arz_session.specs.declared.session.Line.{Line}
use Rattle.arz_session.specs.declared.session.Outcome.{Outcome}
use Rattle.arz_session.specs.declared.session.Outcome.TheVariants.{Ended, Pattern as Cut}
use Rattle.arz_session.specs.declared.session.Session.{Session}
use Rattle.arz_top.specs.declared.ending.Ending.{Ending}
use Rattle.arz_top.specs.declared.ending.Ending.TheVariants.{Words, File, Refused, Pattern, Ready, Played}

-- each line ends with LF
abbrev pub line : List ℕ → List ℕ
line text = text ++ 10 ∷ []

abbrev pub how_text : How → List ℕ
how_text Held = codes "held"
how_text Sent = codes "sent"
how_text Served = codes "served"
how_text Mock = codes "mock"

abbrev pub status_text : Option ℕ → List ℕ
status_text None = []
status_text (Some status) = codes " " ++ decimal status

-- `N METHOD URL STATUS HOW`, or `N wait SECONDS HOW`
abbrev pub ask_line : Line → List ℕ
ask_line l = line (decimal l.n ++ codes " " ++ l.ask ++ status_text l.status ++ codes " " ++ how_text l.how)

abbrev pub ask_lines : List Line → List ℕ
ask_lines lines = flat_map ask_line lines

-- the outputs as one line of compact JSON
abbrev pub outputs_line : End → List ℕ
outputs_line (Completed outputs) = line (compact_text (data_of (Object outputs)))
outputs_line (Broke outputs) = line (compact_text (data_of (Object outputs)))
outputs_line (Out ask) = []
outputs_line (Stuck cause at) = []
outputs_line (Budget limit) = []

-- the outcome's line, and the outputs; n is the number of the ask that is next
abbrev pub outcome_lines : ℕ → Outcome → List ℕ
outcome_lines n (Ended e) = line (line_of_end e n) ++ outputs_line e
outcome_lines n Cut = line (codes "pattern")

-- a line for each ask, and those of the outcome
abbrev pub session_report : Session → List ℕ
session_report s = ask_lines s.lines ++ outcome_lines (length s.lines + 1) s.outcome

-- the names of the rules, by their numbers
abbrev pub rule_name : ℕ → List ℕ
rule_name rule =
    if rule == 0 then codes "NotBuilt" else (
    if rule == 1 then codes "TooLarge" else (
    if rule == 2 then codes "NotJson" else (
    if rule == 3 then codes "Shape" else (
    if rule == 4 then codes "Version" else (
    if rule == 5 then codes "BadName" else (
    if rule == 6 then codes "DuplicateId" else (
    if rule == 7 then codes "Exclusive" else (
    if rule == 8 then codes "UnknownReference" else (
    if rule == 9 then codes "DependencyCycle" else (
    if rule == 10 then codes "Xpath" else (
    if rule == 11 then codes "TypeObject" else (
    if rule == 12 then codes "Fraction" else (
    if rule == 13 then codes "BadExpression" else (
    if rule == 14 then codes "BadCondition" else (
    if rule == 15 then codes "BadPath" else (
    if rule == 16 then codes "BadPattern" else (
    if rule == 17 then codes "AmbiguousOperation" else (
    if rule == 18 then codes "ExternalRef" else (
    if rule == 19 then codes "RefTooLong" else (
    if rule == 20 then codes "ServerNotHttp" else (
    if rule == 21 then codes "MissingPathParameter" else (
    if rule == 22 then codes "ReservedHeader" else (
    if rule == 23 then codes "MediaType" else (
    if rule == 24 then codes "OverLimit" else (
    if rule == 25 then codes "OverlayTarget" else (
    if rule == 26 then codes "OverlayMismatch" else (
    if rule == 27 then codes "MissingInput" else (
    []))))))))))))))))))))))))))))

-- `refused RULE NAME LABEL#POINTER`
abbrev pub refusal_line : Refusal → List ℕ
refusal_line r = line (codes "refused " ++ decimal r.rule ++ codes " " ++ rule_name r.rule ++ codes " " ++ r.label ++ codes "#" ++ r.pointer)

abbrev pub file_report : List ℕ → List ℕ
file_report path = line (codes "file " ++ path)

-- what is printed
abbrev pub report : Ending → List ℕ
report Words = line (codes "words")
report (File path) = file_report path
report (Refused refusal) = refusal_line refusal
report Pattern = line (codes "pattern")
report Ready = line (codes "ok")
report (Played session) = session_report session

abbrev pub end_status : End → ℕ
end_status (Completed outputs) = 0
end_status (Broke outputs) = 1
end_status (Out ask) = 14
end_status (Stuck cause at) = 7
end_status (Budget limit) = 6

abbrev pub outcome_status : Outcome → ℕ
outcome_status (Ended e) = end_status e
outcome_status Cut = 15

-- what is answered
abbrev pub status : Ending → ℕ
status Words = 2
status (File path) = 13
status (Refused refusal) = 3
status Pattern = 15
status Ready = 0
status (Played session) = outcome_status session.outcome
