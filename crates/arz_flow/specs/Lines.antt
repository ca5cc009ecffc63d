-- The lines that tell of asks and of ends.
use Rattle.std.specs.Prelude.{ℕ, List, [], ◌++◌, codes}
use Rattle.std.specs.declared.option.Option.{Option}
use Rattle.std.specs.declared.option.Option.TheVariants.{None, Some}
use Rattle.std.specs.Fmt.{decimal}
use Rattle.arz_world.specs.declared.Request.{Request}
use Rattle.arz_flow.specs.declared.answers.Ask.{Ask}
use Rattle.arz_flow.specs.declared.answers.Ask.TheVariants.{Send, Wait}
use Rattle.arz_flow.specs.declared.answers.End.{End}
use Rattle.arz_flow.specs.declared.answers.End.TheVariants.{Completed, Broke, Out, Stuck, Budget}
use Rattle.arz_request.specs.declared.cause.Cause.{Cause}
use Rattle.arz_request.specs.declared.cause.Cause.TheVariants as cause
use Rattle.arz_flow.specs.declared.answers.Spot.{Spot}

-- the URL of a request: `http://HOST:PORT` and the target
abbrev pub url_text : Request → List ℕ
url_text q = codes "http://" ++ q.server.host ++ codes ":" ++ decimal q.server.port ++ q.target

-- `METHOD URL`, or `wait SECONDS`
abbrev pub ask_text : Ask → List ℕ
ask_text (Send q) = q.method ++ codes " " ++ url_text q
ask_text (Wait seconds) = codes "wait " ++ decimal seconds

abbrev pub cause_text : Cause → List ℕ
cause_text cause.Unresolved = codes "Unresolved"
cause_text cause.FractionUsed = codes "FractionUsed"
cause_text cause.TooNested = codes "TooNested"
cause_text cause.NotSerializable = codes "NotSerializable"
cause_text cause.BadHeaderValue = codes "BadHeaderValue"
cause_text cause.PayloadTarget = codes "PayloadTarget"
cause_text cause.RequestTooLarge = codes "RequestTooLarge"
cause_text cause.TooWide = codes "TooWide"

abbrev pub step_text : Option (List ℕ) → List ℕ
step_text None = []
step_text (Some step) = codes "/" ++ step

-- `WORKFLOW/STEP`, or `WORKFLOW`
abbrev pub spot_text : Spot → List ℕ
spot_text at = at.workflow ++ step_text at.step

-- the line of an end; n is the number of the ask that lacks an answer
abbrev pub line_of_end : End → ℕ → List ℕ
line_of_end (Completed outputs) n = codes "completed"
line_of_end (Broke outputs) n = codes "broke"
line_of_end (Stuck cause at) n = codes "stuck " ++ cause_text cause ++ codes " " ++ spot_text at
line_of_end (Out ask) n = codes "out " ++ decimal n ++ codes " " ++ ask_text ask
line_of_end (Budget limit) n = codes "budget " ++ decimal limit
