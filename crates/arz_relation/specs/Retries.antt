-- Retries: how often each was made, and how long it waits (Arazzo 1.0.1, 4.6.8).
use Rattle.std.specs.Prelude.{ℕ, ◌+◌, ◌*◌, ◌-◌, min, nat_le, not, ◌&&◌, Bool, false, List, [], ◌∷◌, ◌++◌, filter, find, codes, if◌then◌else◌, Option, Some, None, option_and_then, unwrap_or}
use Rattle.std.specs.List.{list_all}
use Rattle.std.specs.Option.{option_map_or}
use Rattle.std.specs.Str.{bytes_eq, str_eq_ignore_ascii_case}
use Rattle.arz_json.specs.declared.Json.{Json}
use Rattle.arz_world.specs.declared.Header.{Header}
use Rattle.arz_world.specs.declared.Reply.{Reply}
use Rattle.arz_description.specs.Parts.{act_of}
use Rattle.arz_description.specs.declared.parts.Act.{Act}
use Rattle.arz_description.specs.declared.parts.Act.TheVariants.{End, GoStep, GoFlow, Retry}
use Rattle.arz_scope.specs.Scopes.{Attempt, Nothing, Exchange, Inner}
use Rattle.arz_relation.specs.declared.retries.Count.{Count}
use Rattle.arz_relation.specs.Documents.{action_name}

-- ---- how often each retry was made since its step was entered, by the action's name

abbrev pub made_of : (name : List ℕ) → List Count → ℕ
made_of name counts = option_map_or (λ c. c.made) (find (λ c. bytes_eq c.name name) counts) 0

-- it was made once more
abbrev pub once_more : (name : List ℕ) → List Count → List Count
once_more name counts = filter (λ c. not (bytes_eq c.name name)) counts ++ record { name = name; made = made_of name counts + 1 } ∷ []

-- whether an action is a retry that was made as often as it may be
abbrev pub is_used_up_by : Act → (made : ℕ) → Bool
is_used_up_by End made = false
is_used_up_by (GoStep id) made = false
is_used_up_by (GoFlow id) made = false
is_used_up_by (Retry seconds limit first) made = nat_le limit made

abbrev pub is_used_up : List Count → (action : Json) → Bool
is_used_up counts action = is_used_up_by (act_of action) (made_of (action_name action) counts)

-- ---- how many seconds pass before it (RFC 9110, 10.2.3)

-- a day
abbrev pub longest_delay : ℕ
longest_delay = 86400

abbrev pub is_digit : ℕ → Bool
is_digit b = nat_le 48 b && nat_le b 57

-- the number that digits spell, behind one that was read
abbrev pub digits_after : ℕ → List ℕ → ℕ
digits_after n [] = n
digits_after n (d ∷ ds) = digits_after (n * 10 + (d - 48)) ds

-- the seconds that a text of digits alone says, at most a day
abbrev pub seconds_in : List ℕ → Option ℕ
seconds_in [] = None
seconds_in (d ∷ ds) = if list_all is_digit (d ∷ ds) then Some (min longest_delay (digits_after 0 (d ∷ ds))) else None

abbrev pub is_retry_after : Header → Bool
is_retry_after h = str_eq_ignore_ascii_case h.name (codes "retry-after")

-- the seconds that the first Retry-After of a reply says
abbrev pub told_delay : Reply → Option ℕ
told_delay y = option_and_then (λ h. seconds_in h.value) (find is_retry_after y.headers)

-- what the attempt's own reply says goes before what the action says
abbrev pub delay_after : (seconds : ℕ) → Attempt → ℕ
delay_after seconds Nothing = seconds
delay_after seconds (Exchange q y) = unwrap_or (told_delay y) seconds
delay_after seconds (Inner outputs) = seconds
