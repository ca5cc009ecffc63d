-- What a play is: what one case says, and how that is followed over given answers.
use Rattle.std.specs.Prelude.{ℕ, max, zero, suc, ◌+◌, Bool, true, false, List, [], ◌∷◌, ◌++◌, filter, length, not}
use Rattle.arz_json.specs.declared.Member.{Member}
use Rattle.arz_world.specs.declared.Request.{Request}
use Rattle.arz_world.specs.declared.Reply.{Reply}
use Rattle.arz_flow.specs.declared.answers.Ask.{Ask}
use Rattle.arz_flow.specs.declared.answers.Ask.TheVariants.{Send, Wait}
use Rattle.arz_flow.specs.declared.answers.Answer.{Answer}
use Rattle.arz_request.specs.declared.cause.Cause.{Cause}
use Rattle.arz_scope.specs.declared.facts.Completion.{Completion}
use Rattle.arz_scope.specs.Scopes.{with_completion}
use Rattle.arz_flow.specs.declared.answers.Spot.{Spot}
use Rattle.arz_flow.specs.declared.answers.Answer.TheVariants.{Reply as Replied, Served}

-- a run that is over, with its outputs
pub data Result : Type 0 where
  Completed : List Member → Result
  Broke : List Member → Result

-- what ends everything, wherever it arises: a step that isn't there, a criterion that needs a pattern of which nothing is told, a cause at a
-- place, a run past those that may be open at once, or a request past those that may be sent
pub data Halt : Type 0 where
  NoStep : Halt
  Untold : Halt
  Stuck : Cause → Spot → Halt
  TooDeep : Spot → Halt
  Budget : (limit : ℕ) → Halt

-- what a case may look at: the asks that were answered, and the completions. The answers to come aren't seen
pub record Seen : Type 0 where
  pub asked : List Ask
  pub done : List Completion

abbrev pub is_send : Ask → Bool
is_send (Send q) = true
is_send (Wait n) = false

-- how many of the asks sent a request
abbrev pub sends_in : List Ask → ℕ
sends_in asks = length (filter is_send asks)

-- how many of them waited
abbrev pub waits_in : List Ask → ℕ
waits_in asks = length (filter (λ a. not (is_send a)) asks)

-- the state of a play
pub record State : Type 0 where
  pub left : List Answer
  pub asked : List Ask
  pub done : List Completion
  -- the turns since the last ask, and the most that stood before an ask so far
  pub turns : ℕ
  pub most : ℕ

abbrev pub seen : State → Seen
seen s = record { asked = s.asked; done = s.done }

-- what a play comes to
pub data Play : Type 0 where
  Spent : Play  -- the fuel didn't suffice
  Lost : Play  -- an answer that doesn't fit its ask
  Out : Ask → State → Play  -- no answer is left for this ask
  Ends : Halt → State → Play  -- everything ended
  Gives : Result → State → Play  -- the run is over

module _ (Goal : Type 0) where
  -- what one case says
  pub data Script : Type 0 where
    -- the result of the run
    Give : Result → Script
    -- the end of everything
    Stops : Halt → Script
    -- an ask, and what follows its answer
    Sends : Request → (Reply → Seen → Script) → Script
    Waits : ℕ → (Seen → Script) → Script
    -- another case, and what follows its result
    Plays : Goal → (Result → Seen → Script) → Script
    -- a completion that is recorded
    Records : Completion → Script → Script

-- goes on where a run is over, and not where everything ended
abbrev pub then_play : Play → (Result → State → Play) → Play
then_play Spent go = Spent
then_play Lost go = Lost
then_play (Out q s) go = Out q s
then_play (Ends c s) go = Ends c s
then_play (Gives r s) go = go r s

-- the state after an answer to this ask
abbrev pub after : Ask → List Answer → State → State
after q left s = record { left = left; asked = s.asked ++ q ∷ []; done = s.done; turns = 0; most = max s.most s.turns }

-- the use of a case
abbrev pub turn : State → State
turn s = record s { turns = s.turns + 1 }

-- a reply is taken, if an answer is left
abbrev pub take_reply : Request → List Answer → State → (Reply → State → Play) → Play
take_reply q [] s go = Out (Send q) s
take_reply q (Replied y ∷ left) s go = go y (after (Send q) left s)
take_reply q (Served ∷ left) s go = Lost

abbrev pub take_served : ℕ → List Answer → State → (State → Play) → Play
take_served n [] s go = Out (Wait n) s
take_served n (Replied y ∷ left) s go = Lost
take_served n (Served ∷ left) s go = go (after (Wait n) left s)

module _ {Goal : Type 0} where
  -- follows a script over the answers; other cases are played by `again`
  abbrev pub follow : (Goal → State → Play) → Script Goal → State → Play
  follow again (Give r) s = Gives r s
  follow again (Stops c) s = Ends c s
  follow again (Sends q k) s = take_reply q s.left s (λ y t. follow again (k y (seen t)) t)
  follow again (Waits n k) s = take_served n s.left s (λ t. follow again (k (seen t)) t)
  follow again (Plays g k) s = then_play (again g s) (λ r t. follow again (k r (seen t)) t)
  follow again (Records c k) s = follow again k (record s { done = with_completion c s.done })

  -- plays a case; each use of a case takes one of the fuel
  abbrev pub play : (Goal → Seen → Script Goal) → ℕ → Goal → State → Play
  play cases zero g s = Spent
  play cases (suc n) g s = follow (play cases n) (cases g (seen s)) (turn s)
