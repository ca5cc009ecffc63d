-- Asks are only added, one for each answer that is taken.
use Rattle.std.proofs.Common.{◌≡◌, ℕ, zero, suc, ◌+◌, ◌<◌, List, [], ◌∷◌, ◌++◌, length, refl, sym, ap, ◌∙◌, arith, append_assoc, append-nil, length-append}
use Rattle.arz_flow.specs.declared.answers.Ask.{Ask}
use Rattle.arz_flow.specs.declared.answers.Answer.{Answer}
use Rattle.arz_world.specs.declared.Request.{Request}
use Rattle.arz_world.specs.declared.Reply.{Reply}
use Rattle.arz_flow.specs.declared.answers.Ask.TheVariants.{Send, Wait}
use Rattle.arz_flow.specs.declared.answers.Answer.TheVariants.{Reply as Replied, Served}
use Rattle.arz_scope.specs.Scopes.{with_completion}
use Rattle.arz_relation.specs.Play.{Result, Seen, State, seen, Play, Spent, Lost, Out, Ends, Gives, Script, Give, Stops, Sends, Waits, Plays, Records, then_play, take_reply, take_served, after, turn, follow, play}

-- the state comes from one with these asks and so many answers left: an ask was added for each answer taken
pub record Later (asked : List Ask) (left : ℕ) (t : State) : Type 0 where
  pub added : List Ask
  pub asks : t.asked ≡ asked ++ added
  pub count : length added + length t.left ≡ left

-- a play from asks and so many answers
abbrev pub Grows : List Ask → ℕ → Play → Type 0
Grows asked left Spent = Unit {0}
Grows asked left Lost = 0 < left
Grows asked left (Out q t) = Later asked left t
Grows asked left (Ends c t) = Later asked left t
Grows asked left (Gives r t) = Later asked left t

pub now_later : (t : State) → Later t.asked (length t.left) t
now_later t = record { added = []; asks = sym (append-nil t.asked); count = omega arith }

pub later_later : {asked : List Ask} {left : ℕ} {s t : State} → Later asked left s → Later s.asked (length s.left) t → Later asked left t
later_later {asked} {left} {s} {t} a b = record {
  added = a.added ++ b.added;
  asks = b.asks ∙ ap (λ l. l ++ b.added) a.asks ∙ append_assoc asked a.added b.added;
  count = omega (arith, a.count, b.count, length-append a.added b.added);
}

pub later_grows : {asked : List Ask} {left : ℕ} {s : State} (p : Play) → Later asked left s → Grows s.asked (length s.left) p → Grows asked left p
later_grows Spent a g = tt
later_grows Lost a g = omega (arith, a.count, g)
later_grows (Out q t) a g = later_later a g
later_grows (Ends c t) a g = later_later a g
later_grows (Gives r t) a g = later_later a g

pub then_grows : (asked : List Ask) (left : ℕ) (p : Play) (f : Result → State → Play) → Grows asked left p → ((r : Result) (t : State) → Grows t.asked (length t.left) (f r t)) → Grows asked left (then_play p f)
then_grows asked left Spent f g h = tt
then_grows asked left Lost f g h = g
then_grows asked left (Out q s) f g h = g
then_grows asked left (Ends c s) f g h = g
then_grows asked left (Gives r s) f g h = later_grows (f r s) g (h r s)

pub after_later : (q : Ask) (x : Answer) (left : List Answer) (s : State) → Later s.asked (length (x ∷ left)) (after q left s)
after_later q x left s = record { added = q ∷ []; asks = refl; count = omega arith }

reply_grows : (q : Request) (left : List Answer) (s : State) (f : Reply → State → Play) → ((y : Reply) (t : State) → Grows t.asked (length t.left) (f y t)) → s.left ≡ left → Grows s.asked (length left) (take_reply q left s f)
reply_grows q [] s f h e = let n : length s.left ≡ 0 = ap length e in record { added = []; asks = sym (append-nil s.asked); count = omega arith }
reply_grows q (Replied y ∷ left) s f h e = later_grows (f y (after (Send q) left s)) (after_later (Send q) (Replied y) left s) (h y (after (Send q) left s))
reply_grows q (Served ∷ left) s f h e = omega arith

served_grows : (n : ℕ) (left : List Answer) (s : State) (f : State → Play) → ((t : State) → Grows t.asked (length t.left) (f t)) → s.left ≡ left → Grows s.asked (length left) (take_served n left s f)
served_grows q [] s f h e = let n : length s.left ≡ 0 = ap length e in record { added = []; asks = sym (append-nil s.asked); count = omega arith }
served_grows q (Served ∷ left) s f h e = later_grows (f (after (Wait q) left s)) (after_later (Wait q) Served left s) (h (after (Wait q) left s))
served_grows q (Replied y ∷ left) s f h e = omega arith

module _ {Goal : Type 0} where
  pub follow_grows : (f : Goal → State → Play) → ((x : Goal) (s : State) → Grows s.asked (length s.left) (f x s)) → (c : Script Goal) (s : State) → Grows s.asked (length s.left) (follow f c s)
  follow_grows f h (Give r) s = now_later s
  follow_grows f h (Stops c) s = now_later s
  follow_grows f h (Sends q k) s = reply_grows q s.left s _ (λ y t. follow_grows f h (k y (seen t)) t) refl
  follow_grows f h (Waits n k) s = served_grows n s.left s _ (λ t. follow_grows f h (k (seen t)) t) refl
  follow_grows f h (Plays x k) s = then_grows s.asked (length s.left) (f x s) _ (h x s) (λ r t. follow_grows f h (k r (seen t)) t)
  follow_grows f h (Records c k) s = follow_grows f h k (record s { done = with_completion c s.done })

  pub play_grows : (cases : Goal → Seen → Script Goal) (n : ℕ) (x : Goal) (s : State) → Grows s.asked (length s.left) (play cases n x s)
  play_grows cases zero x s = tt
  play_grows cases (suc n) x s = follow_grows (play cases n) (play_grows cases n) (cases x (seen s)) (turn s)
