-- How much fuel a play takes.
use Rattle.std.proofs.Common.{◌≡◌, ℕ, zero, suc, ◌+◌, ◌-◌, ◌*◌, ◌<◌, ◌≤◌, List, [], ◌∷◌, length, refl, arith}
use Rattle.arz_flow.specs.declared.answers.Answer.{Answer}
use Rattle.arz_world.specs.declared.Request.{Request}
use Rattle.arz_world.specs.declared.Reply.{Reply}
use Rattle.arz_flow.specs.declared.answers.Ask.TheVariants.{Send, Wait}
use Rattle.arz_flow.specs.declared.answers.Answer.TheVariants.{Reply as Replied, Served}
use Rattle.arz_scope.specs.Scopes.{with_completion}
use Rattle.arz_relation.specs.Play.{Result, Seen, State, seen, Play, Spent, Lost, Out, Ends, Gives, Script, Give, Stops, Sends, Waits, Plays, Records, then_play, take_reply, take_served, after, turn, follow, play}

-- K: the fuel between two answers, and the most turns before an ask. outs: the turns since the last ask where a case gives its result. local: what a case needs up to the next answer. owes: how many answers it takes at least
module _ {Goal : Type 0} (K : ℕ) (local owes : Goal → ℕ) (outs : Goal → ℕ → ℕ) (Fine : Goal → Type 0) where
  -- with so many answers left, so many still owed, so many turns since the last ask and at most so many at the end, n is enough for the script's cases
  abbrev pub Bounded : (n : ℕ) → Script Goal → (a owed t up : ℕ) → Type 0
  Bounded n (Give r) a owed t up = (owed ≡ 0) × (t ≤ up)
  Bounded n (Stops c) a owed t up = t ≤ K
  Bounded n (Sends q k) a owed t up = (t ≤ K) × ((y : Reply) (v : Seen) (a' : ℕ) → a' < a → Bounded n (k y v) a' (owed - 1) 0 up)
  Bounded n (Waits m k) a owed t up = (t ≤ K) × ((v : Seen) (a' : ℕ) → a' < a → Bounded n (k v) a' (owed - 1) 0 up)
  Bounded n (Plays g k) a owed t up = Fine g × (a * K + local g ≤ n) × (t + local g ≤ K) × ((r : Result) (v : Seen) (a' t' : ℕ) → a' + owes g ≤ a → t' ≤ outs g t → Bounded n (k r v) a' (owed - owes g) t' up)
  Bounded n (Records c k) a owed t up = Bounded n k a owed t up

  -- the play is over, in time; where it gives, it took at least so many of the answers
  abbrev pub Good : (owed left up : ℕ) → Play → Type 0
  Good owed left up Spent = ⊥
  Good owed left up Lost = Unit {0}
  Good owed left up (Out q s) = (s.most ≤ K) × (s.turns ≤ K)
  Good owed left up (Ends c s) = (s.most ≤ K) × (s.turns ≤ K)
  Good owed left up (Gives r t) = (length t.left + owed ≤ left) × (t.most ≤ K) × (t.turns ≤ up)

  more_good : (o l o' l' up : ℕ) (p : Play) → ((t : ℕ) → t + o ≤ l → t + o' ≤ l') → Good o l up p → Good o' l' up p
  more_good o l o' l' up Spent h g = g
  more_good o l o' l' up Lost h g = tt
  more_good o l o' l' up (Out q s) h g = g
  more_good o l o' l' up (Ends c s) h g = g
  more_good o l o' l' up (Gives r t) h g = (h (length t.left) g.0, g.1, g.2)

  then_good : (owed left up o up' : ℕ) (p : Play) (f : Result → State → Play) → Good o left up' p → ((r : Result) (t : State) → length t.left + o ≤ left → t.most ≤ K → t.turns ≤ up' → Good (owed - o) (length t.left) up (f r t)) → Good owed left up (then_play p f)
  then_good owed left up o up' Spent f g h = g
  then_good owed left up o up' Lost f g h = tt
  then_good owed left up o up' (Out q s) f g h = g
  then_good owed left up o up' (Ends c s) f g h = g
  then_good owed left up o up' (Gives r t) f g h = more_good (owed - o) (length t.left) owed left up (f r t) (λ x e. omega (arith, e, g.0)) (h r t g.0 g.1 g.2)

  reply_good : (owed up : ℕ) (q : Request) (left : List Answer) (s : State) (f : Reply → State → Play) → s.most ≤ K → s.turns ≤ K → ((y : Reply) (t : State) → length t.left < length left → t.most ≤ K → t.turns ≡ 0 → Good (owed - 1) (length t.left) up (f y t)) → Good owed (length left) up (take_reply q left s f)
  reply_good owed up q [] s f m t h = (m, t)
  reply_good owed up q (Served ∷ left) s f m t h = tt
  reply_good owed up q (Replied y ∷ left) s f m t h =
      more_good (owed - 1) (length left) owed (suc (length left)) up (f y (after (Send q) left s)) (λ x e. omega (arith, e)) (h y (after (Send q) left s) (omega arith) (omega (arith, m, t)) refl)

  served_good : (owed up n : ℕ) (left : List Answer) (s : State) (f : State → Play) → s.most ≤ K → s.turns ≤ K → ((t : State) → length t.left < length left → t.most ≤ K → t.turns ≡ 0 → Good (owed - 1) (length t.left) up (f t)) → Good owed (length left) up (take_served n left s f)
  served_good owed up n [] s f m t h = (m, t)
  served_good owed up n (Replied y ∷ left) s f m t h = tt
  served_good owed up n (Served ∷ left) s f m t h =
      more_good (owed - 1) (length left) owed (suc (length left)) up (f (after (Wait n) left s)) (λ x e. omega (arith, e)) (h (after (Wait n) left s) (omega arith) (omega (arith, m, t)) refl)

  follow_good : (n : ℕ) (f : Goal → State → Play) → ((g : Goal) (s : State) → Fine g → length s.left * K + local g ≤ n → s.most ≤ K → s.turns + local g ≤ K → Good (owes g) (length s.left) (outs g s.turns) (f g s)) → (c : Script Goal) (s : State) (owed up : ℕ) → s.most ≤ K → Bounded n c (length s.left) owed s.turns up → Good owed (length s.left) up (follow f c s)
  follow_good n f h (Give r) s owed up m b = (omega (arith, b.0), m, b.1)
  follow_good n f h (Stops c) s owed up m b = (m, b)
  follow_good n f h (Sends q k) s owed up m b = reply_good owed up q s.left s _ m b.0 (λ y t lt m' z. follow_good n f h (k y (seen t)) t (owed - 1) up m' (rw z (b.1 y (seen t) (length t.left) lt)))
  follow_good n f h (Waits w k) s owed up m b = served_good owed up w s.left s _ m b.0 (λ t lt m' z. follow_good n f h (k (seen t)) t (owed - 1) up m' (rw z (b.1 (seen t) (length t.left) lt)))
  follow_good n f h (Plays g k) s owed up m b = then_good owed (length s.left) up (owes g) (outs g s.turns) (f g s) _ (h g s b.0 b.1 m b.2) (λ r t le m' u. follow_good n f h (k r (seen t)) t (owed - owes g) up m' (b.3 r (seen t) (length t.left) t.turns le u))
  follow_good n f h (Records c k) s owed up m b = follow_good n f h k (record s { done = with_completion c s.done }) owed up m b

  -- where each case's script is bounded, the fuel suffices
  pub play_good : (cases : Goal → Seen → Script Goal) → ((g : Goal) (v : Seen) (n a t : ℕ) → Fine g → a * K + local g ≤ suc n → t + local g ≤ K → Bounded n (cases g v) a (owes g) (t + 1) (outs g t)) → ((g : Goal) → 0 < local g) → (n : ℕ) (g : Goal) (s : State) → Fine g → length s.left * K + local g ≤ n → s.most ≤ K → s.turns + local g ≤ K → Good (owes g) (length s.left) (outs g s.turns) (play cases n g s)
  play_good cases h pos zero g s fine le m t = absurd (omega (arith, le, pos g))
  play_good cases h pos (suc n) g s fine le m t = follow_good n (play cases n) (play_good cases h pos n) (cases g (seen s)) (turn s) (owes g) (outs g s.turns) m (h g (seen s) n (length s.left) s.turns fine le t)
