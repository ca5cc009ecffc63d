-- More fuel changes nothing of a play that is over.
use Rattle.std.proofs.Common.{◌≡◌, ℕ, zero, suc, ◌≤◌, List, [], ◌∷◌, refl, arith}
use Rattle.arz_flow.specs.declared.answers.Answer.{Answer}
use Rattle.arz_world.specs.declared.Request.{Request}
use Rattle.arz_world.specs.declared.Reply.{Reply}
use Rattle.arz_flow.specs.declared.answers.Answer.TheVariants.{Reply as Replied, Served}
use Rattle.arz_scope.specs.Scopes.{with_completion}
use Rattle.arz_relation.specs.Play.{Result, Seen, State, seen, Play, Spent, Lost, Out, Ends, Gives, Script, Give, Stops, Sends, Waits, Plays, Records, then_play, take_reply, take_served, turn, follow, play}

-- the first has run out of fuel, or they are the same
abbrev pub Below : Play → Play → Type 0
Below Spent q = Unit {0}
Below Lost q = q ≡ Lost
Below (Out a s) q = q ≡ Out a s
Below (Ends c s) q = q ≡ Ends c s
Below (Gives r s) q = q ≡ Gives r s

pub then_below : (p q : Play) (f g : Result → State → Play) → Below p q → ((r : Result) (s : State) → Below (f r s) (g r s)) → Below (then_play p f) (then_play q g)
then_below Spent q f g b h = tt
then_below Lost q f g b h = rw b refl
then_below (Out a s) q f g b h = rw b refl
then_below (Ends c s) q f g b h = rw b refl
then_below (Gives r s) q f g b h = rw b (h r s)

reply_below : (q : Request) (left : List Answer) (s : State) (f g : Reply → State → Play) → ((y : Reply) (t : State) → Below (f y t) (g y t)) → Below (take_reply q left s f) (take_reply q left s g)
reply_below q [] s f g h = refl
reply_below q (Replied y ∷ left) s f g h = h y _
reply_below q (Served ∷ left) s f g h = refl

served_below : (n : ℕ) (left : List Answer) (s : State) (f g : State → Play) → ((t : State) → Below (f t) (g t)) → Below (take_served n left s f) (take_served n left s g)
served_below n [] s f g h = refl
served_below n (Replied y ∷ left) s f g h = refl
served_below n (Served ∷ left) s f g h = h _

module _ {Goal : Type 0} where
  pub follow_below : (f g : Goal → State → Play) → ((x : Goal) (s : State) → Below (f x s) (g x s)) → (c : Script Goal) (s : State) → Below (follow f c s) (follow g c s)
  follow_below f g h (Give r) s = refl
  follow_below f g h (Stops c) s = refl
  follow_below f g h (Sends q k) s = reply_below q s.left s _ _ (λ y t. follow_below f g h (k y (seen t)) t)
  follow_below f g h (Waits n k) s = served_below n s.left s _ _ (λ t. follow_below f g h (k (seen t)) t)
  follow_below f g h (Plays x k) s = then_below (f x s) (g x s) _ _ (h x s) (λ r t. follow_below f g h (k r (seen t)) t)
  follow_below f g h (Records c k) s = follow_below f g h k (record s { done = with_completion c s.done })

  pub play_below : (cases : Goal → Seen → Script Goal) (n m : ℕ) (x : Goal) (s : State) → n ≤ m → Below (play cases n x s) (play cases m x s)
  play_below cases zero m x s le = tt
  play_below cases (suc n) zero x s le = absurd (omega arith)
  play_below cases (suc n) (suc m) x s le =
      follow_below (play cases n) (play cases m) (λ y t. play_below cases n m y t (omega arith)) (cases x (seen s)) (turn s)

pub below_refl : (p : Play) → Below p p
below_refl Spent = tt
below_refl Lost = refl
below_refl (Out a s) = refl
below_refl (Ends c s) = refl
below_refl (Gives r s) = refl
