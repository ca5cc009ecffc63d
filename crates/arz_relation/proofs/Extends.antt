-- What more answers change.
use Rattle.std.proofs.Common.{◌≡◌, ℕ, zero, suc, List, [], ◌∷◌, ◌++◌, length, Bool, true, false, refl, ap, append-nil}
use Rattle.arz_flow.specs.declared.answers.Ask.{Ask}
use Rattle.arz_flow.specs.declared.answers.Answer.{Answer}
use Rattle.arz_world.specs.declared.Request.{Request}
use Rattle.arz_world.specs.declared.Reply.{Reply}
use Rattle.arz_flow.specs.declared.answers.Ask.TheVariants.{Send, Wait}
use Rattle.arz_flow.specs.declared.answers.Answer.TheVariants.{Reply as Replied, Served}
use Rattle.arz_scope.specs.Scopes.{with_completion}
use Rattle.arz_relation.specs.Play.{Result, Seen, State, seen, Play, Spent, Lost, Out, Ends, Gives, Script, Give, Stops, Sends, Waits, Plays, Records, then_play, take_reply, take_served, after, turn, follow, play}
use Rattle.arz_relation.specs.Executions.{fits}
use Rattle.arz_relation.proofs.Grows.{Grows, then_grows, follow_grows, play_grows}

-- the state with more answers behind those that are left
abbrev pub more : List Answer → State → State
more xs s = record { left = s.left ++ xs; asked = s.asked; done = s.done; turns = s.turns; most = s.most }

-- goes on from an answer that fits, or is lost
abbrev pub Goes : Bool → List Ask → ℕ → Play → Type 0
Goes true asked n p = Grows asked n p
Goes false asked n p = p ≡ Lost

-- after the answers ran out at q
abbrev pub Continues : Ask → State → List Answer → Play → Type 0
Continues q s [] p = p ≡ Out q s
Continues q s (x ∷ rest) p = Goes (fits q x) (s.asked ++ q ∷ []) (length rest) p

-- the second is the play of the first with more answers
abbrev pub Extends : List Answer → Play → Play → Type 0
Extends xs Spent p = Unit {0}
Extends xs Lost p = p ≡ Lost
Extends xs (Out q s) p = (s.left ≡ []) × Continues q s xs p
Extends xs (Ends c s) p = p ≡ Ends c (more xs s)
Extends xs (Gives r s) p = p ≡ Gives r (more xs s)

then_goes : (ok : Bool) (asked : List Ask) (n : ℕ) (p : Play) (g : Result → State → Play) → Goes ok asked n p → ((r : Result) (t : State) → Grows t.asked (length t.left) (g r t)) → Goes ok asked n (then_play p g)
then_goes true asked n p g h k = then_grows asked n p g h k
then_goes false asked n p g h k = rw h refl

then_continues : (q : Ask) (s : State) (xs : List Answer) (p : Play) (g : Result → State → Play) → Continues q s xs p → ((r : Result) (t : State) → Grows t.asked (length t.left) (g r t)) → Continues q s xs (then_play p g)
then_continues q s [] p g h k = rw h refl
then_continues q s (x ∷ rest) p g h k = then_goes (fits q x) (s.asked ++ q ∷ []) (length rest) p g h k

then_extends : (xs : List Answer) (p p' : Play) (g : Result → State → Play) → Extends xs p p' → ((r : Result) (t : State) → Extends xs (g r t) (g r (more xs t))) → ((r : Result) (t : State) → Grows t.asked (length t.left) (g r t)) → Extends xs (then_play p g) (then_play p' g)
then_extends xs Spent p' g h k l = tt
then_extends xs Lost p' g h k l = rw h refl
then_extends xs (Out q s) p' g h k l = (h.0, then_continues q s xs p' g h.1 l)
then_extends xs (Ends c s) p' g h k l = rw h refl
then_extends xs (Gives r s) p' g h k l = rw h (k r s)

same_state : (s : State) → s.left ≡ [] → more [] s ≡ s
same_state s e = ap (λ l. let t : State = record { left = l; asked = s.asked; done = s.done; turns = s.turns; most = s.most } in t) (append-nil s.left)

reply_extends : (q : Request) (left xs : List Answer) (s : State) (g : Reply → State → Play) → s.left ≡ left → ((y : Reply) (t : State) → Extends xs (g y t) (g y (more xs t))) → ((y : Reply) (t : State) → Grows t.asked (length t.left) (g y t)) → Extends xs (take_reply q left s g) (take_reply q (left ++ xs) (more xs s) g)
reply_extends q [] [] s g e k l = (e, ap (Out (Send q)) (same_state s e))
reply_extends q [] (Replied y ∷ rest) s g e k l = (e, l y (after (Send q) rest s))
reply_extends q [] (Served ∷ rest) s g e k l = (e, refl)
reply_extends q (Replied y ∷ left) xs s g e k l = k y (after (Send q) left s)
reply_extends q (Served ∷ left) xs s g e k l = refl

served_extends : (n : ℕ) (left xs : List Answer) (s : State) (g : State → Play) → s.left ≡ left → ((t : State) → Extends xs (g t) (g (more xs t))) → ((t : State) → Grows t.asked (length t.left) (g t)) → Extends xs (take_served n left s g) (take_served n (left ++ xs) (more xs s) g)
served_extends n [] [] s g e k l = (e, ap (Out (Wait n)) (same_state s e))
served_extends n [] (Served ∷ rest) s g e k l = (e, l (after (Wait n) rest s))
served_extends n [] (Replied y ∷ rest) s g e k l = (e, refl)
served_extends n (Served ∷ left) xs s g e k l = k (after (Wait n) left s)
served_extends n (Replied y ∷ left) xs s g e k l = refl

module _ {Goal : Type 0} where
  follow_extends : (xs : List Answer) (f : Goal → State → Play) → ((x : Goal) (s : State) → Extends xs (f x s) (f x (more xs s))) → ((x : Goal) (s : State) → Grows s.asked (length s.left) (f x s)) → (c : Script Goal) (s : State) → Extends xs (follow f c s) (follow f c (more xs s))
  follow_extends xs f h l (Give r) s = refl
  follow_extends xs f h l (Stops c) s = refl
  follow_extends xs f h l (Sends q k) s = reply_extends q s.left xs s _ refl (λ y t. follow_extends xs f h l (k y (seen t)) t) (λ y t. follow_grows f l (k y (seen t)) t)
  follow_extends xs f h l (Waits n k) s = served_extends n s.left xs s _ refl (λ t. follow_extends xs f h l (k (seen t)) t) (λ t. follow_grows f l (k (seen t)) t)
  follow_extends xs f h l (Plays x k) s = then_extends xs (f x s) (f x (more xs s)) _ (h x s) (λ r t. follow_extends xs f h l (k r (seen t)) t) (λ r t. follow_grows f l (k r (seen t)) t)
  follow_extends xs f h l (Records c k) s = follow_extends xs f h l k (record s { done = with_completion c s.done })

  -- more answers go on from where the play stood
  pub play_extends : (cases : Goal → Seen → Script Goal) (xs : List Answer) (n : ℕ) (x : Goal) (s : State) → Extends xs (play cases n x s) (play cases n x (more xs s))
  play_extends cases xs zero x s = tt
  play_extends cases xs (suc n) x s = follow_extends xs (play cases n) (play_extends cases xs n) (play_grows cases n) (cases x (seen s)) (turn s)
