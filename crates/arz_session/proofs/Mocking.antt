-- The lines of a run over given replies.
use Rattle.std.proofs.Common.{drop-cons, add-one, ◌≡◌, ℕ, ◌+◌, ◌<◌, ◌≤◌, List, [], ◌∷◌, ◌++◌, length, take, drop, get_or, Option, Some, true, false, refl, sym, ap, ◌∙◌, subst, arith, length-append}
use Rattle.std.specs.Prelude.{unwrap_or, Bool}
use Rattle.std.proofs.lemmas.List.{length-map, map-append, take_more, take-append-drop, drop_all}
use Rattle.std.proofs.lemmas.Option.{slice_get_within}
use Rattle.arz_world.specs.declared.Request.{Request}
use Rattle.arz_world.specs.declared.Reply.{Reply}
use Rattle.arz_flow.specs.declared.answers.Ask.{Ask}
use Rattle.arz_flow.specs.declared.answers.Ask.TheVariants.{Send}
use Rattle.arz_flow.specs.declared.answers.Answer.{Answer}
use Rattle.arz_flow.specs.declared.answers.Answer.TheVariants.{Reply as Replied}
use Rattle.arz_flow.specs.declared.answers.End.{End}
use Rattle.arz_flow.specs.declared.answers.End.TheVariants.{Out}
use Rattle.arz_flow.specs.declared.bundle.Bundle.{Bundle}
use Rattle.arz_flow.specs.Valid.{IsValid, steps_limit}
use Rattle.arz_flow.specs.Lines.{ask_text}
use Rattle.arz_flow.specs.Documents.{steps_of}
use Rattle.arz_flow.specs.Executions.{asks, end, IsTold}
use Rattle.arz_flow.specs.Verdicts.{Patterned, asks_patterns}
use Rattle.arz_flow.proofs.Executions.{one_more, no_asks, told_before}
use Rattle.arz_rx.specs.Patterns.{PatternsView, Rose}
use Rattle.arz_machine.specs.Plain.{has_plain_outputs}
use Rattle.arz_session.specs.Plain.{is_plain}
use Rattle.arz_session.specs.declared.session.Line.{Line}
use Rattle.arz_machine.specs.At.{Standing, At}
use Rattle.arz_machine.specs.Rests.{lacks_answer}
use Rattle.arz_machine.specs.States.{Sends}
use Rattle.arz_session.specs.Mock.{line_of, lines_from, lines_of, answers, HasEnded, IsCut, Comes, OnlyWhereRose}
use Rattle.arz_session.specs.Played.{IsPlayed, IsStopped, Plays, outcome_by}
use Rattle.arz_session.specs.declared.session.How.TheVariants.{Mock}
use Rattle.arz_machine.proofs.MachineAt.{at_fits, lacks_reply, is_waiting}

answers_more : (used : List Reply) (y : Reply) → answers (used ++ y ∷ []) ≡ answers used ++ Replied y ∷ []
answers_more [] y = refl
answers_more (x ∷ used) y = ap (λ l. Replied x ∷ l) (answers_more used y)

lines_more : (n : ℕ) (qs : List Ask) (ys : List Reply) (q : Ask) (y : Reply) → length qs ≡ length ys → lines_from n (qs ++ q ∷ []) (ys ++ y ∷ []) ≡ lines_from n qs ys ++ line_of (n + length qs) q y ∷ []
lines_more n [] [] q y e = ap (λ k. line_of k q y ∷ []) (omega arith)
lines_more n [] (x ∷ ys) q y e = absurd (omega (arith, e))
lines_more n (p ∷ qs) [] q y e = absurd (omega (arith, e))
lines_more n (p ∷ qs) (x ∷ ys) q y e =
    ap (λ l. line_of n p x ∷ l) (lines_more (n + 1) qs ys q y (omega (arith, e)))
    ∙ ap (λ k. line_of n p x ∷ (lines_from (n + 1) qs ys ++ line_of k q y ∷ [])) (omega arith)

-- what is told over more replies was told over fewer
pub told_front : (told : Patterned) (b : Bundle) (used left replies : List Reply) → used ++ left ≡ replies → IsTold told b (answers replies) → IsTold told b (answers used)
told_front told b used left replies front t =
    told_before told b (answers used) (answers left) (subst (IsTold told b) (sym (ap answers front) ∙ map-append Replied used left) t)

pub told_less : (told : Patterned) (b : Bundle) (used : List Reply) (y : Reply) → IsTold told b (answers (used ++ y ∷ [])) → IsTold told b (answers used)
told_less told b used y t = told_front told b used (y ∷ []) (used ++ y ∷ []) refl t

-- one more reply is taken by the ask that was next
pub asks_more : (told : Patterned) (m : Standing) (b : Bundle) (used : List Reply) (q : Request) (y : Reply) → At told m b (answers used) → IsTold told b (answers used) → end told b (answers used) ≡ Some (Out (Send q))
    → asks told b (answers (used ++ y ∷ [])) ≡ asks told b (answers used) ++ Send q ∷ []
asks_more told m b used q y at t e =
    ap (asks told b) (answers_more used y) ∙ (one_more told b (answers used) (Send q) (Replied y) (at_fits told m b (answers used) at t) e refl).1

pub at_more : (told : Patterned) (m : Standing) (b : Bundle) (used : List Reply) (y : Reply) → At told m b (answers used ++ Replied y ∷ []) → At told m b (answers (used ++ y ∷ []))
at_more told m b used y at = subst (At told m b) (sym (answers_more used y)) at

pub lines_next : (qs rs : List Ask) (ys : List Reply) (q : Ask) (y : Reply) (n : ℕ) (old new : List Line) (line : Line) → length qs ≡ length ys → n ≡ length ys → rs ≡ qs ++ q ∷ [] → old ≡ lines_of qs ys → line ≡ line_of (n + 1) q y → new ≡ old ++ line ∷ [] → new ≡ lines_of rs (ys ++ y ∷ [])
lines_next qs rs ys q y n old new line same count asked so_far here pushed =
    pushed
    ∙ ap (λ l. l ++ line ∷ []) so_far
    ∙ ap (λ z. lines_of qs ys ++ z ∷ []) (here ∙ ap (λ k. line_of k q y) (omega (arith, same, count)))
    ∙ sym (lines_more 1 qs ys q y same)
    ∙ ap (λ l. lines_of l (ys ++ y ∷ [])) (sym asked)

abbrev pub line_with : ℕ → List ℕ → Reply → Line
line_with n told y = record { n = n; ask = told; status = Some y.status; how = Mock }

pub line_here : (n : ℕ) (told : List ℕ) (q : Request) (y : Reply) → told ≡ ask_text (Send q) → line_with n told y ≡ line_of n (Send q) y
line_here n told q y e = ap (λ t. line_with n t y) e

pub lengths_more : (qs : List Ask) (ys : List Reply) (q : Ask) (y : Reply) → length qs ≡ length ys → length (qs ++ q ∷ []) ≡ length (ys ++ y ∷ [])
lengths_more qs ys q y e = omega (arith, e, length-append qs (q ∷ []), length-append ys (y ∷ []))

pub same_end : (e f : End) (o : Option End) → o ≡ Some e → o ≡ Some f → e ≡ f
same_end e f o p q = ap (λ x. unwrap_or x e) (sym p ∙ q)

-- an end that lacks no answer isn't Out
pub lacks_none : (e : End) (q : Ask) → lacks_answer e ≡ false → e ≡ Out q → ⊥
lacks_none e q settled is = true_isnt_false (ap lacks_answer (sym is) ∙ settled)
  where
    true_isnt_false : true ≡ false → ⊥
    true_isnt_false x = absurd cc

-- ---- the replies in order

-- a machine that was told these replies, each with its line
pub record HasTold (told : Patterned) (b : Bundle) (m : Standing) (used : List Reply) (lines : List Line) : Type 0 where
  pub at : At told m b (answers used)
  pub count : length lines ≡ length used
  pub lines_told : IsTold told b (answers used) → lines ≡ lines_of (asks told b (answers used)) used
  pub asked : IsTold told b (answers used) → length (asks told b (answers used)) ≡ length used

pub told_nothing : (told : Patterned) (b : Bundle) (m : Standing) (lines : List Line) → At told m b [] → lines ≡ [] → HasTold told b m [] lines
told_nothing told b m lines at none = record {
  at = at;
  count = ap length none;
  lines_told = λ _. none ∙ ap (λ l. lines_of l []) (sym (no_asks told b));
  asked = λ _. ap length (no_asks told b);
}

module _ (told : Patterned) (b : Bundle) (m : Standing) (used : List Reply) (lines : List Line) (i : HasTold told b m used lines)
    (q : Request) (y : Reply) (n : ℕ) (text : List ℕ) (number : n ≡ m.step + 1) (lacks : IsTold told b (answers used) → end told b (answers used) ≡ Some (Out (Send q))) (is : text ≡ ask_text (Send q))
    (lines' : List Line) (pushed : lines' ≡ lines ++ line_with n text y ∷ []) where
  count_more : length lines' ≡ length used + 1
  count_more = ap length pushed ∙ omega (arith, length-append lines (line_with n text y ∷ []), i.count)

  lines_more_told : (qs : List Ask) → IsTold told b (answers used) → qs ≡ asks told b (answers used) ++ Send q ∷ [] → lines' ≡ lines_of qs (used ++ y ∷ [])
  lines_more_told qs t asked =
      let count : length used ≡ m.step = omega (arith, i.at.count, length-map used Replied) in
      lines_next (asks told b (answers used)) qs used (Send q) y (length used) lines lines' (line_with n text y) (i.asked t) refl asked (i.lines_told t)
      (line_here n text q y is ∙ ap (λ k. line_of k (Send q) y) (omega (arith, number, count))) pushed

  -- one more reply was told
  pub told_more : (m' : Standing) → At told m' b (answers used ++ Replied y ∷ []) → HasTold told b m' (used ++ y ∷ []) lines'
  told_more m' taken =
      let asked = λ (t : IsTold told b (answers (used ++ y ∷ []))). let u = told_less told b used y t in asks_more told m b used q y i.at u (lacks u) in
      record {
        at = at_more told m' b used y taken;
        count = count_more ∙ omega (arith, length-append used (y ∷ []));
        lines_told = λ t. lines_more_told _ (told_less told b used y t) (asked t);
        asked = λ t. ap length (asked t) ∙ lengths_more (asks told b (answers used)) used (Send q) y (i.asked (told_less told b used y t));
      }

  -- for a criterion of the next ask a pattern was too big
  pub stopped_at : (m' : Standing) (left replies : List Reply) → m.rest ≡ Sends q → m' ≡ m → used ++ y ∷ left ≡ replies → IsStopped told b replies m' lines'
  stopped_at m' left replies waits same front = record {
    used = used;
    reply = y;
    left = left;
    front = front;
    at = subst (λ x. At told x b (answers used)) (sym same) i.at;
    count = count_more;
    request = q;
    waits = ap (λ x. x.rest) same ∙ waits;
    lines_told = λ t. lines_more_told _ t refl;
  }

-- ---- the replies by their numbers

take_more_at : (xs : List Reply) (i : ℕ) (x : Reply) → i < length xs → x ≡ get_or xs i x → take (i + 1) xs ≡ take i xs ++ x ∷ []
take_more_at xs i x lt is = take_more xs i x lt ∙ ap (λ y. take i xs ++ y ∷ []) (sym is)

front_at : (xs : List Reply) (i : ℕ) (x : Reply) → i < length xs → x ≡ get_or xs i x → take i xs ++ x ∷ drop (i + 1) xs ≡ xs
front_at xs i x lt is =
    ap (λ y. take i xs ++ y ∷ drop (i + 1) xs) is
    ∙ ap (λ l. take i xs ++ l) (sym (rw add-one (drop-cons xs i x lt)))
    ∙ take-append-drop i xs

module _ (told : Patterned) (b : Bundle) (m : Standing) (replies : List Reply) (k : ℕ) (lines : List Line) (i : HasTold told b m (take k replies) lines) where
  abbrev used : List Reply
  used = take k replies

  -- the execution has ended
  pub played_over : (e : End) → (IsTold told b (answers (take k replies)) → (end told b (answers (take k replies)) ≡ Some e) × (lacks_answer e ≡ false)) → IsPlayed told b replies m lines
  played_over e over = record {
    used = used;
    left = drop k replies;
    front = take-append-drop k replies;
    at = i.at;
    count = i.count;
    all = λ t q is. let h = over t in absurd (lacks_none e q h.1 (same_end e (Out q) (end told b (answers used)) h.0 is));
    lines_told = i.lines_told;
  }

  -- no reply is left
  pub played_out : length replies ≤ k → IsPlayed told b replies m lines
  played_out le = record {
    used = used;
    left = drop k replies;
    front = take-append-drop k replies;
    at = i.at;
    count = i.count;
    all = λ t q is. drop_all k replies le;
    lines_told = i.lines_told;
  }

  module _ (y : Reply) (lt : k < length replies) (here : y ≡ get_or replies k y) (q : Request) (n : ℕ) (text : List ℕ)
      (number : n ≡ m.step + 1) (lacks : IsTold told b (answers (take k replies)) → end told b (answers (take k replies)) ≡ Some (Out (Send q))) (is : text ≡ ask_text (Send q))
      (lines' : List Line) (pushed : lines' ≡ lines ++ line_with n text y ∷ []) where
    pub told_next : (m' : Standing) → At told m' b (answers (take k replies) ++ Replied y ∷ []) → HasTold told b m' (take (k + 1) replies) lines'
    told_next m' taken = subst (λ l. HasTold told b m' l lines') (sym (take_more_at replies k y lt here)) (told_more told b m used lines i q y n text number lacks is lines' pushed m' taken)

    pub stopped_next : (m' : Standing) → m.rest ≡ Sends q → m' ≡ m → IsStopped told b replies m' lines'
    stopped_next m' waits same = stopped_at told b m used lines i q y n text number lacks is lines' pushed m' (drop (k + 1) replies) replies waits same (front_at replies k y lt here)

-- ---- what a run came to

module _ (told : Patterned) (b : Bundle) (replies : List Reply) (m : Standing) (lines : List Line) where
  pub has_ended : IsPlayed told b replies m lines → (e : End) → ((r : List Answer) → At told m b r → IsTold told b r → end told b r ≡ Some e)
      → IsTold told b (answers replies) → HasEnded told b replies lines e
  has_ended played e ends t =
      let u = told_front told b played.used played.left replies played.front t in
      let over = ends (answers played.used) played.at u in
      record {
        used = played.used;
        left = played.left;
        front = played.front;
        fitting = at_fits told m b (answers played.used) played.at u;
        end = over;
        all = λ q is. played.all u q (over ∙ ap Some is);
        lines = played.lines_told u;
      }

  pub is_cut : IsStopped told b replies m lines → IsTold told b (answers replies) → IsCut told b replies lines
  is_cut s t =
      let u = told_front told b s.used (s.reply ∷ s.left) replies s.front t in
      record {
        used = s.used;
        reply = s.reply;
        left = s.left;
        front = s.front;
        fitting = at_fits told m b (answers s.used) s.at u;
        ask = Send s.request;
        next = lacks_reply told m b (answers s.used) s.at s.request s.waits u;
        lines = s.lines_told u;
      }

  -- no more lines than steps
  pub few_played : IsValid b → IsPlayed told b replies m lines → length lines ≤ steps_limit
  few_played valid p = omega (arith, p.count, length-map p.used Replied, p.at.count, p.at.within, valid.few)

  pub few_stopped : IsValid b → IsStopped told b replies m lines → length lines ≤ steps_limit
  few_stopped valid s =
      let waiting = is_waiting told m b (answers s.used) s.at s.request s.waits in
      let lt : m.step < length (steps_of b b.workflow) = slice_get_within (steps_of b b.workflow) m.step waiting.step waiting.there in
      omega (arith, s.count, length-map s.used Replied, s.at.count, lt, valid.few)

-- ---- by whether a pattern was too big

module _ (told : Patterned) (b : Bundle) (replies read : List Reply) (m : Standing) (kept lines : List Line) (same : read ≡ replies) (is : kept ≡ lines) where
  plays_as : (pattern : Bool) → Plays pattern told b read m lines → Plays pattern told b replies m kept
  plays_as pattern plays = subst (Plays pattern told b replies m) (sym is) (subst (λ rs. Plays pattern told b rs m lines) same plays)

  pub few_by : IsValid b → (pattern : Bool) → Plays pattern told b read m lines → length kept ≤ steps_limit
  few_by valid false p = few_played told b replies m kept valid (plays_as false p)
  few_by valid true s = few_stopped told b replies m kept valid (plays_as true s)

  pub came_by : (pattern : Bool) → Plays pattern told b read m lines → (e : End) → ((r : List Answer) → At told m b r → IsTold told b r → end told b r ≡ Some e)
      → IsTold told b (answers replies) → Comes told b replies kept (outcome_by pattern e)
  came_by false p e ends = has_ended told b replies m kept (plays_as false p) e ends
  came_by true s e ends = is_cut told b replies m kept (plays_as true s)

pub plain_by : (pattern : Bool) (e : End) → has_plain_outputs e ≡ true → is_plain (outcome_by pattern e) ≡ true
plain_by false e plain = plain
plain_by true e plain = refl

pub rose_by : (b : Bundle) (old new : PatternsView) (pattern : Bool) (e : End) → (pattern ≡ true → Rose old.too_big new.too_big) → (pattern ≡ true → asks_patterns b ≡ true) → OnlyWhereRose b old new (outcome_by pattern e)
rose_by b old new false e rose asks = tt
rose_by b old new true e rose asks = (rose refl, asks refl)
