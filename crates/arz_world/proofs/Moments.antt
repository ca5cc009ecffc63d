-- How a statement on each moment goes on from call to call.
use Rattle.std.proofs.Common.{◌≡◌, inl, inr, ℕ, List, sym, ◌∙◌, subst, arith, IsTrue}
use Rattle.std.proofs.lemmas.Bool.{cases_lt}
use Rattle.arz_world.specs.World.{WorldView, talks, IsImage, Later, Elapses, DiskCall, IsWorld}
use Rattle.arz_world.specs.declared.world.Talk.{Talk}
use Rattle.arz_world.specs.Moments.{EachMoment}

pub later_refl : (w : WorldView) → Later w w
later_refl w = record {
  tells = λ i. w.tells;
  moment = omega arith;
  disk_faults = omega arith;
  link_faults = omega arith;
  images = λ t i le left. left;
  keeps = λ t i le left. left;
  talks = λ t le i. w.talks_at t;
}

pub later_trans : (a b c : WorldView) → Later a b → Later b c → Later a c
later_trans a b c one two = record {
  tells = two.tells ∙ one.tells;
  moment = omega (arith, one.moment, two.moment);
  disk_faults = omega (arith, one.disk_faults, two.disk_faults);
  link_faults = omega (arith, one.link_faults, two.link_faults);
  images = λ t i le left. one.images t i le (two.images t i (omega (arith, le, one.moment)) left);
  keeps = λ t i le left. two.keeps t i (omega (arith, le, one.moment)) (one.keeps t i le left);
  talks = λ t le. two.talks t (omega (arith, le, one.moment)) ∙ one.talks t le;
}

-- at a moment that is now
at_now : (w : WorldView) (P : List ℕ → List Talk → Type 0) → ((i : List ℕ) → IsImage w i → P i (talks w))
    → (t : ℕ) (i : List ℕ) → t ≡ w.moment → w.image_at t i → P i (w.talks_at t)
at_now w P here t i now left =
    let Q : ℕ → Type 0 = λ s. w.image_at s i → P i (w.talks_at s) in
    let at_moment : Q w.moment = λ image. here i image in
    subst Q (sym now) at_moment left

-- no call
pub still : (w : WorldView) (P : List ℕ → List Talk → Type 0) → ((i : List ℕ) → IsImage w i → P i (talks w)) → EachMoment w w P
still w P here = record { each = λ t i from to left. at_now w P here t i (omega (arith, from, to)) left }

-- one call after another, or one run after another
pub joined : (a b c : WorldView) (P : List ℕ → List Talk → Type 0) → Later a b → Later b c → EachMoment a b P → EachMoment b c P → EachMoment a c P
joined a b c P ab bc first second = record {
  each = λ t i from to left. elim (cases_lt b.moment t) [
    | inr early ↦
        let Q : List Talk → Type 0 = λ k. P i k in
        subst Q (sym (bc.talks t early)) (first.each t i from early (bc.images t i early left))
    | inl late ↦ second.each t i (omega (arith, late)) to left
  ];
}

-- one call: what holds before it and after it
pub call : (a b : WorldView) (P : List ℕ → List Talk → Type 0) → Elapses a b → ((i : List ℕ) → IsImage a i → P i (talks a)) → ((i : List ℕ) → IsImage b i → P i (talks b)) → EachMoment a b P
call a b P time before after = record {
  each = λ t i from to left. elim (cases_lt a.moment t) [
    | inr early ↦
        let Q : List Talk → Type 0 = λ k. P i k in
        subst Q (sym (time.later.talks t early)) (at_now a P before t i (omega (arith, from, early)) (time.later.images t i early left))
    | inl late ↦ at_now b P after t i (omega (arith, late, to, time.one)) left
  ];
}

-- a run and then a call
pub goes_on : (a b c : WorldView) (P : List ℕ → List Talk → Type 0) → Later a b → EachMoment a b P → Elapses b c → ((i : List ℕ) → IsImage c i → P i (talks c)) → EachMoment a c P
goes_on a b c P ab so_far time after = joined a b c P ab time.later so_far (call b c P time now after)
  where
    now : (i : List ℕ) → IsImage b i → P i (talks b)
    now i left = so_far.each b.moment i ab.moment (omega arith) left

pub weaker : (a b : WorldView) (P Q : List ℕ → List Talk → Type 0) → ((i : List ℕ) (k : List Talk) → P i k → Q i k) → EachMoment a b P → EachMoment a b Q
weaker a b P Q to each = record { each = λ t i from until left. to i (b.talks_at t) (each.each t i from until left) }

-- where the world doesn't tell, there is no image to speak of
pub if_told : (a b : WorldView) (P : List ℕ → List Talk → Type 0) → Later a b → IsWorld b → (IsTrue a.tells → EachMoment a b P) → EachMoment a b P
if_told a b P time world told = record {
  each = λ t i from until left. (told (subst IsTrue time.tells (world.untold t i left))).each t i from until left;
}

-- no call changes whether the world tells
pub told_before : {a b c : WorldView} → DiskCall a b → DiskCall b c → IsTrue c.tells → IsTrue a.tells
told_before one two told = subst IsTrue one.time.later.tells (subst IsTrue two.time.later.tells told)

pub told_after : {a b c : WorldView} → DiskCall a b → DiskCall b c → IsTrue a.tells → IsTrue c.tells
told_after one two told = subst IsTrue (sym two.time.later.tells) (subst IsTrue (sym one.time.later.tells) told)
