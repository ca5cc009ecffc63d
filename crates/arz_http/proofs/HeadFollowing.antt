-- How far a head was followed, and what it says of the reply.
use Rattle.std.proofs.Common.{◌≡◌, ℕ, ◌-◌, ◌≤◌, Bool, List, [], length, drop, refl, sym, ap, ◌∙◌, subst, append-nil, length-append, length-drop, drop-drop, Some, arith}
use Rattle.std.proofs.lemmas.List.{drop_at, take_all}
use Rattle.httparse.specs.Grammar.{HasNoResponse, MayBecomeResponse}
use Rattle.arz_http.specs.declared.head_lines.Followed.{Followed}
use Rattle.arz_http.specs.declared.head_lines.HeadAt.{HeadAt}
use Rattle.arz_http.specs.declared.head_lines.HeadAt.TheVariants.{Start}
use Rattle.arz_http.specs.declared.standing.Standing.TheVariants.{Head}
use Rattle.arz_http.specs.HeadSteps.{followed}
use Rattle.arz_http.specs.Heads.{IsAfter, IsFollowed, IsOpenHead}
use Rattle.arz_http.specs.Messages.{head_limit, head_window}
use Rattle.arz_http.specs.Standings.{Stands}
use Rattle.arz_http.proofs.HeadReading.{open_at, not_closed_at}
use Rattle.arz_http.proofs.HeadRests.{followed_more, none_ended, may_end}

module _ (bytes : List ℕ) (from : ℕ) (f : Followed) (within : from ≤ length bytes) (h : IsFollowed bytes from f) where
  pub upto_within : f.upto ≤ length bytes
  upto_within = omega (arith, ap length h.parts, length-append h.read h.more, length-drop from bytes, h.upto_is)

  rest_is : drop f.upto bytes ≡ h.more
  rest_is =
      ap (λ (n : ℕ). drop n bytes) h.upto_is ∙ sym (drop-drop (length h.read) from bytes) ∙ ap (drop (length h.read)) h.parts
      ∙ drop_at h.read h.more (length h.read) refl

  run_on : (at : HeadAt) → followed f.at (drop f.upto bytes) ≡ Some at → followed Start (drop from bytes) ≡ Some at
  run_on at e = ap (followed Start) h.parts ∙ followed_more h.read h.more Start f.at h.run ∙ ap (followed f.at) (sym rest_is) ∙ e

  pub open_head : (at : HeadAt) → followed f.at (drop f.upto bytes) ≡ Some at → length bytes ≤ head_limit → IsOpenHead bytes from (record { upto = length bytes; at = at })
  open_head at e short = record {
    followed_is = record { read = drop from bytes; more = []; parts = sym (append-nil (drop from bytes)); upto_is = omega (arith, length-drop from bytes, within); run = run_on at e };
    short = short;
    none = none_ended (drop from bytes) at (run_on at e);
    may = may_end (drop from bytes) at (run_on at e);
  }

pub followed_all : (bytes : List ℕ) (from : ℕ) (at : HeadAt) → from ≤ length bytes → followed Start (drop from bytes) ≡ Some at → IsFollowed bytes from (record { upto = length bytes; at = at })
followed_all bytes from at within e = record { read = drop from bytes; more = []; parts = sym (append-nil (drop from bytes)); upto_is = omega (arith, length-drop from bytes, within); run = e }

pub followed_none : (bytes : List ℕ) (from : ℕ) → IsFollowed bytes from (record { upto = from; at = Start })
followed_none bytes from = record { read = []; more = drop from bytes; parts = refl; upto_is = omega arith; run = refl }

pub open_stands : (o : Bool) (bytes : List ℕ) (from interim : ℕ) (f : Followed) → IsAfter bytes from interim → IsOpenHead bytes from f → Stands o bytes (Head from interim f)
open_stands o bytes from interim f a h =
    let all : head_window from (drop from bytes) ≡ drop from bytes = take_all (head_limit - from) (drop from bytes) (omega (arith, length-drop from bytes, h.short)) in
    let none : HasNoResponse (head_window from (drop from bytes)) = subst HasNoResponse (sym all) h.none in
    let may : MayBecomeResponse (head_window from (drop from bytes)) = subst MayBecomeResponse (sym all) h.may in
    (a, open_at bytes from interim a none may h.short o, h.short, not_closed_at bytes from interim a none may h.short o, h.followed_is)
