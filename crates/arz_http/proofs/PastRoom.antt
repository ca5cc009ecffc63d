-- Bytes for which there is no room settle that the section is too large.
use Rattle.std.proofs.Common.{◌≡◌, ℕ, ◌-◌, ◌<◌, ◌≤◌, Bool, List, [], ◌++◌, length, take, refl, sym, ap, length-append, arith}
use Rattle.arz_http.specs.declared.fault.PeerCause.TheVariants.{BodyTooLarge}
use Rattle.arz_http.specs.declared.chunks.Section.{Section}
use Rattle.arz_http.specs.declared.standing.Standing.{Standing}
use Rattle.arz_http.specs.declared.standing.Standing.TheVariants.{Head, Counted, Chunks, ToClose, Whole, Closed, Faulted}
use Rattle.arz_http.specs.Chunked.{section_limit}
use Rattle.arz_http.specs.ChunkSteps.{moved_by}
use Rattle.arz_http.specs.Messages.{Settled}
use Rattle.arz_http.specs.Standings.{IsSome, Stands, StandsBefore}
use Rattle.arz_http.proofs.Extending.{settled_more, stood_more, body_more}
use Rattle.arz_http.proofs.ReplyStanding.{body_length, start_fits, close_long, chunks_long}

pub none_behind : (o : Bool) (bytes rest : List ℕ) (s : Standing) → Stands o bytes s → length rest ≡ 0 → StandsBefore o bytes rest s
none_behind o bytes rest (Head from interim followed) h e = (h, e)
none_behind o bytes rest (Counted until) h e = (h, e)
none_behind o bytes rest (Chunks start s) h e = (h, e)
none_behind o bytes rest (ToClose start) h e = (h, e)
none_behind o bytes rest (Whole until) h e = h
none_behind o bytes rest Closed h e = h
none_behind o bytes rest (Faulted fault) h e = settled_more rest h

pub long_to_close : (o : Bool) (bytes rest : List ℕ) (start : ℕ) → Stands o bytes (ToClose start) → 0 < length rest → 1114112 ≤ length bytes → Settled o (bytes ++ rest) BodyTooLarge start
long_to_close o bytes rest start h some full =
    close_long o (bytes ++ rest) start (body_more rest h.0) (omega (arith, length-append bytes rest, start_fits h.0, some, full))

pub long_chunks : (o : Bool) (bytes rest : List ℕ) (start : ℕ) (s : Section) → Stands o bytes (Chunks start s) → 0 < length rest → 1114112 ≤ length bytes → Settled o (bytes ++ rest) BodyTooLarge start
long_chunks o bytes rest start s h some full =
    let x : IsSome o (bytes ++ rest) start s = stood_more o bytes rest (Chunks start s) tt h in
    let used : section_limit - s.count ≡ 0 = omega (arith, h.2, start_fits h.0.body, full) in
    let none : take (section_limit - s.count) x.more ≡ [] = ap (λ (n : ℕ). take n x.more) used in
    let left : 0 < length x.more = omega (arith, body_length x.body, ap length x.parts, length-append x.read x.more, x.fed.count, h.2, length-append bytes rest, some) in
    chunks_long o (bytes ++ rest) start s s x (sym (ap (moved_by s) none)) x.taking_is (omega (arith, ap length none, left))

pub no_other : (o : Bool) (bytes rest : List ℕ) (s : Standing) → Stands o bytes s → 0 < length rest → 1114112 ≤ length bytes → ((start : ℕ) (t : Section) → s ≡ Chunks start t → ⊥) → ((start : ℕ) → s ≡ ToClose start → ⊥)
    → StandsBefore o bytes rest s
no_other o bytes rest (Head from interim followed) h some full a b = absurd (omega (arith, h.2, full))
no_other o bytes rest (Counted until) h some full a b = absurd (omega (arith, h.2, full, h.0.until_is, h.0.small, start_fits h.0.body))
no_other o bytes rest (Chunks start s) h some full a b = absurd (a start s refl)
no_other o bytes rest (ToClose start) h some full a b = absurd (b start refl)
no_other o bytes rest (Whole until) h some full a b = h
no_other o bytes rest Closed h some full a b = h
no_other o bytes rest (Faulted fault) h some full a b = settled_more rest h
