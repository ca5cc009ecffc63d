-- An open reply has no more bytes than heads and a section may have: of more bytes some settle a fault, or begin
-- with a message.
use Rattle.std.proofs.Common.{◌≡◌, ◌⊎◌, inl, inr, ℕ, zero, suc, ◌+◌, ◌-◌, ◌<◌, ◌≤◌, Bool, List, [], ◌∷◌, ◌++◌, length, take, drop, Option, Some, None, refl, sym, ◌∙◌, ap, arith, append-nil, append_assoc, length-append, length-take, take-append-drop}
use Rattle.std.proofs.lemmas.Bool.{cases_lt, cases_eq}
use Rattle.httparse.specs.Grammar.{ResponseHead, print_response, status_code, ReadsResponse, HasNoResponse}
use Rattle.arz_http.specs.declared.fault.PeerCause.TheVariants.{HeadTooLarge}
use Rattle.arz_http.specs.declared.chunks.Place.{Place}
use Rattle.arz_http.specs.declared.chunks.Place.TheVariants.{Size, Data, Break, BreakReturn, Trailer, Whole, Fault}
use Rattle.arz_http.specs.declared.chunks.Section.{Section}
use Rattle.arz_http.specs.Chunked.{section_limit}
use Rattle.arz_http.specs.ChunkSteps.{begin, moved_by}
use Rattle.arz_http.specs.Heads.{IsAfter}
use Rattle.arz_http.specs.Messages.{head_limit, line_limit, interim_limit, print_heads, head_window, EndsHead, IsInterim, IsFinal, Framing, nothing, chunks, to_close, counted, framing, IsOpenReply, no_head, long_heads, many_lines, bad_status, switches, ninth_interim, bad_lines, long_length}
use Rattle.arz_http.specs.SectionStanding.{taking, standing_at}
use Rattle.arz_http.specs.Standings.{IsBody, IsSome, IsMessage}
use Rattle.arz_http.proofs.Beginning.{none_before}
use Rattle.arz_http.proofs.HeadLists.{total, one_head}
use Rattle.arz_http.proofs.ReplyStanding.{body_length, start_fits, nothing_whole, counted_whole, close_long, chunks_whole, chunks_fault, chunks_long}

-- two ways to part the same bytes
parted : (a b c d : List ℕ) → a ++ b ≡ c ++ d → ((m : List ℕ) × (a ≡ c ++ m)) ⊎ ((m : List ℕ) × (c ≡ a ++ m))
parted a b [] d e = inl (a, refl)
parted [] b (y ∷ c) d e = inr (y ∷ c, refl)
parted (x ∷ a) b (y ∷ c) d e =
    let heads : x ≡ y = cc in
    let tails : a ++ b ≡ c ++ d = cc in
    elim (parted a b c d tails) [
      | inl p ↦ inl (p.0, λ i. heads i ∷ p.1 i)
      | inr p ↦ inr (p.0, λ i. sym heads i ∷ p.1 i)
    ]

abbrev some_read : (o : Bool) (bytes : List ℕ) (start : ℕ) → IsBody o bytes start chunks → IsSome o bytes start begin
some_read o bytes start b = record { body = b; read = []; more = b.section; parts = refl; fed = record { same = refl; fits = omega arith; count = refl }; taking_is = refl }

module _ (o : Bool) (bytes : List ℕ) (here : IsOpenReply o bytes) (long : 1114112 < length bytes) where
  no_message : (until : ℕ) → IsMessage o bytes until → ⊥
  no_message until m = here.not_whole (take until bytes) (drop until bytes) m.1 (sym (take-append-drop until bytes)) m.2

  -- ---- behind the final head

  module _ (start : ℕ) (b : IsBody o bytes start chunks) (new : Section) (moves : new ≡ moved_by begin (take section_limit b.section)) where
    on : standing_at new.place ≡ taking → ⊥
    on t = here.no_fault _ _ (chunks_long o bytes start begin new (some_read o bytes start b) moves t (omega (arith, body_length b, start_fits b, long, length-take section_limit b.section)))

    by_place : (p : Place) → new.place ≡ p → ⊥
    by_place (Size at) e = on (ap standing_at e)
    by_place (Data left) e = on (ap standing_at e)
    by_place Break e = on (ap standing_at e)
    by_place BreakReturn e = on (ap standing_at e)
    by_place (Trailer at) e = on (ap standing_at e)
    by_place Whole e = no_message _ (chunks_whole o bytes start begin new (some_read o bytes start b) moves e)
    by_place (Fault cause at) e = here.no_fault _ _ (chunks_fault o bytes start begin new (some_read o bytes start b) moves cause at e)

  by_framing : (start : ℕ) (f : Framing) → IsBody o bytes start f → ⊥
  by_framing start nothing b = no_message start (nothing_whole o bytes start b)
  by_framing start chunks b = by_place start b (moved_by begin (take section_limit b.section)) refl (moved_by begin (take section_limit b.section)).place refl
  by_framing start to_close b = here.no_fault _ _ (close_long o bytes start b (omega (arith, start_fits b, long)))
  by_framing start (counted n) b = elim (cases_lt section_limit n) [
    | inl large ↦ here.no_fault _ _ (long_length b.at n b.head b.section b.ends b.final b.framing_is large)
    | inr small ↦ no_message (start + n) (counted_whole o bytes (start + n) (record { start = start; size = n; body = b; small = small; until_is = refl }) (omega (arith, start_fits b, long, small)))
  ]

  -- ---- at a head

  module _ (at count : ℕ) (a : IsAfter bytes at count) where
    -- no head ends among what heads may have
    cut : HasNoResponse (head_window at a.rest) → ⊥
    cut none = here.no_fault _ _ (no_head at a.rest a.heads (λ more h rest reads. elim (parted (head_window at a.rest) more (print_response h) rest reads.1) [
      | inl p ↦ none h p.0 (reads.0, p.1)
      | inr p ↦ here.no_fault HeadTooLarge at (long_heads at a.rest a.heads none (p.0, h, (reads.0, sym p.1 ∙ sym (append-nil (print_response h)))) (omega (arith, total a.heads, long)))
    ]))

    abbrev ends : (h : ResponseHead) (rest : List ℕ) → ReadsResponse (head_window at a.rest) h rest → EndsHead bytes at h (rest ++ drop (head_limit - at) a.rest)
    ends h rest reads =
        let parts : a.rest ≡ print_response h ++ (rest ++ drop (head_limit - at) a.rest) =
        sym (take-append-drop (head_limit - at) a.rest) ∙ ap (λ (l : List ℕ). l ++ drop (head_limit - at) a.rest) reads.1
        ∙ append_assoc (print_response h) rest (drop (head_limit - at) a.rest) in
        let room : length (print_response h) ≤ head_limit - at =
        omega (arith, ap length reads.1, length-append (print_response h) rest, length-take (head_limit - at) a.rest) in
        record {
          before = record { heads = a.heads.heads; few = a.heads.few; each = a.heads.each; place = a.heads.place; fits = a.heads.fits; spelled = a.heads.spelled ∙ ap (λ (l : List ℕ). print_heads a.heads.heads ++ l) parts };
          is = reads.0;
          fits = omega (arith, room, a.heads.fits);
        }

    module _ (h : ResponseHead) (section : List ℕ) (e : EndsHead bytes at h section) (n : length e.before.heads ≡ count) (next : (place : ℕ) → IsAfter bytes place (count + 1) → ⊥) where
      at_final : IsFinal h → ⊥
      at_final final = by_option (framing o h) refl
        where
          by_option : (f : Option Framing) → framing o h ≡ f → ⊥
          by_option None eq = here.no_fault _ _ (bad_lines at h section e final eq)
          by_option (Some f) eq = by_framing (at + length (print_response h)) f (record { at = at; head = h; section = section; ends = e; final = final; framing_is = eq; start_is = refl })

      at_interim : IsInterim h → ⊥
      at_interim is = elim (cases_lt (length e.before.heads) interim_limit) [
        | inl few ↦
            let m = one_head bytes section at h e is few in
            next (at + length (print_response h)) (record { rest = section; heads = m.0; count_is = m.1 ∙ ap (λ (k : ℕ). k + 1) n })
        | inr all ↦ here.no_fault _ _ (ninth_interim at h section e is (omega (arith, all, e.before.few)))
      ]

      early_head : length h.fields ≤ line_limit → 100 ≤ status_code h → status_code h ≤ 199 → ⊥
      early_head few from to = elim (cases_eq (status_code h) 101) [
        | inl switch ↦ here.no_fault _ _ (switches at h section e few switch)
        | inr on ↦ at_interim (record { head = e.is; lines = few; from = from; to = to; no_switch = on })
      ]

      fit_head : length h.fields ≤ line_limit → 100 ≤ status_code h → status_code h ≤ 599 → ⊥
      fit_head few from to = elim (cases_lt 199 (status_code h)) [
        | inl late ↦ at_final (record { head = e.is; lines = few; from = omega (arith, late); to = to })
        | inr early ↦ early_head few from early
      ]

      short_head : length h.fields ≤ line_limit → ⊥
      short_head few = elim (cases_lt (status_code h) 100) [
        | inl low ↦ here.no_fault _ _ (bad_status at h section e few (inl low))
        | inr from ↦ elim (cases_lt 599 (status_code h)) [
          | inl high ↦ here.no_fault _ _ (bad_status at h section e few (inr high))
          | inr to ↦ fit_head few from to
        ]
      ]

      any_head : ⊥
      any_head = elim (cases_lt line_limit (length h.fields)) [
        | inl many ↦ here.no_fault _ _ (many_lines at h section e many)
        | inr few ↦ short_head few
      ]

  at_heads : (left at count : ℕ) (a : IsAfter bytes at count) → left + count ≡ 9 → ⊥
  at_heads zero at count a sum = omega (arith, sum, a.heads.few, a.count_is)
  at_heads (suc left) at count a sum =
      cut at count a (λ h rest reads. any_head at count a h (rest ++ drop (head_limit - at) a.rest) (ends at count a h rest reads) a.count_is
      (λ place b. at_heads left place (count + 1) b (omega (arith, sum))))

pub few_bytes : (o : Bool) (bytes : List ℕ) → IsOpenReply o bytes → length bytes ≤ 1114112
few_bytes o bytes here = elim (cases_lt 1114112 (length bytes)) [
  | inl long ↦ absurd (at_heads o bytes here long 9 0 0 (none_before bytes) refl)
  | inr fits ↦ fits
]
