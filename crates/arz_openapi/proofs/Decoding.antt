-- The name that a token spells, escape by escape.
use Rattle.std.proofs.Common.{◌≡◌, ◌≢◌, ℕ, List, [], ◌∷◌, ◌++◌, Option, Some, None, option_map, refl, ap, sym, ◌∙◌, append_assoc, append-nil, codes}
use Rattle.arz_json.proofs.Splits.{Lacks}
use Rattle.arz_json.proofs.Lacks.{lacks-rest, lacks-first}
use Rattle.arz_json.proofs.Pointers.{decoded_plain, decoded_bare, decoded_slash, decoded_tilde, decoded_other}
use Rattle.arz_json.specs.Pointer.{decoded}

same : (o : Option (List ℕ)) → option_map (λ n. [] ++ n) o ≡ o
same None = refl
same (Some n) = refl

twice : (x : ℕ) (front : List ℕ) (o : Option (List ℕ)) → option_map (λ n. x ∷ n) (option_map (λ n. front ++ n) o) ≡ option_map (λ n. (x ∷ front) ++ n) o
twice x front None = refl
twice x front (Some n) = refl

decoded-nothing : decoded [] ≡ Some []
unfolding decoded
decoded-nothing = refl

pub decoded-front : (front rest : List ℕ) → Lacks 126 front → decoded (front ++ rest) ≡ option_map (λ n. front ++ n) (decoded rest)
decoded-front [] rest lacks = sym (same (decoded rest))
decoded-front (x ∷ front) rest lacks =
    decoded_plain x (front ++ rest) (lacks-first 126 x front lacks)
    ∙ ap (option_map (λ n. x ∷ n)) (decoded-front front rest (lacks-rest 126 x front lacks)) ∙ twice x front (decoded rest)

-- no escape
pub decoded-all : (text : List ℕ) → Lacks 126 text → decoded text ≡ Some text
decoded-all text lacks =
    sym (ap decoded (append-nil text)) ∙ decoded-front text [] lacks ∙ ap (option_map (λ n. text ++ n)) decoded-nothing ∙ ap Some (append-nil text)

-- a `~` before anything else than `0` and `1`
pub decoded-none : (text : List ℕ) → ((rest : List ℕ) → text ≢ 49 ∷ rest) → ((rest : List ℕ) → text ≢ 48 ∷ rest) → None ≡ decoded (126 ∷ text)
decoded-none [] one nought = sym decoded_bare
decoded-none (y ∷ rest) one nought = sym (decoded_other y rest (λ e. one rest (ap (λ x. x ∷ rest) e)) (λ e. nought rest (ap (λ x. x ∷ rest) e)))

pub slash : (text rest : List ℕ) → text ≡ 49 ∷ rest → decoded (126 ∷ text) ≡ option_map (λ n. codes "/" ++ n) (decoded rest)
slash text rest is = ap (λ t. decoded (126 ∷ t)) is ∙ decoded_slash rest

pub tilde : (text rest : List ℕ) → text ≡ 48 ∷ rest → decoded (126 ∷ text) ≡ option_map (λ n. codes "~" ++ n) (decoded rest)
tilde text rest is = ap (λ t. decoded (126 ∷ t)) is ∙ decoded_tilde rest

joined : (out plain letter : List ℕ) (o : Option (List ℕ)) → option_map (λ n. out ++ n) (option_map (λ n. plain ++ n) (option_map (λ n. letter ++ n) o)) ≡ option_map (λ n. ((out ++ plain) ++ letter) ++ n) o
joined out plain letter None = refl
joined out plain letter (Some n) = ap Some (sym (append_assoc (out ++ plain) letter n ∙ append_assoc out plain (letter ++ n)))

-- one escape more
pub goes-on : (whole : Option (List ℕ)) (out mid new text plain behind letter more : List ℕ) → option_map (λ n. out ++ n) (decoded text) ≡ whole
    → text ≡ plain ++ 126 ∷ behind → Lacks 126 plain → decoded (126 ∷ behind) ≡ option_map (λ n. letter ++ n) (decoded more)
    → mid ≡ out ++ plain → new ≡ mid ++ letter → option_map (λ n. new ++ n) (decoded more) ≡ whole
goes-on whole out mid new text plain behind letter more before is lacks escape first last =
    ap (λ xs. option_map (λ n. xs ++ n) (decoded more)) (last ∙ ap (λ xs. xs ++ letter) first)
    ∙ sym (joined out plain letter (decoded more))
    ∙ ap (λ o. option_map (λ n. out ++ n) (option_map (λ n. plain ++ n) o)) (sym escape)
    ∙ ap (option_map (λ n. out ++ n)) (sym (ap decoded is ∙ decoded-front plain (126 ∷ behind) lacks))
    ∙ before

-- a `~` that begins no escape
pub ends : (whole : Option (List ℕ)) (out text plain behind : List ℕ) → option_map (λ n. out ++ n) (decoded text) ≡ whole
    → text ≡ plain ++ 126 ∷ behind → Lacks 126 plain → decoded (126 ∷ behind) ≡ None → None ≡ whole
ends whole out text plain behind before is lacks none =
    sym (ap (option_map (λ n. out ++ n)) (ap decoded is ∙ decoded-front plain (126 ∷ behind) lacks ∙ ap (option_map (λ n. plain ++ n)) none)) ∙ before

pub all-read : (whole : Option (List ℕ)) (out new text : List ℕ) → option_map (λ n. out ++ n) (decoded text) ≡ whole → Lacks 126 text → new ≡ out ++ text → Some new ≡ whole
all-read whole out new text before lacks is = ap Some is ∙ sym (ap (option_map (λ n. out ++ n)) (decoded-all text lacks)) ∙ before
