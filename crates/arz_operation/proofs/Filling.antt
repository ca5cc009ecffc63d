-- A URL, cut by cut.
use Rattle.std.proofs.Common.{◌≡◌, ℕ, ◌<◌, List, [], ◌∷◌, ◌++◌, length, refl, ap, sym, ◌∙◌, arith, append_assoc, append-nil, length-append}
use Rattle.std.proofs.lemmas.Bool.{ne_eqb}
use Rattle.arz_json.proofs.Splits.{Lacks}
use Rattle.arz_json.proofs.Lacks.{lacks-rest, lacks-first}
use Rattle.arz_json.specs.declared.tree.Member.{Member}
use Rattle.arz_operation.specs.Servers.{value_of, filled, filled_name}

filled-plain : (vs : List Member) (front rest : List ℕ) → Lacks 123 front → filled vs (front ++ rest) ≡ front ++ filled vs rest
filled-plain vs [] rest lacks = refl
filled-plain vs (b ∷ front) rest lacks =
    rw (ne_eqb b 123 (lacks-first 123 b front lacks)) (ap (λ bs. b ∷ bs) (filled-plain vs front rest (lacks-rest 123 b front lacks)))

name-closed : (vs : List Member) (name front rest : List ℕ) → Lacks 125 front → filled_name vs name (front ++ 125 ∷ rest) ≡ value_of vs (name ++ front) ++ filled vs rest
name-closed vs name [] rest lacks = ap (λ n. value_of vs n ++ filled vs rest) (sym (append-nil name))
name-closed vs name (b ∷ front) rest lacks =
    rw (ne_eqb b 125 (lacks-first 125 b front lacks))
    (name-closed vs (name ++ b ∷ []) front rest (lacks-rest 125 b front lacks) ∙ ap (λ n. value_of vs n ++ filled vs rest) (append_assoc name (b ∷ []) front))

name-open : (vs : List Member) (name text : List ℕ) → Lacks 125 text → filled_name vs name text ≡ 123 ∷ (name ++ text)
name-open vs name [] lacks = ap (λ n. 123 ∷ n) (sym (append-nil name))
name-open vs name (b ∷ text) lacks =
    rw (ne_eqb b 125 (lacks-first 125 b text lacks))
    (name-open vs (name ++ b ∷ []) text (lacks-rest 125 b text lacks) ∙ ap (λ n. 123 ∷ n) (append_assoc name (b ∷ []) text))

-- no `{`
pub filled-all : (vs : List Member) (text : List ℕ) → Lacks 123 text → filled vs text ≡ text
filled-all vs text lacks = sym (ap (filled vs) (append-nil text)) ∙ filled-plain vs text [] lacks ∙ append-nil text

-- a `{` without a `}`
pub filled-open : (vs : List Member) (text before inside : List ℕ) → text ≡ before ++ 123 ∷ inside → Lacks 123 before → Lacks 125 inside → filled vs text ≡ text
filled-open vs text before inside is plain lacks =
    ap (filled vs) is ∙ filled-plain vs before (123 ∷ inside) plain ∙ ap (λ bs. before ++ bs) (name-open vs [] inside lacks) ∙ sym is

-- a `{name}`
pub filled-cut : (vs : List Member) (text before inside name rest : List ℕ) → text ≡ before ++ 123 ∷ inside → Lacks 123 before → inside ≡ name ++ 125 ∷ rest → Lacks 125 name
    → filled vs text ≡ before ++ (value_of vs name ++ filled vs rest)
filled-cut vs text before inside name rest is plain cut closed =
    ap (filled vs) is ∙ filled-plain vs before (123 ∷ inside) plain
    ∙ ap (λ bs. before ++ bs) (ap (filled_name vs []) cut ∙ name-closed vs [] name rest closed)

pub smaller : (text before inside name rest : List ℕ) → text ≡ before ++ 123 ∷ inside → inside ≡ name ++ 125 ∷ rest → length rest < length text
smaller text before inside name rest is cut =
    omega (arith, ap length is, length-append before (123 ∷ inside), ap length cut, length-append name (125 ∷ rest))

-- one cut is written behind what was there
pub goes-on : (vs : List Member) (whole out mid new text before name rest : List ℕ) → out ++ filled vs text ≡ whole
    → filled vs text ≡ before ++ (value_of vs name ++ filled vs rest) → mid ≡ out ++ before → new ≡ mid ++ value_of vs name → new ++ filled vs rest ≡ whole
goes-on vs whole out mid new text before name rest start cut first then =
    ap (λ bs. bs ++ filled vs rest) (then ∙ ap (λ bs. bs ++ value_of vs name) first)
    ∙ append_assoc (out ++ before) (value_of vs name) (filled vs rest) ∙ append_assoc out before (value_of vs name ++ filled vs rest)
    ∙ ap (λ bs. out ++ bs) (sym cut) ∙ start
