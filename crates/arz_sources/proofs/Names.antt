-- One name more.
use Rattle.std.proofs.Common.{◌≡◌, ℕ, ◌+◌, ◌<◌, ◌||◌, ◌&&◌, List, length, get_or, drop, map, Bool, true, false, refl, sym, ap, ◌∙◌}
use denote.Ref.{Bor}
use Rattle.std.proofs.lemmas.List.{drop_more}
use Rattle.std.specs.List.{list_any, list_all}
use Rattle.arz_json.specs.declared.tree.Json.{Json}
use Rattle.arz_rules.proofs.Steps.{rest_of}

-- ---- of the parameters that are given

regrouped : (a o r : Bool) → (r || (a || o)) ≡ ((a || r) || o)
regrouped true o true = refl
regrouped true o false = refl
regrouped false o r = refl

pub one_name : (test : Json → Bool) (items : List Json) (i : ℕ) (item : Json) (old new whole : Bool) → i < length items → item ≡ get_or items i item
    → (list_any test (drop i items) || old) ≡ whole → new ≡ (test item || old)
    → (list_any test (drop (i + 1) items) || new) ≡ whole
one_name test items i item old new whole h is before now =
    ap (λ b. list_any test (drop (i + 1) items) || b) now
    ∙ regrouped (test item) old (list_any test (drop (i + 1) items))
    ∙ sym (ap (λ (rest : List Json). list_any test rest || old) (rest_of items i item h is)) ∙ before

-- ---- of the names of a path

pub all_more : (test : List ℕ → Bool) (names : List (Bor (List ℕ))) (i : ℕ) (d : Bor (List ℕ)) (b whole : Bool)
    → whole ≡ list_all test (map (λ t. t.now) (drop i names)) → i < length names → b ≡ test (get_or names i d).now
    → whole ≡ (b && list_all test (map (λ t. t.now) (drop (i + 1) names)))
all_more test names i d b whole before h is =
    before
    ∙ ap (λ (rest : List (Bor (List ℕ))). list_all test (map (λ t. t.now) rest)) (drop_more names i d h)
    ∙ ap (λ c. c && list_all test (map (λ t. t.now) (drop (i + 1) names))) (sym is)
