-- How many bytes there are in lists.
use Rattle.std.specs.Option.{option_to_list}
use Rattle.std.proofs.Common.{◌≡◌, ◌≤◌, ℕ, zero, suc, drop, Option, Some, None, refl, ◌+◌, List, [], ◌∷◌, ◌++◌, arith, length-append}
use Rattle.arz_json.specs.declared.tree.Json.{Json}
use Rattle.arz_json.specs.declared.tree.Member.{Member}
use Rattle.arz_wire.specs.Spelling.{spelling, spellings, counted, member_spellings}
use Rattle.arz_changes.specs.Weight.{weight, weight_there, name_weight, items_weight, members_weight}

pub items_weight-cons : (j : Json) (js : List Json) → items_weight (j ∷ js) ≡ weight j + items_weight js
items_weight-cons j js = length-append (spelling j) (spellings js)

pub items_weight-append : (is js : List Json) → items_weight (is ++ js) ≡ items_weight is + items_weight js
items_weight-append [] js = omega arith
items_weight-append (i ∷ is) js =
    let a = items_weight-cons i (is ++ js) in
    let b = items_weight-cons i is in
    let c = items_weight-append is js in
    omega (arith, a, b, c)

pub items_weight-push : (js : List Json) (j : Json) → items_weight (js ++ j ∷ []) ≡ items_weight js + weight j
items_weight-push js j =
    let a = items_weight-append js (j ∷ []) in
    let b = items_weight-cons j [] in
    omega (arith, a, b)

pub members_weight-cons : (m : Member) (ms : List Member) → members_weight (m ∷ ms) ≡ name_weight m.name + weight m.value + members_weight ms
members_weight-cons m ms =
    let a = length-append (counted m.name ++ spelling m.value) (member_spellings ms) in
    let b = length-append (counted m.name) (spelling m.value) in
    omega (arith, a, b)

pub members_weight-append : (ms ns : List Member) → members_weight (ms ++ ns) ≡ members_weight ms + members_weight ns
members_weight-append [] ns = omega arith
members_weight-append (m ∷ ms) ns =
    let a = members_weight-cons m (ms ++ ns) in
    let b = members_weight-cons m ms in
    let c = members_weight-append ms ns in
    omega (arith, a, b, c)

pub items_weight-drop : (i : ℕ) (js : List Json) → items_weight (drop i js) ≤ items_weight js
items_weight-drop zero js = omega arith
items_weight-drop (suc i) [] = omega arith
items_weight-drop (suc i) (j ∷ js) = let a = items_weight-cons j js in let b = items_weight-drop i js in omega (arith, a, b)

pub members_weight-drop : (i : ℕ) (ms : List Member) → members_weight (drop i ms) ≤ members_weight ms
members_weight-drop zero ms = omega arith
members_weight-drop (suc i) [] = omega arith
members_weight-drop (suc i) (m ∷ ms) = let a = members_weight-cons m ms in let b = members_weight-drop i ms in omega (arith, a, b)

pub items_weight-option : (o : Option Json) → items_weight (option_to_list o) ≡ weight_there o
items_weight-option None = refl
items_weight-option (Some j) = let a = items_weight-cons j [] in omega (arith, a)
