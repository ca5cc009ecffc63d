-- Induction over trees: what holds of a level where it holds of each value inside, holds of each tree.
use Rattle.std.proofs.Common.{ℕ, ℤ, List, [], ◌∷◌, map, Bool, sym, subst}
use Rattle.arz_json.specs.declared.tree.Json.{Json}
use Rattle.arz_json.specs.declared.tree.Json.TheOpen.{Json-F}
use Rattle.arz_json.specs.declared.tree.Json.TheFolds.{ind-Json, map-Json}
use Rattle.arz_json.specs.declared.tree.Json.TheVariants.{Null, Flag, Int, Text, List as ListOf, Object, Opaque, rolls-Null, rolls-Flag, rolls-Int, rolls-Text, rolls-List, rolls-Object, rolls-Opaque}
use Rattle.arz_json.specs.declared.tree.Json.TheViews.{roll-Json}
use Rattle.arz_json.specs.declared.tree.Member.{Member}

module _ (P : Json → Type 0) where
  -- it holds of each item
  abbrev pub Each : List Json → Type 0
  Each [] = Unit {0}
  Each (j ∷ js) = P j × Each js

  -- it holds of each member's value
  abbrev pub EachValue : List Member → Type 0
  EachValue [] = Unit {0}
  EachValue (m ∷ ms) = P m.value × EachValue ms

  abbrev Held : Type 0
  Held = (j : Json) × P j

  abbrev HeldMember : Type 0
  HeldMember = (m : Member) × P m.value

  items : (js : List Held) → Each (map (λ e. e.0) js)
  items [] = tt
  items (e ∷ js) = (e.1, items js)

  members : (ms : List HeldMember) → EachValue (map (λ e. e.0) ms)
  members [] = tt
  members (e ∷ ms) = (e.1, members ms)

  pub record Levels : Type 0 where
    pub null : P Null
    pub flag : (b : Bool) → P (Flag b)
    pub int : (z : ℤ) → P (Int z)
    pub text : (s : List ℕ) → P (Text s)
    pub list : (js : List Json) → Each js → P (ListOf js)
    pub object : (ms : List Member) → EachValue ms → P (Object ms)
    pub opaque : P Opaque

  level : Levels → (y : Json-F Held HeldMember) → P (roll-Json (map-Json Held HeldMember Json Member (λ e. e.0) (λ e. e.0) y))
  level h Json-F.Null = subst P (sym rolls-Null) h.null
  level h (Json-F.Flag b) = subst P (sym (rolls-Flag b)) (h.flag b)
  level h (Json-F.Int z) = subst P (sym (rolls-Int z)) (h.int z)
  level h (Json-F.Text s) = subst P (sym (rolls-Text s)) (h.text s)
  level h (Json-F.List js) = subst P (sym (rolls-List (map (λ e. e.0) js))) (h.list _ (items js))
  level h (Json-F.Object ms) = subst P (sym (rolls-Object (map (λ e. e.0) ms))) (h.object _ (members ms))
  level h Json-F.Opaque = subst P (sym rolls-Opaque) h.opaque

  pub induction : Levels → (j : Json) → P j
  induction h = ind-Json P (λ m. P m.value) (λ x y is. subst (λ z. P (roll-Json z)) is (level h y)) (λ x y is. subst (λ z. P z.value) is y.value.1)
