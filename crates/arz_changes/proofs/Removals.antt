-- What is left of a tree, a level and a child at a time.
use Rattle.std.proofs.Common.{◌≡◌, ℕ, zero, suc, ◌+◌, ◌==◌, length, drop, arith, List, [], ◌∷◌, ◌++◌, Bool, true, false, cond, Some, None, option_map, refl, ap, ap₂, ◌∙◌, rules}
use Rattle.std.specs.Option.{option_to_list}
use Rattle.arz_json.specs.declared.tree.Json.{Json, the_lemmas}
use Rattle.arz_json.specs.declared.tree.Json.TheVariants.{List as ListOf, Object}
use Rattle.arz_json.specs.declared.tree.Member.{Member}
use Rattle.arz_json.specs.declared.place.Token.TheVariants.{Name, Index}
use Rattle.arz_json.proofs.Layers.{folded-List, folded-Object}
use Rattle.arz_json.proofs.Induction.{Each, EachValue, Levels, induction}
use Rattle.std.proofs.lemmas.Bool.{eqb-true}
use Rattle.arz_json.specs.Tree.{has_form}
use Rattle.arz_changes.specs.declared.groups.Way.{Way}
use Rattle.arz_changes.specs.Groups.{ways_seen}
use Rattle.arz_changes.proofs.Forms.{items_form, values_form}
use Rattle.arz_changes.proofs.Lists.{right}
use Rattle.arz_changes.specs.Merging.{member}
use Rattle.arz_changes.specs.Removal.{Places, Removal, below, has_end, removal_step, without, child_kept, member_kept, items_kept, members_kept}

pub without_list : (js : List Json) (ps : Places) → without (ListOf js) ps ≡ ListOf (items_kept ps 0 js)
without_list js ps = ap (λ (f : Removal). f ps) (folded-List Removal removal_step js)

pub without_object : (ms : List Member) (ps : Places) → without (Object ms) ps ≡ Object (members_kept ps ms)
without_object ms ps = ap (λ (f : Removal). f ps) (folded-Object Removal removal_step ms)

item_by : (b : Bool) (j : Json) (rest : List Json) → cond b rest (j ∷ rest) ≡ option_to_list (cond b None (Some j)) ++ rest
item_by true j rest = refl
item_by false j rest = refl

-- what is left of the first item, and of the others
pub items_kept-cons : (ps : Places) (i : ℕ) (j : Json) (js : List Json) → items_kept ps i (j ∷ js) ≡ option_to_list (child_kept j (below (Index i) ps)) ++ items_kept ps (i + 1) js
items_kept-cons ps i j js = item_by (has_end (below (Index i) ps)) (without j (below (Index i) ps)) (items_kept ps (i + 1) js)

member_by : (b : Bool) (name : List ℕ) (j : Json) (rest : List Member) → cond b rest (member name j ∷ rest) ≡ option_to_list (option_map (λ k. member name k) (cond b None (Some j))) ++ rest
member_by true name j rest = refl
member_by false name j rest = refl

pub members_kept-cons : (ps : Places) (m : Member) (ms : List Member) → members_kept ps (m ∷ ms) ≡ option_to_list (member_kept m (below (Name m.name) ps)) ++ members_kept ps ms
members_kept-cons ps m ms = member_by (has_end (below (Name m.name) ps)) m.name (without m.value (below (Name m.name) ps)) (members_kept ps ms)

-- ---- no place takes nothing away

abbrev Stays : Json → Type 0
Stays j = without j [] ≡ j

items_stay : (js : List Json) (i : ℕ) → Each Stays js → items_kept [] i js ≡ js
items_stay [] i h = refl
items_stay (j ∷ js) i h = ap₂ (λ (k : Json) (ks : List Json). k ∷ ks) h.0 (items_stay js (i + 1) h.1)

members_stay : (ms : List Member) → EachValue Stays ms → members_kept [] ms ≡ ms
members_stay [] h = refl
members_stay (m ∷ ms) h = ap₂ (λ (k : Json) (ks : List Member). member m.name k ∷ ks) h.0 (members_stay ms h.1)

levels : Levels Stays
levels = record {
  null = search (rules, the_lemmas);
  flag = λ b. search (rules, the_lemmas);
  int = λ z. search (rules, the_lemmas);
  text = λ s. search (rules, the_lemmas);
  list = λ js h. without_list js [] ∙ ap ListOf (items_stay js 0 h);
  object = λ ms h. without_object ms [] ∙ ap Object (members_stay ms h);
  opaque = search (rules, the_lemmas);
}

pub without_none : (j : Json) → without j [] ≡ j
without_none j = induction Stays levels j

pub none_seen : (ws : List Way) → (length ws == 0) ≡ true → ways_seen ws ≡ []
none_seen [] e = refl
none_seen (w ∷ ws) e = let h : length (w ∷ ws) ≡ 0 = eqb-true (length (w ∷ ws)) 0 e in absurd (omega (arith, h))

-- ---- what holds of all holds of those from a place on

pub items_form-drop : (i : ℕ) (js : List Json) → items_form js ≡ true → items_form (drop i js) ≡ true
items_form-drop zero js h = h
items_form-drop (suc i) [] h = h
items_form-drop (suc i) (j ∷ js) h = items_form-drop i js (right (has_form j) _ h)

pub values_form-drop : (i : ℕ) (ms : List Member) → values_form ms ≡ true → values_form (drop i ms) ≡ true
values_form-drop zero ms h = h
values_form-drop (suc i) [] h = h
values_form-drop (suc i) (m ∷ ms) h = values_form-drop i ms (right (has_form m.value) _ h)
