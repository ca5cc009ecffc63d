-- A tree is solid exactly where no number in it is kept without its value.
use Rattle.std.proofs.Common.{◌≡◌, ◌↔◌, ℕ, ℤ, suc, List, [], ◌∷◌, ◌++◌, map, Bool, true, false, not, ◌&&◌, ◌||◌, refl, sym, ap, ap₂, subst, ◌∙◌}
use Rattle.arz_json.specs.Tree.{has_opaque, opaque_step, some_true, member_step}
use Rattle.arz_json.specs.declared.tree.Json.{Json}
use Rattle.arz_json.specs.declared.tree.Json.TheVariants.{List as ListOf, Object, rolls-Null, rolls-Flag, rolls-Int, rolls-Text, rolls-Opaque}
use Rattle.arz_json.specs.declared.tree.Json.TheOpen.{Json-F}
use Rattle.arz_json.specs.declared.tree.Json.TheFolds.{fold-roll-Json}
use Rattle.arz_json.specs.declared.tree.Json.TheViews.{roll-Json}
use Rattle.arz_json.specs.declared.tree.Member.{Member}
use Rattle.arz_json.specs.declared.place.Token.{Token}
use Rattle.arz_json.specs.declared.place.Token.TheVariants.{Name, Index}
use Rattle.arz_json.proofs.Layers.{folded-List, folded-Object, has_opaque_object}
use Rattle.arz_json.proofs.Induction.{induction, Each, EachValue}
use Rattle.arz_rules.specs.declared.kinds.Kind.TheVariants as Kind
use Rattle.arz_rules.specs.declared.forms.Others.TheVariants.{Are}
use Rattle.arz_rules.specs.Place.{under}
use Rattle.arz_rules.specs.Misses.{Misses, misses, level_misses, item_misses, member_misses, named_misses, are_none}

none-append : (ps qs : List (List Token)) → are_none (ps ++ qs) ≡ (are_none ps && are_none qs)
none-append [] qs = refl
none-append (p ∷ ps) qs = refl

none-under : (t : Token) (ps : List (List Token)) → are_none (under t ps) ≡ are_none ps
none-under t [] = refl
none-under t (p ∷ ps) = refl

not_either : (a b : Bool) → not (a || b) ≡ (not a && not b)
not_either true b = refl
not_either false b = refl

abbrev IsTold : Json → Type 0
IsTold j = are_none (misses j Kind.Solid) ≡ not (has_opaque j)

one_more : (t : Token) (j : Json) (qs : List (List Token)) (b : Bool) → IsTold j → are_none qs ≡ not b → are_none (under t (misses j Kind.Solid) ++ qs) ≡ not (has_opaque j || b)
one_more t j qs b h r =
    none-append (under t (misses j Kind.Solid)) qs
    ∙ ap₂ (λ x y. x && y) (none-under t (misses j Kind.Solid) ∙ h) r
    ∙ sym (not_either (has_opaque j) b)

items : (js : List Json) (i : ℕ) → Each IsTold js → are_none (item_misses Kind.Solid i (map misses js)) ≡ not (some_true (map has_opaque js))
items [] i h = refl
items (j ∷ js) i h = one_more (Index i) j _ _ h.0 (items js (suc i) h.1)

members : (ms : List Member) → EachValue IsTold ms → are_none (member_misses [] (Are Kind.Solid) (named_misses ms)) ≡ not (some_true (map (λ m. has_opaque m.value) ms))
members [] h = refl
members (m ∷ ms) h = one_more (Name m.name) m.value _ _ h.0 (members ms h.1)

list : (js : List Json) → Each IsTold js → IsTold (ListOf js)
list js h =
    ap (λ (f : Misses). are_none (f Kind.Solid)) (folded-List Misses level_misses js)
    ∙ items js 0 h
    ∙ ap not (sym (folded-List Bool opaque_step js))

object : (ms : List Member) → EachValue IsTold ms → IsTold (Object ms)
object ms h =
    ap (λ (f : Misses). are_none (f Kind.Solid)) (folded-Object Misses level_misses ms)
    ∙ members ms h
    ∙ ap not (sym (has_opaque_object ms))

at_null : IsTold (roll-Json Json-F.Null)
at_null = ap (λ (f : Misses). are_none (f Kind.Solid)) (fold-roll-Json Misses (List ℕ × Misses) level_misses member_step Json-F.Null) ∙ ap not (sym (fold-roll-Json Bool (List ℕ × Bool) opaque_step member_step Json-F.Null))

at_flag : (b : Bool) → IsTold (roll-Json (Json-F.Flag b))
at_flag b = ap (λ (f : Misses). are_none (f Kind.Solid)) (fold-roll-Json Misses (List ℕ × Misses) level_misses member_step (Json-F.Flag b)) ∙ ap not (sym (fold-roll-Json Bool (List ℕ × Bool) opaque_step member_step (Json-F.Flag b)))

at_int : (z : ℤ) → IsTold (roll-Json (Json-F.Int z))
at_int z = ap (λ (f : Misses). are_none (f Kind.Solid)) (fold-roll-Json Misses (List ℕ × Misses) level_misses member_step (Json-F.Int z)) ∙ ap not (sym (fold-roll-Json Bool (List ℕ × Bool) opaque_step member_step (Json-F.Int z)))

at_text : (s : List ℕ) → IsTold (roll-Json (Json-F.Text s))
at_text s = ap (λ (f : Misses). are_none (f Kind.Solid)) (fold-roll-Json Misses (List ℕ × Misses) level_misses member_step (Json-F.Text s)) ∙ ap not (sym (fold-roll-Json Bool (List ℕ × Bool) opaque_step member_step (Json-F.Text s)))

at_opaque : IsTold (roll-Json Json-F.Opaque)
at_opaque = ap (λ (f : Misses). are_none (f Kind.Solid)) (fold-roll-Json Misses (List ℕ × Misses) level_misses member_step Json-F.Opaque) ∙ ap not (sym (fold-roll-Json Bool (List ℕ × Bool) opaque_step member_step Json-F.Opaque))

told : (j : Json) → IsTold j
told = induction IsTold (record {
  null = subst IsTold rolls-Null at_null;
  flag = λ b. subst IsTold (rolls-Flag b) (at_flag b);
  int = λ z. subst IsTold (rolls-Int z) (at_int z);
  text = λ s. subst IsTold (rolls-Text s) (at_text s);
  list = list;
  object = object;
  opaque = subst IsTold rolls-Opaque at_opaque;
})

solid_at : (ps : List (List Token)) (b : Bool) → are_none ps ≡ not b → (ps ≡ []) ↔ (b ≡ false)
solid_at [] true e = absurd (cc)
solid_at [] false e = (λ _. refl, λ _. refl)
solid_at (p ∷ ps) true e = (λ h. absurd (cc), λ h. absurd (cc))
solid_at (p ∷ ps) false e = absurd (cc)

pub solid : (j : Json) → (misses j Kind.Solid ≡ []) ↔ (has_opaque j ≡ false)
solid j = solid_at (misses j Kind.Solid) (has_opaque j) (told j)
