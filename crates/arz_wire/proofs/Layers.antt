-- The spelling of a tree, a level at a time.
use Rattle.std.proofs.Common.{◌≡◌, ℕ, ℤ, pos, negsuc, Bool, ◌&&◌, true, false, List, [], ◌∷◌, ◌++◌, length, map, refl, sym, ap, ap₂, ◌∙◌, append_assoc, rules}
use Rattle.std.proofs.lemmas.List.{length-map}
use Rattle.arz_json.specs.declared.tree.Json.{Json, the_lemmas}
use Rattle.arz_json.specs.declared.tree.Json.TheVariants.{Null, Flag, Int, Text, List as ListOf, Object, Opaque}
use Rattle.arz_json.specs.declared.tree.Member.{Member}
use Rattle.arz_json.proofs.Layers.{folded-List, folded-Object, pair_of}
use Rattle.arz_json.specs.Tree.{all_true, values_of}
use Rattle.std.specs.Str.{is_utf8}
use Rattle.arz_wire.specs.Texts.{names_are_texts, texts_step, has_texts, has_text}
use Rattle.arz_wire.specs.Spelling.{number, integer, counted, joined, joined_members, spelling_step, spelling, spellings, member_spellings}

joined-map : (js : List Json) → joined (map spelling js) ≡ spellings js
joined-map [] = refl
joined-map (j ∷ js) = ap (λ more. spelling j ++ more) (joined-map js)

joined_members-map : (ms : List Member) → joined_members (map (pair_of (List ℕ) spelling_step) ms) ≡ member_spellings ms
joined_members-map [] = refl
joined_members-map (m ∷ ms) = ap (λ more. counted m.name ++ spelling m.value ++ more) (joined_members-map ms)

pub spelling_list : (js : List Json) → spelling (ListOf js) ≡ 6 ∷ (number (length js) ++ spellings js)
spelling_list js = folded-List (List ℕ) spelling_step js ∙ ap₂ (λ n more. 6 ∷ (number n ++ more)) (length-map js spelling) (joined-map js)

pub spelling_object : (ms : List Member) → spelling (Object ms) ≡ 7 ∷ (number (length ms) ++ member_spellings ms)
spelling_object ms =
    folded-Object (List ℕ) spelling_step ms
    ∙ ap₂ (λ n more. 7 ∷ (number n ++ more)) (length-map ms (pair_of (List ℕ) spelling_step)) (joined_members-map ms)

pub spelling_text : (s : List ℕ) → spelling (Text s) ≡ 5 ∷ counted s
spelling_text s = search (rules, the_lemmas)

-- a first byte that was written, and the others behind it
pub pushed : (before after rest whole : List ℕ) (tag : ℕ) → after ≡ before ++ tag ∷ [] → whole ≡ tag ∷ rest → after ++ rest ≡ before ++ whole
pushed before after rest whole tag a w = ap (λ l. l ++ rest) a ∙ append_assoc before (tag ∷ []) rest ∙ ap (λ l. before ++ l) (sym w)

pub spelling_null : spelling Null ≡ 0 ∷ []
spelling_null = search (rules, the_lemmas)

pub spelling_false : spelling (Flag false) ≡ 1 ∷ []
spelling_false = search (rules, the_lemmas)

pub spelling_true : spelling (Flag true) ≡ 2 ∷ []
spelling_true = search (rules, the_lemmas)

pub spelling_int : (z : ℤ) → spelling (Int z) ≡ integer z
spelling_int (pos n) = search (rules, the_lemmas)
spelling_int (negsuc n) = search (rules, the_lemmas)

pub spelling_opaque : spelling Opaque ≡ 8 ∷ []
spelling_opaque = search (rules, the_lemmas)

-- ---- texts

pub texts_list : (js : List Json) → has_texts (ListOf js) ≡ all_true (map has_texts js)
texts_list js = folded-List Bool texts_step js

both : (a b c d : Bool) → ((a && b) && (c && d)) ≡ ((a && c) && (b && d))
both true true c d = refl
both true false true d = refl
both true false false d = refl
both false b c d = refl

-- names and values one after the other, or member by member
by_member : (ms : List Member) → (names_are_texts (map (pair_of Bool texts_step) ms) && all_true (values_of (map (pair_of Bool texts_step) ms))) ≡ all_true (map has_text ms)
by_member [] = refl
by_member (m ∷ ms) = both (is_utf8 m.name) (names_are_texts (map (pair_of Bool texts_step) ms)) (has_texts m.value) (all_true (values_of (map (pair_of Bool texts_step) ms))) ∙ ap (λ b. (is_utf8 m.name && has_texts m.value) && b) (by_member ms)

pub texts_object : (ms : List Member) → has_texts (Object ms) ≡ all_true (map has_text ms)
texts_object ms = folded-Object Bool texts_step ms ∙ by_member ms
