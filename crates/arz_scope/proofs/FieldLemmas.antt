-- Fields found by name, in the groups that they were made of.
use Rattle.std.proofs.Common.{◌≡◌, ℕ, List, [], ◌∷◌, Bool, true, false, cond, map, filter, Option, Some, option_and_then, refl, sym, ap, ◌∙◌, String, Global, Bor, string_bytes}
use Rattle.std.specs.Prelude.{find}
use Rattle.std.specs.Cmp.Lexicographic.{slice_cmp}
use Rattle.std.specs.Option.{option_map_or}
use Rattle.std.specs.Ordering.{nat_cmp}
use Rattle.std.specs.Str.{bytes_eq, str_to_ascii_lowercase}
use Rattle.std.specs.BTreeMap.{BTreeMap, get_by_text, is_at}
use Rattle.std.specs.Map.{lookup}
use Rattle.std.specs.declared.vec.Vec.{Vec}
use Rattle.std.proofs.lemmas.Bool.Decides.{same_from_decides}
use Rattle.std.proofs.lemmas.List.Elements.{filter_agree}
use Rattle.std.proofs.lemmas.Map.Text.{is_eq-slice_cmp}
use Rattle.std.proofs.lemmas.Slice.Eq.{bytes_eq-Decides}
use Rattle.arz_world.specs.declared.Header.{Header}
use Rattle.arz_world.specs.declared.Reply.{Reply}
use Rattle.arz_scope.specs.Bodies.{field_of, has_name, header_field}
use Rattle.arz_scope.specs.Fields.{field_named, Group, field_from}
use Rattle.arz_scope.specs.declared.fields.Field.{Field}

pub bytes_eq-flip : (xs ys : List ℕ) → bytes_eq xs ys ≡ bytes_eq ys xs
bytes_eq-flip xs ys =
    let other = bytes_eq-Decides ys xs in
    same_from_decides (bytes_eq xs ys) (bytes_eq ys xs) (bytes_eq-Decides xs ys) (λ e. sym (other.0 e), λ p. other.1 (sym p))

-- the values of a group that was found
abbrev values_in : Option (Vec (Bor (List ℕ)) Global) → List (List ℕ)
values_in group = option_map_or (λ g. map (λ v. v.now) g.items) group []

one-more : (b : Bool) (g : Group) (found : Option Field) (rest : Option (Vec (Bor (List ℕ)) Global)) → option_and_then (λ f. f.value) found ≡ field_of (values_in rest)
    → option_and_then (λ f. f.value) (cond b (Some (field_from g)) found) ≡ field_of (values_in (cond b (Some g.1) rest))
one-more true g found rest e = refl
one-more false g found rest e = e

-- a search by name in the fields is one in the groups
found-among : (name : List ℕ) (groups : List Group)
    → option_and_then (λ f. f.value) (find (λ f. bytes_eq name f.name) (map field_from groups)) ≡ field_of (values_in (lookup (is_at (λ k. slice_cmp nat_cmp name (string_bytes k))) groups))
found-among name [] = refl
found-among name (g ∷ groups) =
    let rest = lookup (is_at (λ k. slice_cmp nat_cmp name (string_bytes k))) groups in
    one-more (bytes_eq name (string_bytes g.0)) g (find (λ f. bytes_eq name f.name) (map field_from groups)) rest (found-among name groups)
    ∙ ap (λ b. field_of (values_in (cond b (Some g.1) rest))) (sym (is_eq-slice_cmp name (string_bytes g.0)))

-- the lines with a name in lower case are those with the name in any case
same-lines : (name : List ℕ) (headers : List Header) → filter (λ h. bytes_eq (str_to_ascii_lowercase name) (str_to_ascii_lowercase h.name)) headers ≡ filter (has_name name) headers
same-lines name headers =
    filter_agree (λ h. bytes_eq (str_to_ascii_lowercase name) (str_to_ascii_lowercase h.name)) (has_name name) (λ h. bytes_eq-flip (str_to_ascii_lowercase name) (str_to_ascii_lowercase h.name)) headers

-- the fields of all groups are those of the reply
pub fields-of-groups : (reply : Reply) (headers : List Header) (m : BTreeMap (String Global) (Vec (Bor (List ℕ)) Global)) (fields : List Field) → headers ≡ reply.headers
    → ((name : List ℕ) → values_in (get_by_text m name) ≡ map (λ h. h.value) (filter (λ h. bytes_eq name (str_to_ascii_lowercase h.name)) headers))
    → fields ≡ map field_from m.entries → (name : List ℕ) → field_named fields name ≡ header_field reply name
fields-of-groups reply headers m fields all groups is name =
    let lower = str_to_ascii_lowercase name in
    ap (λ fs. field_named fs name) is ∙ found-among lower m.entries ∙ ap field_of (groups lower)
    ∙ ap (λ (hs : List Header). field_of (map (λ h. h.value) hs)) (same-lines name headers)
    ∙ ap (λ (hs : List Header). field_of (map (λ h. h.value) (filter (has_name name) hs))) all
