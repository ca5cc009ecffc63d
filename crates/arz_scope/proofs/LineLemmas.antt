-- The lines with one name.
use Rattle.std.proofs.Common.{◌≡◌, ℕ, List, [], ◌∷◌, Bool, true, false, cond, ◌||◌, ◌&&◌, not, map, filter, codes, Option, Some, None, refl, sym, ap, ◌∙◌}
use Rattle.std.specs.Prelude.{find}
use Rattle.std.specs.List.{list_all}
use Rattle.std.specs.Str.{str_eq_ignore_ascii_case}
use Rattle.arz_world.specs.declared.Header.{Header}
use Rattle.arz_world.specs.declared.Reply.{Reply}
use Rattle.arz_scope.specs.Bodies.{Kind, AsJson, Unread, has_name, values_of, is_plain, kind_by, kind_of_type, kind_of, media_type}
use Rattle.arz_scope.specs.Kinds.{is_plain_line}

abbrev coding : List ℕ
coding = codes "content-encoding"

abbrev is_identity : List ℕ → Bool
is_identity value = str_eq_ignore_ascii_case value (codes "identity")

one-line : (b : Bool) (h : Header) (hs : List Header) → list_all is_plain_line hs ≡ is_plain (values_of coding hs)
    → ((not b || is_identity h.value) && list_all is_plain_line hs) ≡ is_plain (map (λ h. h.value) (cond b (h ∷ filter (has_name coding) hs) (filter (has_name coding) hs)))
one-line true h hs e = ap (λ b. is_identity h.value && b) e
one-line false h hs e = e

-- each line is plain exactly where the codings are
pub plain-lines : (hs : List Header) → list_all is_plain_line hs ≡ is_plain (values_of coding hs)
plain-lines [] = refl
plain-lines (h ∷ hs) = one-line (has_name coding h) h hs (plain-lines hs)

-- what the first line says, where there is one
abbrev pub kind_at : Option Header → Kind
kind_at None = AsJson
kind_at (Some h) = kind_of_type (media_type h.value)

first-line : (name : List ℕ) (b : Bool) (h : Header) (hs : List Header) → kind_by (values_of name hs) ≡ kind_at (find (has_name name) hs)
    → kind_by (map (λ h. h.value) (cond b (h ∷ filter (has_name name) hs) (filter (has_name name) hs))) ≡ kind_at (cond b (Some h) (find (has_name name) hs))
first-line name true h hs e = refl
first-line name false h hs e = e

pub kind-by-first : (name : List ℕ) (hs : List Header) → kind_by (values_of name hs) ≡ kind_at (find (has_name name) hs)
kind-by-first name [] = refl
kind-by-first name (h ∷ hs) = first-line name (has_name name h) h hs (kind-by-first name hs)

-- the kind of a body whose codings are plain, and of another
pub kind-plain : (y : Reply) (hs : List Header) (first : Option Header) → hs ≡ y.headers → list_all is_plain_line hs ≡ true → first ≡ find (has_name (codes "content-type")) hs
    → kind_at first ≡ kind_of y
kind-plain y hs first all plain found =
    let is : is_plain (values_of coding y.headers) ≡ true = ap (λ hs. is_plain (values_of coding hs)) (sym all) ∙ sym (plain-lines hs) ∙ plain in
    rw is (ap kind_at found ∙ sym (kind-by-first (codes "content-type") hs) ∙ ap (λ hs. kind_by (values_of (codes "content-type") hs)) all)

pub kind-coded : (y : Reply) (hs : List Header) → hs ≡ y.headers → list_all is_plain_line hs ≡ false → Unread ≡ kind_of y
kind-coded y hs all coded =
    let is : is_plain (values_of coding y.headers) ≡ false = ap (λ hs. is_plain (values_of coding hs)) (sym all) ∙ sym (plain-lines hs) ∙ coded in
    rw is refl
