-- Parameters that are given, joined: one name more, and the names that none has.
use Rattle.std.proofs.Common.{◌≡◌, ℕ, ◌+◌, ◌<◌, ◌&&◌, ◌||◌, Bool, true, false, List, length, get_or, take, refl, sym, ap, ap₂, ◌∙◌}
use Rattle.std.specs.Prelude.{not, filter}
use Rattle.std.specs.List.{list_any}
use Rattle.std.specs.Str.{bytes_eq}
use Rattle.std.proofs.lemmas.List.Folds.{list_any_more}
use Rattle.std.proofs.lemmas.Slice.Eq.{bytes_eq-Decides}
use Rattle.arz_json.specs.declared.tree.Location.{Location}
use Rattle.arz_json.specs.declared.tree.Location.TheVariants.{Path, Query, Header, Cookie}
use Rattle.arz_expr.specs.declared.template.Given.{Given}
use Rattle.arz_operation.specs.Named.{is_same}
use Rattle.arz_description.specs.Requests.{is_same_parameter}
use Rattle.arz_openapi.specs.Names.{taken_in}
use Rattle.arz_openapi.specs.declared.joined.Names.{Names}
use Rattle.arz_runs.specs.Joining.{is_at, has_at, others_than}

-- ---- one name more

or_flip : (a b : Bool) → (a || b) ≡ (b || a)
or_flip true true = refl
or_flip true false = refl
or_flip false true = refl
or_flip false false = refl

one_more : (test : Given → Bool) (gs : List Given) (i : ℕ) (g : Given) (old new : Bool) → i < length gs → g ≡ get_or gs i g
    → old ≡ list_any test (take i gs) → new ≡ (test g || old) → new ≡ list_any test (take (i + 1) gs)
one_more test gs i g old new h is before now =
    now ∙ or_flip (test g) old ∙ ap (λ b. b || test g) before ∙ ap (λ x. list_any test (take i gs) || test x) is
    ∙ sym (list_any_more test gs i g h)

pub name_put : (old new : Names) (gs : List Given) (i : ℕ) (g : Given) (name : List ℕ) → i < length gs → g ≡ get_or gs i g → name ≡ g.name
    → ((q : List ℕ) → taken_in new Path q ≡ ((is_same g.place Path && bytes_eq name q) || taken_in old Path q))
    → ((q : List ℕ) → taken_in new Query q ≡ ((is_same g.place Query && bytes_eq name q) || taken_in old Query q))
    → ((q : List ℕ) → taken_in new Header q ≡ ((is_same g.place Header && bytes_eq name q) || taken_in old Header q))
    → ((q : List ℕ) → taken_in new Cookie q ≡ ((is_same g.place Cookie && bytes_eq name q) || taken_in old Cookie q))
    → ((place : Location) (q : List ℕ) → taken_in old place q ≡ has_at (take i gs) place q)
    → (place : Location) (q : List ℕ) → taken_in new place q ≡ has_at (take (i + 1) gs) place q
name_put old new gs i g name h at is path query header cookie before = by_place
  where
    by_place : (place : Location) (q : List ℕ) → taken_in new place q ≡ has_at (take (i + 1) gs) place q
    by_place Path q = one_more (is_at Path q) gs i g _ _ h at (before Path q) (path q ∙ ap (λ n. (is_same g.place Path && bytes_eq n q) || taken_in old Path q) is)
    by_place Query q = one_more (is_at Query q) gs i g _ _ h at (before Query q) (query q ∙ ap (λ n. (is_same g.place Query && bytes_eq n q) || taken_in old Query q) is)
    by_place Header q = one_more (is_at Header q) gs i g _ _ h at (before Header q) (header q ∙ ap (λ n. (is_same g.place Header && bytes_eq n q) || taken_in old Header q) is)
    by_place Cookie q = one_more (is_at Cookie q) gs i g _ _ h at (before Cookie q) (cookie q ∙ ap (λ n. (is_same g.place Cookie && bytes_eq n q) || taken_in old Cookie q) is)

-- ---- the names that none of them has

same_flip : (p q : Location) → is_same p q ≡ is_same q p
same_flip Path Path = refl
same_flip Path Query = refl
same_flip Path Header = refl
same_flip Path Cookie = refl
same_flip Query Path = refl
same_flip Query Query = refl
same_flip Query Header = refl
same_flip Query Cookie = refl
same_flip Header Path = refl
same_flip Header Query = refl
same_flip Header Header = refl
same_flip Header Cookie = refl
same_flip Cookie Path = refl
same_flip Cookie Query = refl
same_flip Cookie Header = refl
same_flip Cookie Cookie = refl

eq_flip : (a b : List ℕ) → bytes_eq a b ≡ bytes_eq b a
eq_flip a b = both (bytes_eq a b) (bytes_eq b a) refl refl
  where
    both : (x y : Bool) → bytes_eq a b ≡ x → bytes_eq b a ≡ y → x ≡ y
    both true true e f = refl
    both false false e f = refl
    both true false e f = let same : bytes_eq b a ≡ true = (bytes_eq-Decides b a).1 (sym ((bytes_eq-Decides a b).0 e)) in sym same ∙ f
    both false true e f = let same : bytes_eq a b ≡ true = (bytes_eq-Decides a b).1 (sym ((bytes_eq-Decides b a).0 f)) in sym e ∙ same

-- the set tells which parameters the others than these are
pub as_named : (taken : Location → List ℕ → Bool) (own others : List Given) → ((place : Location) (q : List ℕ) → taken place q ≡ has_at own place q)
    → filter (λ g. not (taken g.place g.name)) others ≡ others_than own others
as_named taken own others h = λ k. filter (λ g. not (same g k)) others
  where
    one : (g x : Given) → is_at g.place g.name x ≡ is_same_parameter g x
    one g x = ap₂ (λ a b. a && b) (same_flip x.place g.place) (eq_flip x.name g.name)

    same : (g : Given) → taken g.place g.name ≡ list_any (is_same_parameter g) own
    same g = h g.place g.name ∙ (λ k. list_any (λ x. one g x k) own)
