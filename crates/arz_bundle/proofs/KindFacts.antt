-- What a tree has that meets its kind.
use Rattle.std.proofs.Common.{◌≡◌, ℕ, zero, suc, ◌<◌, Bool, true, false, ◌&&◌, ◌||◌, List, [], ◌∷◌, ◌++◌, length, map, get_or, cond, Option, Some, None, refl, sym, ap, subst, ◌∙◌, arith, rules}
use Rattle.std.specs.Prelude.{option_map}
use Rattle.std.specs.Str.{bytes_eq}
use Rattle.std.proofs.lemmas.Slice.Eq.{bytes_eq-Decides}
use Rattle.arz_json.specs.Look.{list_step, object_step}
use Rattle.arz_json.specs.Pointer.{member_named}
use Rattle.arz_json.specs.Tree.{has_opaque, some_true}
use Rattle.arz_json.specs.declared.Json.{Json}
use Rattle.arz_json.specs.declared.Json.TheVariants as json
use Rattle.arz_json.specs.declared.tree.Json.{the_lemmas}
use Rattle.arz_json.specs.declared.tree.Json.TheOpen.{Json-F}
use Rattle.arz_json.specs.declared.Member.{Member}
use Rattle.arz_json.specs.declared.Token.{Token}
use Rattle.arz_json.specs.declared.Token.TheVariants.{Name, Index}
use Rattle.arz_json.proofs.Induction.{Each, EachValue, induction}
use Rattle.arz_json.proofs.Layers.{folded-List, folded-Object, has_opaque_object}
use Rattle.arz_rules.specs.declared.kinds.Kind.{Kind}
use Rattle.arz_rules.specs.declared.forms.Others.{Others}
use Rattle.arz_rules.specs.declared.forms.Others.TheVariants.{Are}
use Rattle.arz_rules.specs.declared.forms.Size.{Size}
use Rattle.arz_rules.specs.Misses.{Misses, misses, level_misses, level_of, level_in, chosen, shape_misses, named_misses, object_misses, member_misses, is_complete, has_name, kind_named, list_misses, item_misses, has_size}
use Rattle.arz_rules.specs.Kinds.{form_of}
use Rattle.arz_rules.specs.Phases.{Rule, first_failure, failure_or, Failure, refusal}
use Rattle.arz_rules.specs.Place.{here_unless, under, least, lesser, tokens_cmp}
use Rattle.arz_rules.specs.Shapes.{Row}
use Rattle.arz_rules.proofs.Levels.{misses_level}
use Rattle.arz_rules.proofs.Places.{least-append}
use Rattle.std.specs.Ordering.{is_gt}
use Rattle.arz_bundle.specs.Phases.{told}

pub left : (a b : Bool) → (a && b) ≡ true → a ≡ true
left true b p = refl
left false b p = p

pub right : (a b : Bool) → (a && b) ≡ true → b ≡ true
right true b p = p
right false b p = absurd (cc)

pub none-left : {A : Type 0} (xs ys : List A) → (xs ++ ys) ≡ [] → xs ≡ []
none-left [] ys e = refl
none-left (x ∷ xs) ys e = absurd (cc)

pub none-right : {A : Type 0} (xs ys : List A) → (xs ++ ys) ≡ [] → ys ≡ []
none-right [] ys e = e
none-right (x ∷ xs) ys e = absurd (cc)

pub none-under : (t : Token) (ps : List (List Token)) → under t ps ≡ [] → ps ≡ []
none-under t [] e = refl
none-under t (p ∷ ps) e = absurd (cc)

pub fits : (b : Bool) → here_unless b ≡ [] → b ≡ true
fits true e = refl
fits false e = absurd (cc)

-- ---- rules that pass

some-lesser : (p q : List Token) (b : Bool) → cond b (Some q) (Some p) ≡ None → ⊥
some-lesser p q true e = absurd (cc)
some-lesser p q false e = absurd (cc)

pub no-lesser : (p : List Token) (o : Option (List Token)) → lesser (Some p) o ≡ None → ⊥
no-lesser p None e = absurd (cc)
no-lesser p (Some q) e = some-lesser p q (is_gt (tokens_cmp p q)) e

none-least : (ps : List (List Token)) → least ps ≡ None → ps ≡ []
none-least [] e = refl
none-least (p ∷ ps) e = absurd (no-lesser p (least ps) e)

passed-by : (n : ℕ) (o : Option (List Token)) (later : Option Failure) → failure_or n o later ≡ None → (o ≡ None) × (later ≡ None)
passed-by n None later e = (refl, e)
passed-by n (Some p) later e = absurd (cc)

-- where no rule of a row fails, the first has no place, and none of the others fails
pub passed : (r : Rule) (rules : List Rule) → first_failure (r ∷ rules) ≡ None → (r.1 ≡ []) × (first_failure rules ≡ None)
passed r rules e =
    let by = passed-by r.0 (least r.1) (first_failure rules) e in
    (none-least r.1 by.0, by.1)

-- a phase of one document that tells nothing
no-refusal : (label : List ℕ) (o : Option Failure) → option_map (refusal label) o ≡ None → o ≡ None
no-refusal label None e = refl
no-refusal label (Some f) e = absurd (cc)

pub none-told : (label : List ℕ) (rules : List Rule) → told label rules ≡ None → first_failure rules ≡ None
none-told label rules e = no-refusal label (first_failure rules) e

-- the least place of three parts
pub three-least : (ps qs rs : List (List Token)) (p q r : Option (List Token)) → p ≡ least ps → q ≡ least qs → r ≡ least rs → lesser (lesser p q) r ≡ least (ps ++ qs ++ rs)
three-least ps qs rs p q r e f g =
    ap (λ x. lesser (lesser x q) r) e ∙ ap (λ x. lesser (lesser (least ps) x) r) f ∙ ap (lesser (lesser (least ps) (least qs))) g
    ∙ ap (λ x. lesser x (least rs)) (sym (least-append ps qs)) ∙ sym (least-append (ps ++ qs) rs)

-- ---- one level

pub level : (j : Json) (kind : Kind) → misses j kind ≡ [] → shape_misses (form_of (chosen kind (level_of j))) (level_of j) ≡ []
level j kind e = sym (ap (λ (f : Misses). f kind) (misses_level j)) ∙ e

-- what the members of an object that meets these rows are
pub record HasRows (rows : List Row) (others : Others) (o : Option (List Member)) : Type 0 where
  pub members : List Member
  pub are : o ≡ Some members
  pub complete : is_complete rows (named_misses members) ≡ true
  pub met : member_misses rows others (named_misses members) ≡ []

module _ (rows : List Row) (others : Others) where
  pub rows-of : (x : Json-F Json Member) → object_misses rows others (level_in x) ≡ [] → HasRows rows others (object_step x)
  rows-of (Json-F.Object ms) e = record {
    members = ms;
    are = refl;
    complete = fits (is_complete rows (named_misses ms)) (none-left (here_unless (is_complete rows (named_misses ms))) (member_misses rows others (named_misses ms)) e);
    met = none-right (here_unless (is_complete rows (named_misses ms))) (member_misses rows others (named_misses ms)) e;
  }
  rows-of Json-F.Null e = absurd (cc)
  rows-of (Json-F.Flag b) e = absurd (cc)
  rows-of (Json-F.Int z) e = absurd (cc)
  rows-of (Json-F.Text s) e = absurd (cc)
  rows-of (Json-F.List js) e = absurd (cc)
  rows-of Json-F.Opaque e = absurd (cc)

  abbrev Meets : List ℕ → Json → Type 0
  Meets name v = misses v (kind_named rows others name) ≡ []

  met-by : (b : Bool) (m : Member) (ms : List Member) (name : List ℕ) (v : Json) → bytes_eq m.name name ≡ b → Meets m.name m.value
      → cond b (Some m.value) (member_named ms name) ≡ Some v → (member_named ms name ≡ Some v → Meets name v) → Meets name v
  met-by true m ms name v same here e more =
      let is : m.value ≡ v = cc in
      subst (λ n. Meets n v) ((bytes_eq-Decides m.name name).0 same) (subst (λ w. Meets m.name w) is here)
  met-by false m ms name v same here e more = more e

  -- a member of the object meets the kind of its row
  pub member-met : (ms : List Member) (name : List ℕ) (v : Json) → member_misses rows others (named_misses ms) ≡ [] → member_named ms name ≡ Some v → Meets name v
  member-met [] name v met e = absurd (cc)
  member-met (m ∷ ms) name v met e =
      let first = under (Name m.name) (misses m.value (kind_named rows others m.name)) in
      let rest = member_misses rows others (named_misses ms) in
      met-by (bytes_eq m.name name) m ms name v refl (none-under (Name m.name) (misses m.value (kind_named rows others m.name)) (none-left first rest met)) e
      (λ later. member-met ms name v (none-right first rest met) later)

there-by : (b : Bool) (v : Json) (o : Option Json) (has : Bool) → (b || has) ≡ true → (has ≡ true → (w : Json) × (o ≡ Some w)) → (w : Json) × (cond b (Some v) o ≡ Some w)
there-by true v o has e more = (v, refl)
there-by false v o has e more = more e

-- a member with that name is there
pub named-there : (ms : List Member) (name : List ℕ) → has_name (named_misses ms) name ≡ true → (v : Json) × (member_named ms name ≡ Some v)
named-there [] name e = absurd (cc)
named-there (m ∷ ms) name e = there-by (bytes_eq m.name name) m.value (member_named ms name) (has_name (named_misses ms) name) e (named-there ms name)

-- what the items of a list that meets its kind are
pub record HasItems (size : Size) (kind : Kind) (o : Option (List Json)) : Type 0 where
  pub items : List Json
  pub are : o ≡ Some items
  pub sized : has_size size (map misses items) ≡ true
  pub met : item_misses kind 0 (map misses items) ≡ []

pub items-of : (size : Size) (kind : Kind) (x : Json-F Json Member) → list_misses size kind (level_in x) ≡ [] → HasItems size kind (list_step x)
items-of size kind (Json-F.List js) e = record {
  items = js;
  are = refl;
  sized = fits (has_size size (map misses js)) (none-left (here_unless (has_size size (map misses js))) (item_misses kind 0 (map misses js)) e);
  met = none-right (here_unless (has_size size (map misses js))) (item_misses kind 0 (map misses js)) e;
}
items-of size kind Json-F.Null e = absurd (cc)
items-of size kind (Json-F.Flag b) e = absurd (cc)
items-of size kind (Json-F.Int z) e = absurd (cc)
items-of size kind (Json-F.Text s) e = absurd (cc)
items-of size kind (Json-F.Object ms) e = absurd (cc)
items-of size kind Json-F.Opaque e = absurd (cc)

pub item-met : (kind : Kind) (n : ℕ) (js : List Json) (i : ℕ) (d : Json) → item_misses kind n (map misses js) ≡ [] → i < length js → misses (get_or js i d) kind ≡ []
item-met kind n [] i d met lt = absurd (omega arith)
item-met kind n (j ∷ js) zero d met lt =
    none-under (Index n) (misses j kind) (none-left (under (Index n) (misses j kind)) (item_misses kind (suc n) (map misses js)) met)
item-met kind n (j ∷ js) (suc i) d met lt =
    item-met kind (suc n) js i d (none-right (under (Index n) (misses j kind)) (item_misses kind (suc n) (map misses js)) met) (omega arith)

-- ---- values in which no number is kept without its value

abbrev IsFree : Json → Type 0
IsFree j = misses j Kind.Solid ≡ [] → has_opaque j ≡ false

items-free : (js : List Json) (n : ℕ) → Each IsFree js → item_misses Kind.Solid n (map misses js) ≡ [] → some_true (map has_opaque js) ≡ false
items-free [] n h e = refl
items-free (j ∷ js) n h e =
    let first = under (Index n) (misses j Kind.Solid) in
    let rest = item_misses Kind.Solid (suc n) (map misses js) in
    let no = h.0 (none-under (Index n) (misses j Kind.Solid) (none-left first rest e)) in
    let nor = items-free js (suc n) h.1 (none-right first rest e) in
    rw (no, nor) refl

members-free : (ms : List Member) → EachValue IsFree ms → member_misses [] (Are Kind.Solid) (named_misses ms) ≡ [] → some_true (map (λ m. has_opaque m.value) ms) ≡ false
members-free [] h e = refl
members-free (m ∷ ms) h e =
    let first = under (Name m.name) (misses m.value Kind.Solid) in
    let rest = member_misses [] (Are Kind.Solid) (named_misses ms) in
    let no = h.0 (none-under (Name m.name) (misses m.value Kind.Solid) (none-left first rest e)) in
    let nor = members-free ms h.1 (none-right first rest e) in
    rw (no, nor) refl

list-level : (js : List Json) → misses (json.List js) Kind.Solid ≡ item_misses Kind.Solid 0 (map misses js)
list-level js = ap (λ (f : Misses). f Kind.Solid) (folded-List Misses level_misses js)

object-level : (ms : List Member) → misses (json.Object ms) Kind.Solid ≡ member_misses [] (Are Kind.Solid) (named_misses ms)
object-level ms = ap (λ (f : Misses). f Kind.Solid) (folded-Object Misses level_misses ms)

has_opaque_list : (js : List Json) → has_opaque (json.List js) ≡ some_true (map has_opaque js)
has_opaque_list js = folded-List Bool _ js

pub free : (j : Json) → IsFree j
free = induction IsFree (record {
  null = λ e. search (rules, the_lemmas);
  flag = λ b e. search (rules, the_lemmas);
  int = λ z e. search (rules, the_lemmas);
  text = λ s e. search (rules, the_lemmas);
  list = λ js h e. has_opaque_list js ∙ items-free js 0 h (sym (list-level js) ∙ e);
  object = λ ms h e. has_opaque_object ms ∙ members-free ms h (sym (object-level ms) ∙ e);
  opaque = λ e. absurd (search (rules, the_lemmas, misses_level));
})
