-- What a run's shallow trees hold is shallow.
use Rattle.std.proofs.Common.{◌≡◌, ◌<◌, ◌^◌, pos, ℕ, suc, List, [], ◌∷◌, Bool, true, false, cond, Option, Some, None, option_and_then, unwrap_or, get_or, refl, sym, ◌∙◌, subst, arith, rules, option_map}
use Rattle.std.specs.Prelude.{nat_lt, All, IfSome}
use Rattle.std.specs.Borrow.{Bor}
use Rattle.std.specs.Option.{option_copied}
use Rattle.std.specs.Str.{is_utf8, bytes_eq}
use Rattle.std.proofs.lemmas.Bool.Decides.{nat_tests}
use Rattle.std.proofs.lemmas.Option.{option_and_then_some, slice_get-get_or, same_Some}
use Rattle.arz_json.specs.Pointer.{member_named}
use Rattle.arz_json.specs.Tree.{has_form, depth, IsWellFormed}
use Rattle.arz_json.specs.Look.{list_in, object_in, member_in}
use Rattle.arz_json.specs.declared.tree.Json.{Json, the_lemmas}
use Rattle.arz_json.specs.declared.tree.Json.TheVariants.{Int, Text, Object}
use Rattle.arz_json.specs.declared.tree.Member.{Member}
use Rattle.serde_json.specs.Data.{Data}
use Rattle.serde_json.specs.Read.{read}
use Rattle.arz_json.specs.Reading.{tree_of}
use Rattle.std.proofs.lemmas.Str.{IsUtf8-from_is_utf8}
use Rattle.arz_json.proofs.Forms.{IsWithin-Reads}
use Rattle.arz_json.proofs.Parts.{IsWithin-item, IsWithin-value, IsWithin-list_in, IsWithin-object_in, IsWithin-member_in}
use Rattle.arz_world.specs.declared.Reply.{Reply}
use Rattle.arz_scope.specs.Bodies.{Kind, AsJson, AsText, Unread, read_as, kind_of, is_empty, body_value}
use Rattle.arz_json.specs.Look.{items_at}
use Rattle.arz_scope.specs.Shallow.{IsShallow, AreShallow}

-- the items of a shallow list
items-in : (j : Json) (js : List Json) → list_in j ≡ Some js → IsShallow j → All IsShallow js
items-in j js e w = λ k d lt. IsWithin-item 127 js k (get_or js k d) (slice_get-get_or js k d lt) (IsWithin-list_in 127 j js e w)

items-of : (o : Option (List Json)) → ((js : List Json) → o ≡ Some js → All IsShallow js) → All IsShallow (unwrap_or o [])
items-of None h = λ k d lt. absurd (omega (arith, lt))
items-of (Some js) h = h js refl

-- the items under a name in a shallow tree
pub items-shallow : (name : List ℕ) (j : Json) → IsShallow j → All IsShallow (items_at name j)
items-shallow name j w =
    items-of (option_and_then list_in (member_in name j)) (λ js e.
    option_and_then_some list_in (member_in name j) js e (λ k found items. items-in k js items (IsWithin-member_in 127 name j k found w)))

pub Int-shallow : (n : ℕ) → n < 2 ^ 64 → IsShallow (Int (pos n))
Int-shallow n lt =
    let form : has_form (Int (pos n)) ≡ nat_lt n (2 ^ 64) = search (the_lemmas, rules) in
    let fits : nat_lt n (2 ^ 64) ≡ true = grind (arith, nat_tests) in
    let none : depth (Int (pos n)) ≡ 0 = search (the_lemmas, rules) in
    record { form = form ∙ fits; nests = omega (arith, none) }

pub Text-shallow : (s : List ℕ) → IsShallow (Text s)
Text-shallow s =
    let none : depth (Text s) ≡ 0 = search (the_lemmas, rules) in
    record { form = search (the_lemmas, rules); nests = omega (arith, none) }

-- what a search gave is shallow where all that it can find is
pub each-shallow : (r : Option (Bor Json)) (o : Option Json) → option_copied r ≡ o → ((k : Json) → o ≡ Some k → IsShallow k) → IfSome r (λ j. IsShallow j.now)
each-shallow None o e h = tt
each-shallow (Some b) o e h = h b.now (sym e)

pub member-found : (r : Option (Bor Json)) (name : List ℕ) (j : Json) → option_copied r ≡ member_in name j → IsShallow j → IfSome r (λ k. IsShallow k.now)
member-found r name j e w = each-shallow r (member_in name j) e (λ k f. IsWithin-member_in 127 name j k f w)

-- the value of a member
named-at : (b : Bool) (m : Member) (ms : List Member) (name : List ℕ) (k : Json) → cond b (Some m.value) (member_named ms name) ≡ Some k → IsShallow m.value → (member_named ms name ≡ Some k → IsShallow k) → IsShallow k
named-at true m ms name k e here more = subst IsShallow (same_Some m.value k e) here
named-at false m ms name k e here more = more e

named-shallow : (ms : List Member) (name : List ℕ) (k : Json) → member_named ms name ≡ Some k → AreShallow ms → IsShallow k
named-shallow [] name k e s = absurd (cc)
named-shallow (m ∷ ms) name k e s =
    named-at (bytes_eq m.name name) m ms name k e (s 0 m (omega arith)) (λ f. named-shallow ms name k f (λ i d lt. s (suc i) d (omega (arith, lt))))

pub value-found : (r : Option (Bor Json)) (ms : List Member) (name : List ℕ) → option_copied r ≡ member_named ms name → AreShallow ms → IfSome r (λ k. IsShallow k.now)
value-found r ms name e s = each-shallow r (member_named ms name) e (λ k f. named-shallow ms name k f s)

text-shallow : (bytes : List ℕ) (b : Bool) (k : Json) → cond b (Some (Text bytes)) None ≡ Some k → IsShallow k
text-shallow bytes true k e = subst IsShallow (same_Some (Text bytes) k e) (Text-shallow bytes)
text-shallow bytes false k e = absurd (cc)

read-shallow : (bytes : List ℕ) (k : Json) → cond (is_utf8 bytes) (option_map tree_of (read bytes)) None ≡ Some k → IsShallow k
read-shallow bytes k e = tested (is_utf8 bytes) refl e
  where
    parsed : is_utf8 bytes ≡ true → (o : Option Data) → read bytes ≡ o → option_map tree_of o ≡ Some k → IsShallow k
    parsed text None r e = absurd (cc)
    parsed text (Some d) r e = subst IsShallow (same_Some (tree_of d) k e) (IsWithin-Reads bytes (tree_of d) (IsUtf8-from_is_utf8 bytes text, d, r, refl))

    tested : (b : Bool) → is_utf8 bytes ≡ b → cond b (option_map tree_of (read bytes)) None ≡ Some k → IsShallow k
    tested true text e = parsed text (read bytes) refl e
    tested false text e = absurd (cc)

kind-shallow : (kind : Kind) (body : List ℕ) (k : Json) → read_as kind body ≡ Some k → IsShallow k
kind-shallow AsJson body k e = read-shallow body k e
kind-shallow AsText body k e = text-shallow body (is_utf8 body) k e
kind-shallow Unread body k e = absurd (cc)

filled-shallow : (b : Bool) (o : Option Json) (k : Json) → cond b None o ≡ Some k → (o ≡ Some k → IsShallow k) → IsShallow k
filled-shallow true o k e h = absurd (cc)
filled-shallow false o k e h = h e

-- the value of a body is shallow
pub body-shallow : (y : Reply) (k : Json) → body_value y ≡ Some k → IsShallow k
body-shallow y k e = filled-shallow (is_empty y.body) (read_as (kind_of y) y.body) k e (kind-shallow (kind_of y) y.body k)

-- the members under a name in a well-formed tree are well-formed
pub members-in : (name : List ℕ) (j : Json) → IsWellFormed j → (ms : List Member) → option_and_then object_in (member_in name j) ≡ Some ms → IsWellFormed (Object ms)
members-in name j w ms e =
    option_and_then_some object_in (member_in name j) ms e (λ k found opened. IsWithin-object_in 130 k ms opened (IsWithin-member_in 130 name j k found w))

-- the members of a shallow object are shallow
pub AreShallow-object : (ms : List Member) → IsShallow (Object ms) → AreShallow ms
AreShallow-object ms w = λ k d lt. IsWithin-value 127 ms k (get_or ms k d) (slice_get-get_or ms k d lt) w
