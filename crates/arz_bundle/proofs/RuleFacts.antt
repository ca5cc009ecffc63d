-- What the replies have that pass their rules.
use Rattle.std.proofs.Common.{◌≡◌, ℕ, zero, suc, ◌<◌, ◌≤◌, Bool, true, false, ◌&&◌, List, [], ◌∷◌, length, get_or, cond, Option, Some, None, codes, refl, ap, subst, ◌∙◌, arith}
use Rattle.std.specs.Prelude.{ℤ, pos, negsuc, nat_le, option_and_then, unwrap_or}
use Rattle.std.proofs.lemmas.Bool.{leb-true}
use Rattle.arz_json.specs.Look.{int_in, int_step, list_in, object_step, member_in}
use Rattle.arz_json.specs.Pointer.{member_named}
use Rattle.arz_json.specs.declared.Json.{Json}
use Rattle.arz_json.specs.declared.tree.Json.{out-Json}
use Rattle.arz_json.specs.declared.tree.Json.TheOpen.{Json-F}
use Rattle.arz_json.specs.declared.Member.{Member}
use Rattle.arz_json.specs.declared.Token.TheVariants.{Name, Index}
use Rattle.arz_rules.specs.declared.kinds.Kind.{Kind}
use Rattle.arz_rules.specs.declared.forms.Others.TheVariants.{Are}
use Rattle.arz_rules.specs.declared.forms.Size.TheVariants.{Any}
use Rattle.arz_rules.specs.Kinds.{form_of}
use Rattle.arz_rules.specs.Misses.{misses, level_in, chosen, shape_misses, object_misses, named_misses, has_kind, has_name, is_complete, is_between}
use Rattle.arz_rules.specs.Phases.{Rule}
use Rattle.arz_rules.specs.Place.{here_unless, under}
use Rattle.arz_rules.specs.Shapes.{Row, must, may}
use Rattle.arz_rules.specs.Sites.{member, each_item, at, in_items, in_member}
use Rattle.arz_bundle.specs.FileRules.{fractions, replies_rules}
use Rattle.arz_bundle.specs.Phases.{replies_told}
use Rattle.arz_bundle.proofs.KindFacts.{left, right, none-left, none-right, none-under, none-told, fits, passed, level, rows-of, member-met, named-there, items-of, item-met}

-- ---- replies

abbrev pub Status : Option ℤ → Type 0
Status o = (n : ℕ) × (o ≡ Some (pos n)) × (200 ≤ n) × (n ≤ 599)

status-at : (x : Json-F Json Member) → here_unless (is_between 200 599 (level_in x)) ≡ [] → Status (int_step x)
status-at (Json-F.Int (pos n)) e =
    let within = fits (nat_le 200 n && nat_le n 599) e in
    (n, refl, leb-true 200 n (left (nat_le 200 n) (nat_le n 599) within), leb-true n 599 (right (nat_le 200 n) (nat_le n 599) within))
status-at (Json-F.Int (negsuc n)) e = absurd (cc)
status-at Json-F.Null e = absurd (cc)
status-at (Json-F.Flag b) e = absurd (cc)
status-at (Json-F.Text s) e = absurd (cc)
status-at (Json-F.List js) e = absurd (cc)
status-at (Json-F.Object ms) e = absurd (cc)
status-at Json-F.Opaque e = absurd (cc)

status-met : (v : Json) → misses v Kind.Status ≡ [] → Status (int_in v)
status-met v e = status-at (out-Json v) (level v Kind.Status e)

-- the members of an object with a status
pub record HasReply (o : Option (List Member)) : Type 0 where
  pub members : List Member
  pub are : o ≡ Some members
  pub value : Json
  pub named : member_named members (codes "status") ≡ Some value
  pub status : Status (int_in value)

with-status : (more : List Row) (x : Json-F Json Member) → object_misses (must (codes "status") Kind.Status ∷ more) (Are Kind.Nothing) (level_in x) ≡ [] → HasReply (object_step x)
with-status more x e =
    let rows : List Row = must (codes "status") Kind.Status ∷ more in
    let has = rows-of rows (Are Kind.Nothing) x e in
    let there = named-there has.members (codes "status") (left (has_name (named_misses has.members) (codes "status")) (is_complete more (named_misses has.members)) has.complete) in
    record {
      members = has.members;
      are = has.are;
      value = there.0;
      named = there.1;
      status = status-met there.0 (member-met rows (Are Kind.Nothing) has.members (codes "status") there.0 has.met there.1);
    }

reply-by : (b : Bool) (x : Json-F Json Member) → shape_misses (form_of (cond b Kind.BodyReply Kind.TextReply)) (level_in x) ≡ [] → HasReply (object_step x)
reply-by true x e = with-status (may (codes "headers") Kind.Headers ∷ may (codes "body") Kind.Anything ∷ []) x e
reply-by false x e = with-status (may (codes "headers") Kind.Headers ∷ may (codes "text") Kind.Text ∷ []) x e

reply-at : (x : Json-F Json Member) → shape_misses (form_of (chosen Kind.Reply (level_in x))) (level_in x) ≡ [] → HasReply (object_step x)
reply-at (Json-F.Object ms) e = reply-by (has_kind (named_misses ms) (codes "body") Kind.Anything) (Json-F.Object ms) e
reply-at Json-F.Null e = reply-by false Json-F.Null e
reply-at (Json-F.Flag b) e = reply-by false (Json-F.Flag b) e
reply-at (Json-F.Int z) e = reply-by false (Json-F.Int z) e
reply-at (Json-F.Text s) e = reply-by false (Json-F.Text s) e
reply-at (Json-F.List js) e = reply-by false (Json-F.List js) e
reply-at Json-F.Opaque e = reply-by false Json-F.Opaque e

-- the status of a reply is an integer from 200 to 599
pub reply-status : (reply : Json) → misses reply Kind.Reply ≡ [] → Status (option_and_then int_in (member_in (codes "status") reply))
reply-status reply e =
    let has = reply-at (out-Json reply) (level reply Kind.Reply e) in
    let value = ap (option_and_then (λ ms. member_named ms (codes "status"))) has.are ∙ has.named in
    (has.status.0, ap (option_and_then int_in) value ∙ has.status.1, has.status.2, has.status.3)

-- no number without its value stands in the body of a reply
body-in : (n : ℕ) (js : List Json) (i : ℕ) (d body : Json) → in_items (at (member (codes "body") ∷ []) fractions) n js ≡ [] → i < length js
    → member_in (codes "body") (get_or js i d) ≡ Some body → misses body Kind.Solid ≡ []
body-in n [] i d body none lt is = absurd (omega arith)
body-in n (j ∷ js) zero d body none lt is =
    let here = none-under (Index n) (at (member (codes "body") ∷ []) fractions j) (none-left (under (Index n) (at (member (codes "body") ∷ []) fractions j)) _ none) in
    none-under (Name (codes "body")) (misses body Kind.Solid) (subst (λ o. in_member fractions (codes "body") o ≡ []) is here)
body-in n (j ∷ js) (suc i) d body none lt is =
    body-in (suc n) js i d body (none-right (under (Index n) (at (member (codes "body") ∷ []) fractions j)) _ none) (omega arith) is

-- what the items of a file of replies have
pub record HasReplies (replies : Json) : Type 0 where
  pub items : List Json
  pub are : list_in replies ≡ Some items
  pub met : (i : ℕ) (d : Json) → i < length items → misses (get_or items i d) Kind.Reply ≡ []
  pub plain : (i : ℕ) (d body : Json) → i < length items → member_in (codes "body") (get_or items i d) ≡ Some body → misses body Kind.Solid ≡ []

pub has-replies : (replies : Json) → replies_told replies ≡ None → HasReplies replies
has-replies replies none =
    let e = none-told (codes "replies") (replies_rules replies) none in
    let bodies : Rule = (12, at (each_item ∷ member (codes "body") ∷ []) fractions replies) in
    let first = passed (3, misses replies Kind.Replies) (bodies ∷ []) e in
    let second = passed bodies [] first.1 in
    let has = items-of Any Kind.Reply (out-Json replies) (level replies Kind.Replies first.0) in
    record {
      items = has.items;
      are = has.are;
      met = λ i d lt. item-met Kind.Reply 0 has.items i d has.met lt;
      plain = λ i d body lt is. body-in 0 has.items i d body (subst (λ js. in_items (at (member (codes "body") ∷ []) fractions) 0 js ≡ []) (ap (λ (o : Option (List Json)). unwrap_or o []) has.are) second.0) lt is;
    }
