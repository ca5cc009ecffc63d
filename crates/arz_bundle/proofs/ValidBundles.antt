-- What comes of files that pass their rules: a valid bundle, and replies with their statuses.
use Rattle.std.proofs.Common.{◌≡◌, ℕ, true, List, [], map, get_or, Option, None, Some, All, codes, refl, arith, lt-ltb}
use Rattle.std.specs.Prelude.{nat_lt, unwrap_or}
use Rattle.std.specs.Option.{ForSome}
use Rattle.std.proofs.lemmas.List.Elements.{All-map}
use Rattle.std.proofs.lemmas.Option.{slice_get-get_or}
use Rattle.arz_json.specs.Look.{list_in, object_in, member_in}
use Rattle.arz_json.specs.Tree.{IsWithin, max_depth, form_step, depth_step}
use Rattle.arz_json.specs.declared.Json.{Json}
use Rattle.arz_json.specs.declared.Json.TheVariants as json
use Rattle.arz_json.specs.declared.Member.{Member}
use Rattle.arz_json.specs.declared.Named.{Named}
use Rattle.arz_json.proofs.Layers.{folded-Object}
use Rattle.arz_json.proofs.Parts.{IsWithin-more, IsWithin-list_in, IsWithin-object_in, IsWithin-member_in, IsWellFormed-item}
use Rattle.arz_cond.specs.Outcomes.{Patterned}
use Rattle.arz_flow.specs.Documents.{members_at}
use Rattle.arz_flow.specs.Valid.{IsValid}
use Rattle.arz_rules.specs.Misses.{misses}
use Rattle.arz_rules.specs.declared.kinds.Kind.TheVariants as Kind
use Rattle.arz_bundle.specs.Phases.{IsDescribed, replies_told}
use Rattle.arz_bundle.specs.Printable.{IsItem, IsPrintable}
use Rattle.arz_bundle.specs.Replies.{reply_of, HasStatus}
use Rattle.arz_bundle.specs.Setup.{bundle_of}
use Rattle.arz_bundle.proofs.KindFacts.{free}
use Rattle.arz_bundle.proofs.DescriptionFacts.{run-steps}
use Rattle.arz_bundle.proofs.RuleFacts.{reply-status, has-replies}

-- ---- the bundle

no-members : IsWithin 127 (json.Object [])
no-members = record { form = folded-Object _ form_step []; nests = omega (arith, folded-Object ℕ depth_step []) }

-- the members of a tree make an object that nests no deeper
members-of : (j : Json) (o : Option (List Member)) → object_in j ≡ o → IsWithin 127 j → IsWithin 127 (json.Object (unwrap_or o []))
members-of j None e w = no-members
members-of j (Some ms) e w = IsWithin-object_in 127 j ms e w

inputs-of : (setup : Json) (o : Option Json) → member_in (codes "inputs") setup ≡ o → IsWithin 127 setup → IsWithin 127 (json.Object (members_at (codes "inputs") setup))
inputs-of setup None e w = rw e no-members
inputs-of setup (Some j) e w = rw e (members-of j (object_in j) refl (IsWithin-member_in 127 (codes "inputs") setup j e w))

abbrev pub Nests : Named → Type 0
Nests s = IsWithin 127 s.root

pub valid-bundle : (patterned : Patterned) (setup d : Json) (sources : List Named) → IsDescribed patterned setup d None → IsWithin 127 setup → IsWithin 127 d → All Nests sources → IsValid (bundle_of setup d sources)
valid-bundle patterned setup d sources none setup-within d-within sources-within =
    let steps = run-steps patterned setup d none in
    record {
      some = steps.0;
      few = steps.1;
      criteria = steps.2;
      arazzo = d-within;
      inputs = inputs-of setup (member_in (codes "inputs") setup) refl setup-within;
      sources = sources-within;
    }

-- ---- the replies

-- the items of a list of replies
pub reply-items : (tree : Json) → replies_told tree ≡ None → IsWithin 127 tree → All IsItem (unwrap_or (list_in tree) [])
reply-items tree passes within =
    let has = has-replies tree passes in
    let whole = IsWithin-list_in max_depth tree has.items has.are (IsWithin-more 127 max_depth tree (omega arith) within) in
    let each : All IsItem has.items = λ k d lt. record {
      well_formed = IsWellFormed-item has.items k _ (slice_get-get_or has.items k d lt) whole;
      met = has.met k d lt;
      plain = λ body is. has.plain k d body lt is;
    } in
    rw has.are each

-- the body of an item has a compact text
pub body-printable : (item : Json) → IsItem item → ForSome (member_in (codes "body") item) IsPrintable
body-printable item is = λ body e. record {
  well_formed = IsWithin-member_in max_depth (codes "body") item body e is.well_formed;
  no_opaque = free body (is.plain body e);
}

has-status : (item : Json) → misses item Kind.Reply ≡ [] → HasStatus (reply_of item)
has-status item met =
    let s = reply-status item met in
    let small : nat_lt s.0 65536 ≡ true = lt-ltb s.0 65536 (omega (arith, s.3)) in
    record { least = rw (s.1, small) s.2; most = rw (s.1, small) s.3 }

pub statuses : (items : List Json) → All IsItem items → All HasStatus (map reply_of items)
statuses items each = All-map HasStatus reply_of items (λ k d lt. has-status (get_or items k d) (each k d lt).met)
