-- One path, one operation, one parameter more.
use Rattle.std.proofs.Common.{◌≡◌, ℕ, ◌+◌, ◌<◌, List, [], ◌∷◌, ◌++◌, map, length, get_or, drop, Option, Bool, cond, ◌&&◌, ◌||◌, sym, ap, ap₂, ◌∙◌, append_assoc}
use Rattle.std.specs.Str.{bytes_eq}
use Rattle.arz_json.specs.declared.tree.Json.{Json}
use Rattle.arz_json.specs.declared.tree.Member.{Member}
use Rattle.arz_json.specs.declared.tree.Location.{Location}
use Rattle.arz_json.specs.declared.tree.Location.TheVariants.{Path, Query, Header, Cookie}
use Rattle.arz_json.specs.declared.place.Token.{Token}
use Rattle.arz_rules.specs.Place.{least, lesser}
use Rattle.arz_rules.specs.Sets.{has}
use Rattle.arz_rules.proofs.Steps.{one_part, rest_of}
use Rattle.arz_operation.specs.declared.types.Described.{Described}
use Rattle.arz_operation.specs.Named.{Taken, is_same, taking as taking_name, taking_all, untaken, id_of}
use Rattle.arz_openapi.specs.Rules.{behind_member, behind_members, told, is_taken, taking, repeated}
use Rattle.arz_openapi.specs.Sites.{seen}
use Rattle.arz_openapi.specs.Names.{taken_in}
use Rattle.arz_openapi.specs.declared.sites.Site.{Site}
use Rattle.arz_openapi.specs.declared.joined.Names.{Names}

pub paths_step : (root : Json) (total best next found : Option (List Token)) (ms : List Member) (i : ℕ) (m : Member)
    → total ≡ lesser best (least (behind_members root (drop i ms)))
    → i < length ms → m ≡ get_or ms i m → found ≡ least (behind_member root m) → next ≡ lesser best found
    → total ≡ lesser next (least (behind_members root (drop (i + 1) ms)))
paths_step root total best next found ms i m inv h is f n =
    inv ∙ ap (λ (rest : List Member). lesser best (least (behind_members root rest))) (rest_of ms i m h is)
    ∙ one_part best (behind_member root m) _
    ∙ ap (λ (o : Option (List Token)). lesser o (least (behind_members root (drop (i + 1) ms)))) (ap (lesser best) (sym f) ∙ sym n)

pub repeat_step : (total best next found : Option (List Token)) (taken after : List ℕ → Bool) (sites : List Site) (i : ℕ) (s : Site) (b : Bool)
    → total ≡ lesser best (least (repeated taken (map seen (drop i sites))))
    → i < length sites → s ≡ get_or sites i s → b ≡ is_taken taken (id_of (seen s)) → found ≡ least (cond b (told (seen s) ∷ []) []) → next ≡ lesser best found
    → ((q : List ℕ) → after q ≡ taking (id_of (seen s)) taken q)
    → total ≡ lesser next (least (repeated after (map seen (drop (i + 1) sites))))
repeat_step total best next found taken after sites i s b inv h is was f n now =
    let funs : after ≡ taking (id_of (seen s)) taken = λ k q. now q k in
    inv ∙ ap (λ (rest : List Site). lesser best (least (repeated taken (map seen rest)))) (rest_of sites i s h is)
    ∙ one_part best (cond (is_taken taken (id_of (seen s))) (told (seen s) ∷ []) []) _
    ∙ ap (λ (o : Option (List Token)). lesser o (least (repeated (taking (id_of (seen s)) taken) (map seen (drop (i + 1) sites)))))
    (ap (lesser best) (ap (λ c. least (cond c (told (seen s) ∷ []) [])) (sym was) ∙ sym f) ∙ sym n)
    ∙ ap (λ (t : List ℕ → Bool). lesser next (least (repeated t (map seen (drop (i + 1) sites))))) (sym funs)

-- ---- parameters

pub one_taken : (old new : Names) (d : Described) (name : List ℕ) → name ≡ d.name
    → ((q : List ℕ) → has new.path q ≡ ((is_same d.place Path && bytes_eq name q) || has old.path q))
    → ((q : List ℕ) → has new.query q ≡ ((is_same d.place Query && bytes_eq name q) || has old.query q))
    → ((q : List ℕ) → has new.header q ≡ ((is_same d.place Header && bytes_eq name q) || has old.header q))
    → ((q : List ℕ) → has new.cookie q ≡ ((is_same d.place Cookie && bytes_eq name q) || has old.cookie q))
    → taken_in new ≡ taking_name d (taken_in old)
one_taken old new d name is path query header cookie = λ i place q. at place q i
  where
    at : (place : Location) (q : List ℕ) → taken_in new place q ≡ taking_name d (taken_in old) place q
    at Path q = path q ∙ ap (λ n. (is_same d.place Path && bytes_eq n q) || has old.path q) is
    at Query q = query q ∙ ap (λ n. (is_same d.place Query && bytes_eq n q) || has old.query q) is
    at Header q = header q ∙ ap (λ n. (is_same d.place Header && bytes_eq n q) || has old.header q) is
    at Cookie q = cookie q ∙ ap (λ n. (is_same d.place Cookie && bytes_eq n q) || has old.cookie q) is

pub taken_step : (whole : Taken) (taken after : Taken) (ds : List Described) (i : ℕ) (d : Described) → i < length ds → d ≡ get_or ds i d
    → taking_all (drop i ds) taken ≡ whole → after ≡ taking_name d taken → taking_all (drop (i + 1) ds) after ≡ whole
taken_step whole taken after ds i d h is before now =
    ap (taking_all (drop (i + 1) ds)) now ∙ sym (ap (λ (rest : List Described). taking_all rest taken) (rest_of ds i d h is)) ∙ before

pub kept_step : (whole out new : List Described) (taken after : Taken) (ds : List Described) (i : ℕ) (d : Described) (b : Bool) → i < length ds → d ≡ get_or ds i d
    → out ++ untaken taken (drop i ds) ≡ whole → b ≡ taken d.place d.name → after ≡ taking_name d taken → new ≡ out ++ cond b [] (d ∷ [])
    → new ++ untaken after (drop (i + 1) ds) ≡ whole
kept_step whole out new taken after ds i d b h is before was now pushed =
    ap₂ (λ (xs : List Described) (t : Taken). xs ++ untaken t (drop (i + 1) ds)) (pushed ∙ ap (λ c. out ++ cond c [] (d ∷ [])) was) now
    ∙ append_assoc out (cond (taken d.place d.name) [] (d ∷ [])) (untaken (taking_name d taken) (drop (i + 1) ds))
    ∙ sym (ap (λ (rest : List Described). out ++ untaken taken rest) (rest_of ds i d h is)) ∙ before
