-- The bad texts of a tree, from those one level down, and one more item or member at a time.
use Rattle.std.proofs.Common.{◌≡◌, ℕ, suc, ◌+◌, ◌<◌, List, ◌∷◌, map, length, get_or, drop, add-one, Option, option_map, sym, ap, ap₂, ◌∙◌}
use Rattle.arz_json.specs.Tree.{member_step}
use Rattle.arz_json.specs.declared.tree.Json.{Json}
use Rattle.arz_json.specs.declared.tree.Json.TheOpen.{Json-F}
use Rattle.arz_json.specs.declared.tree.Json.TheFolds.{fold-roll-Json}
use Rattle.arz_json.specs.declared.tree.Json.TheVariants.{rolls-Object}
use Rattle.arz_json.specs.declared.tree.Json.TheViews.{out-Json, roll-Json, roll-out-Json}
use Rattle.arz_json.specs.declared.tree.Member.{Member}
use Rattle.arz_json.specs.declared.place.Token.{Token}
use Rattle.arz_json.specs.declared.place.Token.TheVariants.{Name, Index}
use Rattle.arz_json.proofs.Layers.{folded-Object}
use Rattle.arz_rules.specs.Place.{least, lesser}
use Rattle.arz_contents.specs.Contents.{Places, bad_texts, text_level, text_level_in, text_level_of, in_each_item, in_each_member, named_texts}
use Rattle.arz_sites.proofs.Parts.{rest_of, one_more}

texts_roll : (x : Json-F Json Member) → bad_texts (roll-Json x) ≡ text_level (text_level_in x)
texts_roll (Json-F.List js) = fold-roll-Json Places (List ℕ × Places) text_level member_step (Json-F.List js)
texts_roll (Json-F.Object ms) = ap bad_texts (rolls-Object ms) ∙ folded-Object Places text_level ms
texts_roll Json-F.Null = fold-roll-Json Places (List ℕ × Places) text_level member_step Json-F.Null
texts_roll (Json-F.Flag b) = fold-roll-Json Places (List ℕ × Places) text_level member_step (Json-F.Flag b)
texts_roll (Json-F.Int z) = fold-roll-Json Places (List ℕ × Places) text_level member_step (Json-F.Int z)
texts_roll (Json-F.Text s) = fold-roll-Json Places (List ℕ × Places) text_level member_step (Json-F.Text s)
texts_roll Json-F.Opaque = fold-roll-Json Places (List ℕ × Places) text_level member_step Json-F.Opaque

pub texts_level : (j : Json) → bad_texts j ≡ text_level (text_level_of j)
texts_level j = ap bad_texts (sym (roll-out-Json j)) ∙ texts_roll (out-Json j)

module _ (total best next found : Option (List Token)) where
  pub items_step : (js : List Json) (i : ℕ) (item : Json)
      → total ≡ lesser best (least (in_each_item i (map bad_texts (drop i js))))
      → i < length js → item ≡ get_or js i item
      → found ≡ least (bad_texts item) → next ≡ lesser best (option_map (λ q. Index i ∷ q) found)
      → total ≡ lesser next (least (in_each_item (i + 1) (map bad_texts (drop (i + 1) js))))
  items_step js i item inv h is f n =
      inv
      ∙ ap (λ (rest : List Json). lesser best (least (in_each_item i (map bad_texts rest)))) (rest_of js i item h is)
      ∙ one_more best (Index i) (bad_texts item) _
      ∙ ap (λ (o : Option (List Token)). lesser (lesser best (option_map (λ q. Index i ∷ q) o)) (least (in_each_item (suc i) (map bad_texts (drop (i + 1) js))))) (sym f)
      ∙ ap₂ (λ (o : Option (List Token)) (k : ℕ). lesser o (least (in_each_item k (map bad_texts (drop (i + 1) js))))) (sym n) (sym (add-one i))

  pub members_step : (ms : List Member) (i : ℕ) (m : Member)
      → total ≡ lesser best (least (in_each_member (named_texts (drop i ms))))
      → i < length ms → m ≡ get_or ms i m
      → found ≡ least (bad_texts m.value) → next ≡ lesser best (option_map (λ q. Name m.name ∷ q) found)
      → total ≡ lesser next (least (in_each_member (named_texts (drop (i + 1) ms))))
  members_step ms i m inv h is f n =
      inv
      ∙ ap (λ (more : List Member). lesser best (least (in_each_member (named_texts more)))) (rest_of ms i m h is)
      ∙ one_more best (Name m.name) (bad_texts m.value) _
      ∙ ap (λ (o : Option (List Token)). lesser (lesser best (option_map (λ q. Name m.name ∷ q) o)) (least (in_each_member (named_texts (drop (i + 1) ms))))) (sym f)
      ∙ ap (λ (o : Option (List Token)). lesser o (least (in_each_member (named_texts (drop (i + 1) ms))))) (sym n)
