-- ---- for private clauses: operations and path items in maps
use Rattle.std.specs.Prelude.{ℕ, List, Option, option_map}
use Rattle.std.specs.Cmp.Lexicographic.{slice_cmp}
use Rattle.std.specs.Ordering.{nat_cmp}
use Rattle.std.specs.BTreeMap.{BTreeMap, get_by}
use denote.Ref.{Bor}
use Rattle.arz_json.specs.declared.tree.Json.{Json}
use Rattle.arz_operation.specs.Named.{Standing}
use Rattle.arz_openapi.specs.declared.sites.Site.{Site}
use Rattle.arz_openapi.specs.Sites.{seen}

abbrev pub site_in_map : BTreeMap (Bor (List ℕ)) Site → List ℕ → Option Standing
site_in_map m q = option_map seen (get_by (λ k. slice_cmp nat_cmp q k.now) m)

abbrev pub item_in_map : BTreeMap (Bor (List ℕ)) (Bor Json) → List ℕ → Option Json
item_in_map m q = option_map (λ j. j.now) (get_by (λ k. slice_cmp nat_cmp q k.now) m)
