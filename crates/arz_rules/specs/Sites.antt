-- The sites of a document at which a rule looks, and the places at which it fails there.
use Rattle.std.specs.Prelude.{ℕ, suc, List, [], ◌∷◌, ◌++◌, map, Option, Some, None, option_and_then, unwrap_or}
use denote.Ref.{Bor}
use Rattle.arz_json.specs.declared.tree.Json.{Json}
use Rattle.arz_json.specs.declared.tree.Member.{Member}
use Rattle.arz_json.specs.Look.{text_in, list_in, object_in, member_in}
use Rattle.arz_json.specs.declared.place.Token.{Token}
use Rattle.arz_json.specs.declared.place.Token.TheVariants.{Name, Index}
use Rattle.arz_rules.specs.declared.sites.Way.{Way}
use Rattle.arz_rules.specs.Place.{under}

-- one step to a site: the member with a name, each item of a list, or each member's value
pub data Step : Type 0 where
  member : List ℕ → Step
  each_item : Step
  each_member : Step

-- the items of a list and the members of an object; another tree has none
abbrev pub items : Json → List Json
items j = unwrap_or (list_in j) []

abbrev pub members : Json → List Member
members j = unwrap_or (object_in j) []

-- the places, below a tree, at which a rule fails
abbrev pub Check : Type 0
Check = Json → List (List Token)

abbrev pub in_member : Check → List ℕ → Option Json → List (List Token)
in_member check name None = []
in_member check name (Some j) = under (Name name) (check j)

abbrev pub in_items : Check → ℕ → List Json → List (List Token)
in_items check i [] = []
in_items check i (j ∷ js) = under (Index i) (check j) ++ in_items check (suc i) js

abbrev pub in_members : Check → List Member → List (List Token)
in_members check [] = []
in_members check (m ∷ ms) = under (Name m.name) (check m.value) ++ in_members check ms

-- a check made at a site, at each tree that the steps lead to
abbrev pub at : List Step → Check → Check
at [] check j = check j
at (member name ∷ steps) check j = in_member (at steps check) name (member_in name j)
at (each_item ∷ steps) check j = in_items (at steps check) 0 (items j)
at (each_member ∷ steps) check j = in_members (at steps check) (members j)

abbrev pub at_each : List (List Step) → Check → Check
at_each [] check j = []
at_each (site ∷ sites) check j = at site check j ++ at_each sites check j

-- the sites with more steps after them, or before them
abbrev pub after : List Step → List (List Step) → List (List Step)
after steps sites = map (λ site. site ++ steps) sites

abbrev pub before : List Step → List (List Step) → List (List Step)
before steps sites = map (λ site. steps ++ site) sites

-- the trees that the steps lead to
abbrev pub all_items : (Json → List Json) → List Json → List Json
all_items f [] = []
all_items f (j ∷ js) = f j ++ all_items f js

abbrev pub all_members : (Json → List Json) → List Member → List Json
all_members f [] = []
all_members f (m ∷ ms) = f m.value ++ all_members f ms

abbrev pub if_there : (Json → List Json) → Option Json → List Json
if_there f None = []
if_there f (Some j) = f j

abbrev pub found : List Step → Json → List Json
found [] j = j ∷ []
found (member name ∷ steps) j = if_there (found steps) (member_in name j)
found (each_item ∷ steps) j = all_items (found steps) (items j)
found (each_member ∷ steps) j = all_members (found steps) (members j)

-- the text of the member with this name
abbrev pub text_named : List ℕ → Json → Option (List ℕ)
text_named name j = option_and_then text_in (member_in name j)

-- ---- sites as the code writes them

abbrev pub seen_way : Way → Step
seen_way (Way.Member name) = member name.now
seen_way Way.EachItem = each_item
seen_way Way.EachMember = each_member

abbrev pub seen_site : Bor (List Way) → List Step
seen_site ways = map seen_way ways.now
