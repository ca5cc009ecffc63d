-- Actions that are read (Arazzo 1.0.1, sections 4.6.7 and 4.6.8).
use Rattle.std.specs.Prelude.{All, List, ◌++◌, map, filter, not, codes}
use Rattle.std.specs.List.{list_any}
use Rattle.std.specs.Str.{bytes_eq}
use Rattle.std.specs.declared.alloc.Global.{Global}
use Rattle.std.specs.declared.rc.Rc.{Rc}
use Rattle.arz_json.specs.Look.{text_at, items_at}
use Rattle.arz_json.specs.declared.tree.Json.{Json}
use Rattle.arz_cond.specs.Criteria.{IsRead, criterion_at}
use Rattle.arz_description.specs.Parts.{act_of}
use Rattle.arz_actions.specs.declared.ready.Ready.{Ready}

abbrev pub ready_of : Json → Ready
ready_of j = record {
  name = text_at (codes "name") j;
  act = act_of j;
  criteria = map criterion_at (items_at (codes "criteria") j);
}

-- each criterion of an action can be read
abbrev pub IsTryable : Json → Type 0
IsTryable j = All (λ c. IsRead (criterion_at c)) (items_at (codes "criteria") j)

-- the actions that are shared
abbrev pub readies : List (Rc Ready Global) → List Ready
readies rcs = map (λ rc. rc.value) rcs

-- those of a step, and then those of its workflow that have none of their names (sections 4.6.4.1 and 4.6.5.1)
abbrev pub joined_actions : (own others : List Ready) → List Ready
joined_actions own others = own ++ filter (λ a. not (list_any (λ o. bytes_eq o.name a.name) own)) others
