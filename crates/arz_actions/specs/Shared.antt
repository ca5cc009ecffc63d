-- ---- for private clauses: what was read under names
use Rattle.std.specs.Prelude.{◌≡◌, ℕ, List, filter, not, Bool, Option, Some, option_map}
use Rattle.std.specs.List.{list_any}
use Rattle.std.specs.Str.{bytes_eq}
use Rattle.std.specs.Cmp.Lexicographic.{slice_cmp}
use Rattle.std.specs.Ordering.{nat_cmp}
use Rattle.std.specs.BTreeMap.{BTreeMap, get_by}
use Rattle.std.specs.BTreeSet.{BTreeSet, contains_by}
use Rattle.std.specs.declared.alloc.Global.{Global}
use Rattle.std.specs.declared.rc.Rc.{Rc}
use denote.Ref.{Bor}
use Rattle.arz_json.specs.declared.tree.Json.{Json}
use Rattle.arz_actions.specs.Ready.{ready_of}
use Rattle.arz_actions.specs.declared.ready.Ready.{Ready}

-- what was read under a name
abbrev pub read_in : BTreeMap (Bor (List ℕ)) (Rc Ready Global) → List ℕ → Option Ready
read_in m q = option_map (λ rc. rc.value) (get_by (λ k. slice_cmp nat_cmp q k.now) m)

-- it is that of the component
abbrev pub IsReadAs : BTreeMap (Bor (List ℕ)) (Rc Ready Global) → List ℕ → Json → Type 0
IsReadAs m name component = (ready : Ready) → read_in m name ≡ Some ready → Some (ready_of component) ≡ Some ready

-- it is that of the component that is found under the name
abbrev pub AreRead : (List ℕ → Option Json) → BTreeMap (Bor (List ℕ)) (Rc Ready Global) → Type 0
AreRead find m = (q : List ℕ) (ready : Ready) → read_in m q ≡ Some ready → option_map ready_of (find q) ≡ Some ready

-- ---- names

abbrev pub has_name : List Ready → List ℕ → Bool
has_name actions q = list_any (λ o. bytes_eq o.name q) actions

abbrev pub is_in : BTreeSet (Bor (List ℕ)) → List ℕ → Bool
is_in names q = contains_by (λ k. slice_cmp nat_cmp q k.now) names

-- those whose names aren't among these
abbrev pub unnamed : BTreeSet (Bor (List ℕ)) → List Ready → List Ready
unnamed names actions = filter (λ a. not (is_in names a.name)) actions
