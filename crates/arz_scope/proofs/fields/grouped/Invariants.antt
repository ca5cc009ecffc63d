use Rattle.std.proofs.Common.{◌≡◌, ℕ, List, [], map, filter, take}
use Rattle.std.specs.BTreeMap.{get_by_text}
use Rattle.std.specs.Option.{option_map_or}
use Rattle.std.specs.Str.{bytes_eq, str_to_ascii_lowercase}
use Rattle.arz_scope.proofs.fields.grouped.Given as goal

-- the values of the lines so far
abbrev pub invariant-loop-header : goal.invariant-loop-header
invariant-loop-header l =
    (name : List ℕ) → option_map_or (λ g. map (λ v. v.now) g.items) (get_by_text l.groups name) []
    ≡ map (λ h. h.value) (filter (λ h. bytes_eq name (str_to_ascii_lowercase h.name)) (take l.header-index l.headers))
