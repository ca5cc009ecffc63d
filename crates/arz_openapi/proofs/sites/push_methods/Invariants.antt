use Rattle.std.proofs.Common.{◌≡◌, ◌++◌, map, drop}
use Rattle.std.specs.List.{filter_map}
use Rattle.arz_operation.specs.Named.{under_method}
use Rattle.arz_openapi.specs.Sites.{seen}
use Rattle.arz_openapi.proofs.sites.push_methods.Given as goal

abbrev pub invariant-loop-method : goal.invariant-loop-method
invariant-loop-method l =
    let h = under_method l.path l.is_referred l.item in
    map seen l.sites.items ++ filter_map h (map (λ m. m.now) (drop l.method-index l.methods)) ≡ map seen l.initial.sites.items ++ filter_map h (map (λ m. m.now) l.methods)
