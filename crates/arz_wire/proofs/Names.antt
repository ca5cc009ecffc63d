-- The last of some members.
use Rattle.std.proofs.Common.{◌≡◌, suc, ◌-◌, List, [], ◌∷◌, length, Some, Ordering, Less, Equal, Greater, refl, sym, ap, ◌∙◌, arith}
use Rattle.std.specs.Prelude.{slice_get, unwrap_or, ◌==◌}
use Rattle.std.specs.Ordering.{is_lt, ordering_index}
use Rattle.json.proofs.Found.{Some_inj}
use Rattle.arz_json.specs.declared.tree.Member.{Member}
use Rattle.arz_wire.specs.Names.{last_name}

pub last_name-get : (ms : List Member) (m : Member) → slice_get ms (length ms - 1) ≡ Some m → last_name ms ≡ Some m.name
last_name-get [] m e = absurd (cc)
last_name-get (l ∷ []) m e = ap (λ (x : Member). Some x.name) (Some_inj l m e)
last_name-get (l ∷ k ∷ ms) m e =
    let at : length (l ∷ k ∷ ms) - 1 ≡ suc (length (k ∷ ms) - 1) = omega arith in
    ap (λ o. Some (unwrap_or o l.name)) (last_name-get (k ∷ ms) m (sym (ap (slice_get (l ∷ k ∷ ms)) at) ∙ e))

pub is_lt-index : (o : Ordering) → (ordering_index o == 0) ≡ is_lt o
is_lt-index Less = refl
is_lt-index Equal = refl
is_lt-index Greater = refl
