use Rattle.std.proofs.Common.{◌≡◌, ◌++◌, drop}
use Rattle.arz_operation.specs.Named.{untaken, taking_all}
use Rattle.arz_openapi.specs.Names.{taken_in}
use Rattle.arz_openapi.proofs.joined.push_untaken.Given as goal

abbrev pub invariant-loop-described : goal.invariant-loop-described
invariant-loop-described l = record {
  kept : l.out.items ++ untaken (taken_in l.taken) (drop l.described-index l.list) ≡ l.initial.out.items ++ untaken (taken_in l.initial.taken) l.list;
  taken : taking_all (drop l.described-index l.list) (taken_in l.taken) ≡ taking_all l.list (taken_in l.initial.taken);
}
