-- For private clauses: what the code holds, as the definitions see it.
use Rattle.std.specs.Prelude.{◌≡◌, Bool, true, false, Option, Some, None}
use Rattle.arz_json.specs.declared.tree.Json.{Json, out-Json}
use Rattle.arz_json.specs.declared.tree.Json.TheOpen.{Json-F}
use Rattle.arz_json.specs.declared.tree.Json.TheVariants as tree
use Rattle.arz_json.specs.declared.tree.Member.{Member}
use Rattle.arz_cond.specs.declared.values.Worth.{Worth}
use Rattle.arz_cond.specs.declared.values.Worth.TheVariants as worth
use Rattle.arz_cond.specs.declared.compare.Pair.{Pair}
use Rattle.arz_cond.specs.declared.compare.Pair.TheVariants as pair
use Rattle.arz_cond.specs.Comparing.{Row, Nulls, Flags, Ints, Texts, Trees, Unlike}

-- a value; None is one that isn't there
abbrev pub worth_seen : Worth → Option Json
worth_seen worth.Absent = None
worth_seen worth.Null = Some tree.Null
worth_seen (worth.Flag b) = Some (tree.Flag b)
worth_seen (worth.Int z) = Some (tree.Int z)
worth_seen (worth.Text t) = Some (tree.Text t.now)
worth_seen (worth.Tree j) = Some j.now
worth_seen worth.Opaque = Some tree.Opaque

abbrev pub is_branch_in : Json-F Json Member → Bool
is_branch_in (Json-F.List js) = true
is_branch_in (Json-F.Object ms) = true
is_branch_in _ = false

-- a list or an object
abbrev pub is_branch : Json → Bool
is_branch j = is_branch_in (out-Json j)

-- a tree that it holds is a list or an object
abbrev pub IsPlain : Worth → Type 0
IsPlain (worth.Tree j) = is_branch j.now ≡ true
IsPlain _ = Unit {0}

abbrev pub pair_seen : Pair → Row
pair_seen pair.Nulls = Nulls
pair_seen (pair.Flags b c) = Flags b c
pair_seen (pair.Ints y z) = Ints y z
pair_seen (pair.Texts s t) = Texts s.now t.now
pair_seen (pair.Trees j k) = Trees j.now k.now
pair_seen pair.Unlike = Unlike
