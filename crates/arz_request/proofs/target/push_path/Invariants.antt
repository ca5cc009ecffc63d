use Rattle.std.proofs.Common.{◌≡◌, ◌++◌, length, string_bytes, IsUtf8}
use Rattle.arz_target.specs.Templates.{expanded}
use Rattle.arz_request.specs.Parameters.{path_text}
use Rattle.arz_request.proofs.target.push_path.Given as goal

-- what stands there and what is left make the whole
abbrev pub invariant-cuts : goal.invariant-cuts
invariant-cuts l =
    (string_bytes l.out ++ expanded (path_text l.texts) l.rest ≡ string_bytes l.initial.out ++ expanded (path_text l.texts) l.path) × IsUtf8 l.rest

abbrev pub decreases-cuts : goal.decreases-cuts
decreases-cuts l = length l.rest
