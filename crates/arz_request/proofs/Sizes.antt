-- A request whose target is too large is too large.
use Rattle.std.proofs.Common.{◌≡◌, ℕ, ◌<◌, ◌≤◌, List, [], ◌∷◌, ◌++◌, length, length-append, codes, nat_le, false, Option, Err, arith, ap, sym, ◌∙◌}
use Rattle.std.specs.List.{flat_map}
use Rattle.std.proofs.lemmas.Bool.{cond-false}
use Rattle.std.proofs.lemmas.Bool.Decides.{nat_tests}
use Rattle.arz_json.specs.Answer.{Fails}
use Rattle.arz_operation.specs.declared.types.Operation.{Operation}
use Rattle.arz_world.specs.Requests.{request_bytes, request_line, header_line, line_end, body_of}
use Rattle.arz_world.specs.declared.Request.{Request}
use Rattle.arz_world.specs.declared.Server.{Server}
use Rattle.arz_request.specs.Causes.{told}
use Rattle.arz_request.specs.Fits.{FitsIn}
use Rattle.arz_request.specs.Parameters.{Written}
use Rattle.arz_request.specs.Requests.{with_query, or_root, target_of, request_with, request_limit, within_limit}
use Rattle.arz_request.specs.declared.body.Content.{Content}
use Rattle.arz_request.specs.declared.cause.BuildFault.{BuildFault}
use Rattle.arz_request.specs.declared.cause.BuildFault.TheVariants.{Stuck, Memory}
use Rattle.arz_request.specs.declared.cause.Cause.TheVariants.{RequestTooLarge}

-- ---- a target is no shorter than its path

queried-longer : (path query : List ℕ) → length path ≤ length (with_query path query)
queried-longer path [] = omega arith
queried-longer path (b ∷ query) = omega (arith, length-append (path ++ codes "?") (b ∷ query), length-append path (codes "?"))

rooted-longer : (target : List ℕ) → length target ≤ length (or_root target)
rooted-longer [] = omega arith
rooted-longer (b ∷ target) = omega arith

pub path-fits : (path query : List ℕ) (f : BuildFault) → FitsIn (Err f) path → FitsIn (Err f) (or_root (with_query path query))
path-fits path query (Stuck why) fit = (fit.0, omega (arith, fit.1, queried-longer path query, rooted-longer (with_query path query)))
path-fits path query Memory fit = tt

-- ---- the bytes of a request are no fewer than those of its target

target-within : (q : Request) → length q.target ≤ length (request_bytes q)
target-within q =
    let line = request_line q in
    let headers = flat_map header_line q.headers in
    omega (
      arith,
      length-append (line ++ headers ++ line_end) (body_of q.body),
      length-append (line ++ headers) line_end,
      length-append line headers,
      length-append (q.method ++ codes " " ++ q.target ++ codes " HTTP/1.1") line_end,
      length-append (q.method ++ codes " " ++ q.target) (codes " HTTP/1.1"),
      length-append (q.method ++ codes " ") q.target,
    )

past-limit : (n : ℕ) → request_limit < n → nat_le n request_limit ≡ false
past-limit n past = grind (arith, nat_tests)

refused : (q : Request) → request_limit < length (request_bytes q) → within_limit q ≡ Err RequestTooLarge
refused q past = cond-false _ _ _ (past-limit (length (request_bytes q)) past)

pub too-large : (o : Operation) (s : Server) (ws : List Written) (c : Option Content) (f : BuildFault)
    → FitsIn (Err f) (target_of s o ws) → Fails (told f) (within_limit (request_with o s ws c))
too-large o s ws c (Stuck why) fit =
    let q = request_with o s ws c in
    refused q (omega (arith, fit.1, target-within q)) ∙ ap Err (sym fit.0)
too-large o s ws c Memory fit = tt
