-- The rules of the files of a run, each as the places at which a file fails it.
use Rattle.std.specs.Prelude.{ℕ, ℤ, pos, negsuc, nat_le, Bool, true, List, [], ◌∷◌, ◌++◌, codes, Option, Some, None}
use Rattle.std.specs.Option.{is_some}
use Rattle.arz_json.specs.Look.{int_in}
use Rattle.arz_json.specs.declared.Json.{Json}
use Rattle.arz_rules.specs.Phases.{Rule}
use Rattle.arz_rules.specs.Place.{here_unless}
use Rattle.arz_rules.specs.Misses.{misses}
use Rattle.arz_rules.specs.Sets.{bad_text}
use Rattle.arz_rules.specs.Sites.{Check, member, each_item, each_member, at}
use Rattle.arz_rules.specs.declared.kinds.Kind.TheVariants as Kind
use Rattle.arz_target.specs.Urls.{address_of}

-- numbers that are kept without their value: with a fraction or an exponent, or past 64 bits
abbrev pub fractions : Check
fractions j = misses j Kind.Solid

abbrev pub is_at_most : ℕ → Option ℤ → Bool
is_at_most limit None = true
is_at_most limit (Some (pos n)) = nat_le n limit
is_at_most limit (Some (negsuc n)) = true

-- an integer past a limit
abbrev pub past : ℕ → Check
past limit j = here_unless (is_at_most limit (int_in j))

-- ---- the setup alone

-- a URL that a server may have (OpenAPI 3.1.1, 4.8.5; RFC 9110, 4.2.1)
abbrev pub is_server_url : List ℕ → Bool
is_server_url url = is_some (address_of url)

abbrev pub bad_servers : Check
bad_servers setup = at (member (codes "servers") ∷ each_member ∷ []) (bad_text is_server_url) setup

abbrev pub setup_limits : Check
setup_limits setup = at (member (codes "maxAttempts") ∷ []) (past 10000) setup ++ at (member (codes "journalLimit") ∷ []) (past 1073741824) setup

abbrev pub setup_rules : Json → List Rule
setup_rules setup =
    (3, misses setup Kind.Setup)
    ∷ (12, at (member (codes "inputs") ∷ []) fractions setup)
    ∷ (20, bad_servers setup)
    ∷ (24, setup_limits setup)
    ∷ []

-- ---- replies

abbrev pub replies_rules : Json → List Rule
replies_rules replies =
    (3, misses replies Kind.Replies)
    ∷ (12, at (each_item ∷ member (codes "body") ∷ []) fractions replies)
    ∷ []
