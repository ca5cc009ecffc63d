-- The rules of what a description's parts say (Arazzo 1.0.1, section 4.6), each as the places that fail it.
use Rattle.std.specs.Prelude.{ℕ, suc, ℤ, pos, negsuc, List, [], ◌∷◌, ◌++◌, ◌+◌, map, length, codes, Bool, true, false, not, nat_le, Option, Some, None, if◌then◌else◌}
use Rattle.std.specs.Str.{bytes_eq}
use Rattle.std.specs.Option.{is_some}
use Rattle.arz_json.specs.declared.tree.Json.{Json, out-Json}
use Rattle.arz_json.specs.declared.tree.Json.TheOpen.{Json-F}
use Rattle.arz_json.specs.declared.tree.Json.TheFolds.{fold-Json}
use Rattle.arz_json.specs.declared.tree.Member.{Member}
use Rattle.arz_json.specs.declared.place.Token.{Token}
use Rattle.arz_json.specs.declared.place.Token.TheVariants.{Name, Index}
use Rattle.arz_json.specs.Look.{int_in, object_in}
use Rattle.arz_json.specs.Tree.{member_step}
use Rattle.arz_rules.specs.Place.{under, here_unless}
use Rattle.arz_rules.specs.Sites.{member, Check, at, at_each, text_named, items}
use Rattle.arz_rules.specs.Sets.{is_text, bad_text}
use Rattle.arz_rules.specs.Misses.{misses}
use Rattle.arz_rules.specs.declared.kinds.Kind.TheVariants as Kind
use Rattle.arz_sites.specs.Texts.{is_value_text}
use Rattle.arz_sites.specs.Sites.{only, workflows, steps, each_component, unless_reuse, each_action, each_criterion, parameters_of, values}
use Rattle.arz_components.specs.declared.components.Part.TheVariants.{Parameters}
use Rattle.arz_sites.specs.declared.checks.Wanted.{Wanted}
use Rattle.arz_sites.specs.Wants.{fits, unless_flow, outputs}

-- ---- types of criteria that aren't taken: XPath, and those that are objects

abbrev pub xpaths : Check
xpaths root = each_criterion (at (only (codes "type")) (bad_text (fits Wanted.NotXpath))) root

abbrev pub no_object : Check
no_object j = here_unless (not (is_some (object_in j)))

abbrev pub type_objects : Check
type_objects root = each_criterion (at (only (codes "type")) no_object) root

-- ---- numbers that aren't kept, and texts that are no expressions

abbrev pub Places : Type 0
Places = List (List Token)

abbrev pub in_each_item : ℕ → List Places → Places
in_each_item i [] = []
in_each_item i (p ∷ ps) = under (Index i) p ++ in_each_item (suc i) ps

abbrev pub in_each_member : List (List ℕ × Places) → Places
in_each_member [] = []
in_each_member (m ∷ ms) = under (Name m.0) m.1 ++ in_each_member ms

-- one level of a tree
abbrev pub text_level : Json-F Places (List ℕ × Places) → Places
text_level (Json-F.List ps) = in_each_item 0 ps
text_level (Json-F.Object ms) = in_each_member ms
text_level (Json-F.Text s) = here_unless (is_value_text s)
text_level Json-F.Null = []
text_level (Json-F.Flag b) = []
text_level (Json-F.Int z) = []
text_level Json-F.Opaque = []

-- the texts of a value, at any depth, that can only mean expressions and are none
abbrev pub bad_texts : Check
bad_texts = fold-Json Places (List ℕ × Places) text_level member_step

-- the numbers of a value, at any depth, that aren't kept
abbrev pub no_fraction : Check
no_fraction j = misses j Kind.Solid

-- of an action
abbrev pub broken_numbers : Check
broken_numbers j = at (only (codes "retryAfter")) no_fraction j ++ at (only (codes "retryLimit")) no_fraction j

abbrev pub fractions : Check
fractions root = at_each values no_fraction root ++ each_action broken_numbers root

abbrev pub is_other : List ℕ → Option (List ℕ) → Bool
is_other word None = false
is_other word (Some s) = not (bytes_eq s word)

-- a criterion of another type than `simple` has a context
abbrev pub asks_context : Json → Bool
asks_context j = is_other (codes "simple") (text_named (codes "type") j)

abbrev pub bad_context : Check
bad_context j = if asks_context j then at (only (codes "context")) (bad_text (fits Wanted.Expression)) j else []

abbrev pub bad_expressions : Check
bad_expressions root =
    at_each outputs (bad_text (fits Wanted.Expression)) root
    ++ each_criterion bad_context root
    ++ at_each values bad_texts root
    ++ at (steps ++ only (codes "operationPath")) (bad_text (fits Wanted.OperationPath)) root

-- ---- header fields that a parameter may not give, and media types that aren't sent

abbrev pub bad_header : Check
bad_header j = if is_text (text_named (codes "in") j) (codes "header") then at (only (codes "name")) (bad_text (fits Wanted.Header)) j else []

abbrev pub bad_headers : Check
bad_headers root =
    at (workflows ++ parameters_of) (unless_reuse bad_header) root
    ++ at steps (unless_flow (at parameters_of (unless_reuse bad_header))) root
    ++ at (each_component Parameters) bad_header root

abbrev pub bad_media_types : Check
bad_media_types root = at (steps ++ member (codes "requestBody") ∷ only (codes "contentType")) (bad_text (fits Wanted.MediaType)) root

-- ---- limits

abbrev pub longer : ℕ → Check
longer most j = here_unless (nat_le (length (items j)) most)

abbrev pub within_limit : ℕ → ℤ → Bool
within_limit most (pos n) = nat_le n most
within_limit most (negsuc n) = true

abbrev pub above_int : ℕ → Option ℤ → Places
above_int most None = []
above_int most (Some z) = here_unless (within_limit most z)

-- a number above the most
abbrev pub above : ℕ → Check
above most j = above_int most (int_in j)

abbrev pub long_lists : Check
long_lists root =
    at (only (codes "sourceDescriptions")) (longer 16) root
    ++ at (only (codes "workflows")) (longer 256) root
    ++ at (workflows ++ only (codes "steps")) (longer 256) root

abbrev pub large_numbers : Check
large_numbers root =
    each_action (at (only (codes "retryLimit")) (above 1000)) root
    ++ each_action (at (only (codes "retryAfter")) (above 86400)) root

abbrev pub over_limits : Check
over_limits root = long_lists root ++ large_numbers root

-- ---- for private clauses: one level of a tree, with the bad texts of what is inside

abbrev pub named_texts : List Member → List (List ℕ × Places)
named_texts ms = map (λ m. (m.name, bad_texts m.value)) ms

abbrev pub text_level_in : Json-F Json Member → Json-F Places (List ℕ × Places)
text_level_in (Json-F.List js) = Json-F.List (map bad_texts js)
text_level_in (Json-F.Object ms) = Json-F.Object (named_texts ms)
text_level_in Json-F.Null = Json-F.Null
text_level_in (Json-F.Flag b) = Json-F.Flag b
text_level_in (Json-F.Int z) = Json-F.Int z
text_level_in (Json-F.Text s) = Json-F.Text s
text_level_in Json-F.Opaque = Json-F.Opaque

abbrev pub text_level_of : Json → Json-F Places (List ℕ × Places)
text_level_of j = text_level_in (out-Json j)
