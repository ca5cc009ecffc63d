-- Comparing values in filters (RFC 9535, section 2.3.5.2.2), and their lengths (2.4.4).
use Rattle.std.specs.Prelude.{ℕ, ◌&&◌, ◌||◌, not, ℤ, pos, List, [], ◌∷◌, length, Bool, true, false, int_lt, if◌then◌else◌, Option, Some, None, option_and_then}
use Rattle.std.specs.Ordering.{nat_cmp, is_lt, int_eq}
use Rattle.std.specs.Cmp.Lexicographic.{slice_cmp}
use Rattle.std.specs.Str.{bytes_eq, chars}
use Rattle.arz_json.specs.Look.{text_in, int_in}
use Rattle.arz_json.specs.declared.tree.Json.{Json, out-Json}
use Rattle.arz_json.specs.declared.tree.Json.TheVariants.{Int as IntTree}
use Rattle.arz_json.specs.declared.tree.Json.TheOpen.{Json-F, Member-F}
use Rattle.arz_json.specs.declared.tree.Json.TheFolds.{fold-Json}
use Rattle.arz_json.specs.declared.tree.Member.{Member}
use Rattle.arz_query.specs.declared.query.Comparison.{Comparison}
use Rattle.arz_query.specs.declared.query.Comparison.TheVariants.{Equal, Unequal, Less, LessOrEqual, Greater, GreaterOrEqual}

-- ---- one tree, with no Opaque inside

abbrev pub is_pair : List ℕ × (Json → Bool) → Member → Bool
is_pair t m = bytes_eq t.0 m.name && t.1 m.value

abbrev pub all_pass : {A B : Type 0} → (A → B → Bool) → List A → List B → Bool
all_pass test [] [] = true
all_pass test (a ∷ as') (b ∷ bs) = test a b && all_pass test as' bs
all_pass test _ _ = false

-- a level of one, with a test for each value inside, beside a level of the other
abbrev pub same_in : Json-F (Json → Bool) (List ℕ × (Json → Bool)) → Json-F Json Member → Bool
same_in Json-F.Null Json-F.Null = true
same_in (Json-F.Flag b) (Json-F.Flag c) = if b then c else not c
same_in (Json-F.Int y) (Json-F.Int z) = int_eq y z
same_in (Json-F.Text s) (Json-F.Text t) = bytes_eq s t
same_in (Json-F.List ts) (Json-F.List js) = all_pass (λ t j. t j) ts js
same_in (Json-F.Object ts) (Json-F.Object ms) = all_pass is_pair ts ms
same_in _ _ = false

abbrev pub same_step : Json-F (Json → Bool) (List ℕ × (Json → Bool)) → Json → Bool
same_step layer j = same_in layer (out-Json j)

abbrev pub same_member : Member-F (Json → Bool) (List ℕ × (Json → Bool)) → List ℕ × (Json → Bool)
same_member m = (m.name, m.value)

abbrev pub is_same : Json → Json → Bool
is_same = fold-Json (Json → Bool) (List ℕ × (Json → Bool)) same_step same_member

-- ---- comparisons; None is Nothing

-- the same value, or Nothing twice
abbrev pub equals : Option Json → Option Json → Bool
equals None None = true
equals None (Some y) = false
equals (Some x) None = false
equals (Some x) (Some y) = is_same x y

abbrev pub int_less : Option ℤ → Option ℤ → Bool
int_less (Some y) (Some z) = int_lt y z
int_less _ _ = false

abbrev pub text_less : Option (List ℕ) → Option (List ℕ) → Bool
text_less (Some s) (Some t) = is_lt (slice_cmp nat_cmp s t)
text_less _ _ = false

-- numbers by value, texts by their bytes of UTF-8, which is the order of their characters; nothing else has an order
abbrev pub less : Option Json → Option Json → Bool
less x y = int_less (option_and_then int_in x) (option_and_then int_in y) || text_less (option_and_then text_in x) (option_and_then text_in y)

abbrev pub compared : Comparison → Option Json → Option Json → Bool
compared Equal x y = equals x y
compared Unequal x y = not (equals x y)
compared Less x y = less x y
compared LessOrEqual x y = less x y || equals x y
compared Greater x y = less y x
compared GreaterOrEqual x y = less y x || equals x y

-- ---- lengths

-- how many characters a text has
abbrev pub count_characters : List ℕ → ℕ
count_characters s = length (chars s)

abbrev pub length_in : Json-F Json Member → Option Json
length_in (Json-F.Text s) = Some (IntTree (pos (count_characters s)))
length_in (Json-F.List js) = Some (IntTree (pos (length js)))
length_in (Json-F.Object ms) = Some (IntTree (pos (length ms)))
length_in _ = None

abbrev pub length_value : Json → Option Json
length_value j = length_in (out-Json j)

-- of an argument
abbrev pub length_of : Option Json → Option Json
length_of x = option_and_then length_value x
