-- Texts of a stated form.
use Rattle.std.specs.Prelude.{ℕ, List, [], ◌∷◌, codes, length, take, drop, ◌&&◌, ◌||◌, ◌==◌, not, Bool, true, false, nat_le, nat_lt}
use Rattle.std.specs.List.{list_all}
use Rattle.std.specs.Str.{bytes_eq}

abbrev pub is_digit : ℕ → Bool
is_digit b = nat_le 48 b && nat_le b 57

abbrev pub is_letter : ℕ → Bool
is_letter b = (nat_le 97 b && nat_le b 122) || (nat_le 65 b && nat_le b 90)

-- one byte or more, each of which the test takes
abbrev pub is_filled : (ℕ → Bool) → List ℕ → Bool
is_filled test s = nat_lt 0 (length s) && list_all test s

-- A-Z a-z 0-9 _ -
abbrev pub is_name_byte : ℕ → Bool
is_name_byte b = is_letter b || is_digit b || (b == 95) || (b == 45)

-- names of workflows, steps, sources, outputs and components
abbrev pub is_name : List ℕ → Bool
is_name = is_filled is_name_byte

abbrev pub starts_with : List ℕ → List ℕ → Bool
starts_with prefix s = bytes_eq (take (length prefix) s) prefix

-- a text, and then a name
abbrev pub is_prefixed : List ℕ → List ℕ → Bool
is_prefixed prefix s = starts_with prefix s && is_name (drop (length prefix) s)

-- a version of the line that the prefix begins, as `1.0.`: the prefix and one digit or more
abbrev pub is_version : List ℕ → List ℕ → Bool
is_version prefix s = starts_with prefix s && is_filled is_digit (drop (length prefix) s)

abbrev pub is_one_of : List ℕ → ℕ → Bool
is_one_of [] b = false
is_one_of (c ∷ cs) b = b == c || is_one_of cs b

-- a byte of a token (RFC 9110, section 5.6.2)
abbrev pub is_token_byte : ℕ → Bool
is_token_byte b = is_letter b || is_digit b || is_one_of (codes "!#$%&'*+-.^_`|~") b

abbrev pub is_token : List ℕ → Bool
is_token = is_filled is_token_byte

-- no control character but the tab
abbrev pub is_field_byte : ℕ → Bool
is_field_byte b = (b == 9) || (nat_le 32 b && not (b == 127))

abbrev pub is_field_value : List ℕ → Bool
is_field_value = list_all is_field_byte

-- behind each `~` stands a `0` or a `1`; after_tilde says that a `~` stands before the bytes
abbrev pub are_escapes : Bool → List ℕ → Bool
are_escapes after_tilde [] = not after_tilde
are_escapes true (b ∷ bs) = (b == 48 || b == 49) && are_escapes false bs
are_escapes false (b ∷ bs) = are_escapes (b == 126) bs

-- the text of a JSON Pointer (RFC 6901, section 3)
abbrev pub is_pointer : List ℕ → Bool
is_pointer [] = true
is_pointer (b ∷ bs) = b == 47 && are_escapes false bs
