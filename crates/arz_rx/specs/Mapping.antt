-- I-Regexps as patterns (RFC 9485, sections 5.3 and 5.4).
use Rattle.std.specs.Prelude.{ℕ, List, [], ◌∷◌, ◌++◌, Bool, true, false, ◌==◌, ◌&&◌, ◌||◌, not, if◌then◌else◌, codes}

-- whether an unpaired backslash stands before what follows a byte
abbrev pub escapes : Bool → ℕ → Bool
escapes escaped byte = not escaped && byte == 92

-- whether what follows a byte stands inside brackets: an unescaped `[` opens them, the next unescaped
-- `]` closes them
abbrev pub opens : Bool → Bool → ℕ → Bool
opens escaped inside byte = if escaped then inside else byte == 91 || (inside && not (byte == 93))

-- a dot that isn't escaped and stands in no brackets matches any character but LF and CR
abbrev pub is_any : Bool → Bool → ℕ → Bool
is_any escaped inside byte = not escaped && not inside && byte == 46

-- such dots are written out, every other byte is copied
abbrev pub mapped_from : Bool → Bool → List ℕ → List ℕ
mapped_from escaped inside [] = []
mapped_from escaped inside (byte ∷ text) =
    (if is_any escaped inside byte then codes "[^\\n\\r]" else byte ∷ []) ++ mapped_from (escapes escaped byte) (opens escaped inside byte) text

-- the pattern of an I-Regexp: for the whole text, or for any part of it
unfoldable pub mapped : Bool → List ℕ → List ℕ
mapped true text = codes "\\A(?:" ++ (mapped_from false false text ++ codes ")\\z")
mapped false text = mapped_from false false text
