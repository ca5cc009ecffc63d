-- Texts that are equal but for case.
use Rattle.std.proofs.Common.{◌≡◌, ℕ, List, true}
use Rattle.std.specs.Str.{chars}
use Rattle.std.proofs.lemmas.Slice.Eq.{bytes_eq-Decides}
use Rattle.caseless.specs.Caseless.{IsDefaultMatch}
use Rattle.arz_cond.specs.Comparing.{folded, same_text}

pub same_text_if : (s t : List ℕ) → IsDefaultMatch (chars s) (chars t) → same_text s t ≡ true
unfolding same_text
same_text_if s t h = (bytes_eq-Decides (folded s) (folded t)).1 h

pub only_if_same_text : (s t : List ℕ) → same_text s t ≡ true → IsDefaultMatch (chars s) (chars t)
unfolding same_text
only_if_same_text s t h = (bytes_eq-Decides (folded s) (folded t)).0 h
