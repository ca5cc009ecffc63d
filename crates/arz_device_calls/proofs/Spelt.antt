-- A mark and the bytes behind it spell an entry.
use Rattle.std.proofs.Common.{◌≡◌, ◌<◌, ◌^◌, ◌∙◌, ℕ, List, [], ◌∷◌, ◌++◌, Bool, true, cond, ap, refl, append-nil, append_assoc}
use Rattle.std.specs.Int.{w32, to_be_bytes}
use Rattle.arz_json.specs.Tree.{IsWellFormed}
use Rattle.arz_json.specs.declared.tree.Json.{Json}
use Rattle.arz_wire.specs.Spelling.{spelling}
use Rattle.arz_wire.specs.Texts.{has_texts}
use Rattle.arz_wire.specs.declared.entry.Entry.{Entry}
use Rattle.arz_wire.specs.declared.entry.Entry.TheVariants.{Start, Begun, Held, Served}
use Rattle.arz_wire.specs.declared.entry.Mark.TheVariants as mark
use Rattle.arz_wire.specs.declared.entry.Mark.{Mark}
use Rattle.arz_journal.specs.Journal.{Spells}

abbrev pub Spelt : Mark → List ℕ → Type 0
Spelt m rest = (x : Entry) × Spells m rest x

-- what a caller of `write` knows is what a Start needs
pub of_start : (tree : Json) (rest : List ℕ) → IsWellFormed tree → has_texts tree ≡ true → rest ≡ spelling tree → Spelt mark.Start rest
of_start tree rest formed texts spelled = (Start tree, ((formed, texts), ap (λ (l : List ℕ). 1 ∷ l) spelled))

pub of_begun : (n : ℕ) (rest : List ℕ) → n < 2 ^ 32 → rest ≡ [] → Spelt (mark.Begun n) rest
of_begun n rest small none = (Begun n, (small, ap (λ (l : List ℕ). 2 ∷ (to_be_bytes w32 n ++ l)) none ∙ ap (λ (l : List ℕ). 2 ∷ l) (append-nil (to_be_bytes w32 n))))

pub of_served : (n : ℕ) (rest : List ℕ) → n < 2 ^ 32 → rest ≡ [] → Spelt (mark.Served n) rest
of_served n rest small none = (Served n, (small, ap (λ (l : List ℕ). 4 ∷ (to_be_bytes w32 n ++ l)) none ∙ ap (λ (l : List ℕ). 4 ∷ l) (append-nil (to_be_bytes w32 n))))

pub of_held : (n : ℕ) (closed : Bool) (rest : List ℕ) → n < 2 ^ 32 → Spelt (mark.Held n closed) rest
of_held n closed rest small = (Held n closed rest, (small, ap (λ (l : List ℕ). 3 ∷ l) (append_assoc (to_be_bytes w32 n) (cond closed 1 0 ∷ []) rest)))
