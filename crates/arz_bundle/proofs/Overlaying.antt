-- One overlay, and one after another.
use Rattle.std.proofs.Common.{◌≡◌, ◌≢◌, inl, inr, ◌+◌, ◌<◌, ◌≤◌, ℕ, List, ◌∷◌, map, drop, drop-cons, get_or, length, Result, Ok, Err, refl, sym, ap, ◌∙◌, subst, arith, add-one, le_trans}
use Rattle.std.proofs.lemmas.List.{drop_all}
use Rattle.arz_json.specs.Answer.{Fails}
use Rattle.arz_json.specs.Tree.{IsWithin}
use Rattle.arz_json.specs.declared.Json.{Json}
use Rattle.arz_json.specs.declared.Refusal.{Refusal}
use Rattle.arz_overlay.specs.Applied.{Applies, refusal_in}
use Rattle.arz_overlay.specs.Documents.{Document, document}
use Rattle.arz_overlay.specs.Overlaid.{overlaid}
use Rattle.arz_overlay.specs.declared.fault.OverlayFault.{OverlayFault}
use Rattle.arz_overlay.specs.declared.fault.OverlayFault.TheVariants as overlay
use Rattle.arz_path.specs.Results.{Asked}
use Rattle.arz_rx.specs.Patterns.{PatternsView}
use Rattle.arz_world.specs.Outside.{FilesView}
use Rattle.arz_bundle.specs.declared.fault.LoadFault.{LoadFault}
use Rattle.arz_bundle.specs.declared.fault.LoadFault.TheVariants.{Refused, Pattern}
use Rattle.arz_bundle.specs.declared.overlays.Listed.{Listed as ListedHere}
use Rattle.arz_bundle.specs.FileTree.{HasTree, Given, overlay_fault}
use Rattle.arz_bundle.specs.Loading.{Taken, Applied, OneOverlay, Overlaid}
use Rattle.arz_bundle.specs.Overlays.{Listed, seen, overlay_label}
use Rattle.arz_bundle.proofs.Stages.{had-none}
use Rattle.arz_bundle.proofs.Wholes.{Later, files-whole, files-begin, files-end, patterns-whole, patterns-begin, patterns-end, overlay-wider, overlaid-wider, ok-no-fault, same-fault, same-tree, no-tree-given, as-it-is}

-- ---- the overlays of a list

from-there : {A : Type 0} (xs : List A) (i : ℕ) (d : A) → i < length xs → drop i xs ≡ get_or xs i d ∷ drop (i + 1) xs
from-there xs i d h = rw add-one (drop-cons xs i d h)

left-there : (xs : List ListedHere) (i : ℕ) (d : ListedHere) → i < length xs → map seen (drop i xs) ≡ seen (get_or xs i d) ∷ map seen (drop (i + 1) xs)
left-there xs i d h = ap (map seen) (from-there xs i d h)

-- ---- one overlay

module _ (before now : FilesView) (old new : PatternsView) (o : Listed) (tree : Json) where
  abbrev Then : Document → Result Json LoadFault → Type 0
  Then d = Applied old new (overlaid old.told d tree) Given

  -- its file has no tree
  pub overlay-none : (fault : LoadFault) → HasTree before now o.path (overlay_label o.index) (Err fault) → OneOverlay before now old new o tree Given (Err fault)
  overlay-none fault has = had-none before now o.path (overlay_label o.index) (λ root. Taken (document (overlay_label o.index) root) Then) fault has

  -- the document fails a rule
  pub overlay-unread : (root : Json) (f : OverlayFault) → HasTree before now o.path (overlay_label o.index) (Ok root) → Fails (refusal_in f) (document (overlay_label o.index) root) → f ≢ overlay.Pattern
      → OneOverlay before now old new o tree Given (Err (overlay_fault f))
  overlay-unread root (overlay.Refused r) has fails some =
      let P : Result Document Refusal → Type 0 = λ d. Taken d Then (Err (Refused r)) in
      inl (has.0, has.1, inl (root, has.2, subst P (sym fails) refl))
  overlay-unread root overlay.Pattern has fails some = absurd (some refl)
  overlay-unread root overlay.Memory has fails some = inr (inr refl)

  module _ (root : Json) (d : Document) (has : HasTree before now o.path (overlay_label o.index) (Ok root)) (is : document (overlay_label o.index) root ≡ Ok d) where
    went : (x : Result Json LoadFault) → Then d x → OneOverlay before now old new o tree Given x
    went x then_ =
        let P : Result Document Refusal → Type 0 = λ r. Taken r Then x in
        inl (has.0, has.1, inl (root, has.2, subst P (sym is) then_))

    -- it makes a tree
    pub overlay-made : (made : Json) → (let r : Result Json OverlayFault = Ok made in Applies (λ j. j) r (overlaid old.told d tree) old new) → IsWithin 127 made → OneOverlay before now old new o tree Given (Ok made)
    overlay-made made applies within = went (Ok made) (inl (made, applies, within, refl))

    -- an action is refused, or a pattern is too big
    pub overlay-unmade : (f : OverlayFault) → (let r : Result Json OverlayFault = Err f in Applies (λ j. j) r (overlaid old.told d tree) old new) → OneOverlay before now old new o tree Given (Err (overlay_fault f))
    overlay-unmade (overlay.Refused r) applies = went (Err (Refused r)) (inr (inl (r, applies, refl)))
    overlay-unmade overlay.Pattern applies = went (Err Pattern) (inr (inr (applies, refl)))
    overlay-unmade overlay.Memory applies = inr (inr refl)

-- ---- one after another

pub later-then : (a b c : FilesView) → Later a b → Later b c → Later a c
later-then a b c p q = record { told = q.told ∙ p.told; counts = λ path. le_trans (p.counts path) (q.counts path) }

pub asked-then : (a b c : PatternsView) → Asked a b → Asked b c → Asked a c
asked-then a b c p q = record { told = q.told ∙ p.told; count = le_trans p.count q.count }

-- what comes of the rest, from this tree on, comes of all
abbrev pub Leads : (first before : FilesView) (one old : PatternsView) (all rest : List Listed) (whole tree : Json) → Type 0
Leads first before one old all rest whole tree =
    (now : FilesView) (new : PatternsView) (x : Result Json LoadFault) → Later before now → Asked old new → Overlaid before now old new rest tree Given x → Overlaid first now one new all whole Given x

module _ (first before mid : FilesView) (one old half : PatternsView) (all : List Listed) (o : Listed) (rest : List Listed) (whole tree : Json)
    (later : Later before mid) (asked : Asked old half) (leads : Leads first before one old all (o ∷ rest) whole tree) where
  -- one overlay more made a tree
  pub leads-on : (made : Json) → OneOverlay before mid old half o tree Given (Ok made) → Leads first mid one half all rest whole made
  leads-on made came now new x after more goes =
      leads now new x (later-then before mid now later after) (asked-then old half new asked more)
      (overlay-wider (Ok made) x (ok-no-fault made x) before mid before now (files-begin before mid now after) old half old new (patterns-begin old half new more) o tree Given
      (λ j. Overlaid before now old new rest j Given)
      (λ j given. subst (λ t. Overlaid before now old new rest t Given x) (same-tree made j given)
      (overlaid-wider x x (as-it-is x) mid now before now (files-end before mid now later) half new old new (patterns-end old half new asked) rest made Given Given (λ k g. g) goes)) came)

  -- one overlay more came to a fault
  pub leads-fault : (fault : LoadFault) → OneOverlay before mid old half o tree Given (Err fault) → Overlaid first mid one half all whole Given (Err fault)
  leads-fault fault came =
      leads mid half (Err fault) later asked
      (overlay-wider (Err fault) (Err fault) (same-fault fault) before mid before mid (files-whole before mid) old half old half (patterns-whole old half) o tree Given
      (λ j. Overlaid before mid old half rest j Given) (λ j given. absurd (no-tree-given fault j given)) came)

-- the same of the overlays of a list from a place on
module _ (first before mid : FilesView) (one old half : PatternsView) (all : List Listed) (xs : List ListedHere) (i : ℕ) (d : ListedHere) (h : i < length xs) (whole tree : Json)
    (later : Later before mid) (asked : Asked old half) (leads : Leads first before one old all (map seen (drop i xs)) whole tree) where
  leads-there : Leads first before one old all (seen (get_or xs i d) ∷ map seen (drop (i + 1) xs)) whole tree
  leads-there =
      let P : List Listed → Type 0 = λ ls. Leads first before one old all ls whole tree in
      subst P (left-there xs i d h) leads

  pub leads-next : (made : Json) → OneOverlay before mid old half (seen (get_or xs i d)) tree Given (Ok made) → Leads first mid one half all (map seen (drop (i + 1) xs)) whole made
  leads-next made came = leads-on first before mid one old half all (seen (get_or xs i d)) (map seen (drop (i + 1) xs)) whole tree later asked leads-there made came

  pub leads-fails : (fault : LoadFault) → OneOverlay before mid old half (seen (get_or xs i d)) tree Given (Err fault) → Overlaid first mid one half all whole Given (Err fault)
  leads-fails fault came = leads-fault first before mid one old half all (seen (get_or xs i d)) (map seen (drop (i + 1) xs)) whole tree later asked leads-there fault came

-- after the last one
pub leads-end : (first now : FilesView) (one new : PatternsView) (all : List Listed) (xs : List ListedHere) (i : ℕ) (whole tree : Json) → length xs ≤ i
    → Leads first now one new all (map seen (drop i xs)) whole tree → Overlaid first now one new all whole Given (Ok tree)
leads-end first now one new all xs i whole tree h leads =
    let P : List Listed → Type 0 = λ ls. Overlaid now now new new ls tree Given (Ok tree) in
    leads now new (Ok tree) (record { told = refl; counts = λ path. omega arith }) (record { told = refl; count = omega arith }) (subst P (sym (ap (map seen) (drop_all i xs h))) refl)
