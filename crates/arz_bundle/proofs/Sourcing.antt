-- One source, and one after another.
use Rattle.std.proofs.Common.{◌≡◌, inr, ◌+◌, ◌<◌, ◌≤◌, ℕ, suc, List, [], ◌∷◌, ◌++◌, drop, drop-cons, add-one, get_or, length, Result, Ok, Err, refl, sym, ap, ◌∙◌, subst, arith, append_assoc, append-nil}
use Rattle.std.proofs.lemmas.List.{drop_all}
use Rattle.arz_json.specs.declared.Json.{Json}
use Rattle.arz_json.specs.declared.Named.{Named}
use Rattle.arz_path.specs.Results.{Asked}
use Rattle.arz_rx.specs.Patterns.{PatternsView}
use Rattle.arz_world.specs.Outside.{FilesView}
use Rattle.arz_bundle.specs.declared.fault.LoadFault.{LoadFault}
use Rattle.arz_bundle.specs.declared.fault.LoadFault.TheVariants.{Memory}
use Rattle.arz_bundle.specs.FileTree.{GivenSource, GivenSources}
use Rattle.arz_bundle.specs.Loading.{OneSource, FromSources}
use Rattle.arz_bundle.proofs.Overlaying.{later-then, asked-then}
use Rattle.arz_bundle.proofs.Wholes.{Later, files-whole, files-begin, files-end, patterns-whole, patterns-begin, patterns-end, source-wider, sources-wider, ok-no-fault, same-fault, same-source, no-source-given, as-it-is}

-- what comes of the sources that are left, behind these that were read, comes of all
abbrev pub Leads : (first before : FilesView) (one old : PatternsView) (setup : Json) (all rest : List Json) (read : List Named) → Type 0
Leads first before one old setup all rest read =
    (now : FilesView) (new : PatternsView) (x : Result (List Named) LoadFault) → Later before now → Asked old new
    → FromSources before now old new setup rest (λ ss. GivenSources (read ++ ss)) x → FromSources first now one new setup all GivenSources x

module _ (first before mid : FilesView) (one old half : PatternsView) (setup : Json) (all : List Json) (source : Json) (rest : List Json) (read : List Named)
    (later : Later before mid) (asked : Asked old half) (leads : Leads first before one old setup all (source ∷ rest) read) where
  -- one source more was read
  leads-on : (s : Named) → OneSource before mid old half setup source GivenSource (Ok s) → Leads first mid one half setup all rest (read ++ s ∷ [])
  leads-on s came now new x after more goes =
      leads now new x (later-then before mid now later after) (asked-then old half new asked more)
      (source-wider (Ok s) x (ok-no-fault s x) before mid before now (files-begin before mid now after) old half old new (patterns-begin old half new more) setup source GivenSource
      (λ made. FromSources before now old new setup rest (λ ss. GivenSources (read ++ made ∷ ss)))
      (λ made given. subst (λ t. FromSources before now old new setup rest (λ ss. GivenSources (read ++ t ∷ ss)) x) (same-source s made given)
      (sources-wider x x (as-it-is x) mid now before now (files-end before mid now later) half new old new (patterns-end old half new asked) setup rest
      (λ ss. GivenSources ((read ++ s ∷ []) ++ ss)) (λ ss. GivenSources (read ++ s ∷ ss))
      (λ ss is. is ∙ ap (λ all. Ok all) (append_assoc read (s ∷ []) ss)) goes)) came)

  -- one source more came to a fault
  leads-fault : (fault : LoadFault) → OneSource before mid old half setup source GivenSource (Err fault) → FromSources first mid one half setup all GivenSources (Err fault)
  leads-fault fault came =
      leads mid half (Err fault) later asked
      (source-wider (Err fault) (Err fault) (same-fault fault) before mid before mid (files-whole before mid) old half old half (patterns-whole old half) setup source GivenSource
      (λ made. FromSources before mid old half setup rest (λ ss. GivenSources (read ++ made ∷ ss))) (λ made given. absurd (no-source-given fault made given)) came)

  -- memory ran out behind it
  leads-memory : FromSources first mid one half setup all GivenSources (Err Memory)
  leads-memory = leads mid half (Err Memory) later asked (inr (inr refl))

-- a list from an index on, which an item stands at
from-item : {X : Type 0} (xs : List X) (i : ℕ) (x : X) → i < length xs → x ≡ get_or xs i x → drop i xs ≡ x ∷ drop (i + 1) xs
from-item xs i x lt is = drop-cons xs i x lt ∙ ap (λ y. y ∷ drop (suc i) xs) (sym is) ∙ ap (λ n. x ∷ drop n xs) (sym (add-one i))

-- the same of the sources of a list from a place on
module _ (first before mid : FilesView) (one old half : PatternsView) (setup : Json) (xs : List Json) (i : ℕ) (x : Json) (h : i < length xs) (is : x ≡ get_or xs i x) (read : List Named)
    (later : Later before mid) (asked : Asked old half) (leads : Leads first before one old setup xs (drop i xs) read) where
  leads-there : Leads first before one old setup xs (x ∷ drop (i + 1) xs) read
  leads-there = subst (λ js. Leads first before one old setup xs js read) (from-item xs i x h is) leads

  pub next-read : (s : Named) → OneSource before mid old half setup x GivenSource (Ok s) → Leads first mid one half setup xs (drop (i + 1) xs) (read ++ s ∷ [])
  next-read s came = leads-on first before mid one old half setup xs x (drop (i + 1) xs) read later asked leads-there s came

  pub next-fails : (fault : LoadFault) → OneSource before mid old half setup x GivenSource (Err fault) → FromSources first mid one half setup xs GivenSources (Err fault)
  next-fails fault came = leads-fault first before mid one old half setup xs x (drop (i + 1) xs) read later asked leads-there fault came

  pub next-unkept : FromSources first mid one half setup xs GivenSources (Err Memory)
  next-unkept = leads-memory first before mid one old half setup xs x (drop (i + 1) xs) read later asked leads-there

-- after the last one
pub all-read : (first now : FilesView) (one new : PatternsView) (setup : Json) (xs : List Json) (i : ℕ) (read : List Named) → length xs ≤ i
    → Leads first now one new setup xs (drop i xs) read → FromSources first now one new setup xs GivenSources (Ok read)
all-read first now one new setup xs i read h leads =
    let P : List Json → Type 0 = λ js. FromSources now now new new setup js (λ ss. GivenSources (read ++ ss)) (Ok read) in
    leads now new (Ok read) (record { told = refl; counts = λ path. omega arith }) (record { told = refl; count = omega arith })
    (subst P (sym (drop_all i xs h)) (ap (λ all. Ok all) (sym (append-nil read))))
