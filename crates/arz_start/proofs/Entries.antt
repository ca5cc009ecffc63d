-- Entries of a map, as they are seen.
use Rattle.std.proofs.Common.{◌≡◌, ℕ, ◌+◌, ◌<◌, List, [], ◌∷◌, length, get_or, drop, drop-cons, add-one, map, refl, sym, ap, ap₂, ◌∙◌}
use Rattle.std.specs.BTreeMap.{insert_entry}
use Rattle.std.specs.Ordering.{nat_cmp, match_ordering}
use Rattle.std.specs.declared.cmp.Ordering.{Ordering}
use Rattle.std.specs.declared.cmp.Ordering.TheVariants.{Less, Equal, Greater}
use Rattle.std.specs.Cmp.Lexicographic.{slice_cmp}
use denote.Ref.{Bor}
use Rattle.arz_json.specs.declared.Json.{Json}
use Rattle.arz_json.specs.declared.tree.Named.{Named}
use Rattle.arz_start.specs.StartTree.{seen_entry, entered}

abbrev pub by_text : Bor (List ℕ) → Bor (List ℕ) → Ordering
by_text a b = slice_cmp nat_cmp a.now b.now

-- an entry that is put in its place is seen in its place
pub seen_inserted : (es : List (Bor (List ℕ) × Bor Json)) (k : Bor (List ℕ)) (v : Bor Json)
    → map seen_entry (insert_entry by_text es k v) ≡ insert_entry (slice_cmp nat_cmp) (map seen_entry es) k.now v.now
seen_inserted [] k v = refl
seen_inserted (e ∷ es) k v = by (slice_cmp nat_cmp k.now e.0.now) (seen_inserted es k v)
  where
    by : (o : Ordering) → map seen_entry (insert_entry by_text es k v) ≡ insert_entry (slice_cmp nat_cmp) (map seen_entry es) k.now v.now
        → map seen_entry (match_ordering o ((k, v) ∷ e ∷ es) ((e.0, v) ∷ es) (e ∷ insert_entry by_text es k v))
        ≡ match_ordering o ((k.now, v.now) ∷ seen_entry e ∷ map seen_entry es) ((e.0.now, v.now) ∷ map seen_entry es) (seen_entry e ∷ insert_entry (slice_cmp nat_cmp) (map seen_entry es) k.now v.now)
    by Less h = refl
    by Equal h = refl
    by Greater h = ap (λ rest. seen_entry e ∷ rest) h

-- one more source
pub entered_step : (old new : List (Bor (List ℕ) × Bor Json)) (xs : List Named) (i : ℕ) (x : Named) (k : Bor (List ℕ)) (v : Bor Json) (r : List (List ℕ × Json))
    → i < length xs → x ≡ get_or xs i x → k.now ≡ x.name → v.now ≡ x.root → new ≡ insert_entry by_text old k v
    → entered (map seen_entry old) (drop i xs) ≡ r → entered (map seen_entry new) (drop (i + 1) xs) ≡ r
entered_step old new xs i x k v r inside is named stands more before =
    ap (λ es. entered (map seen_entry es) (drop (i + 1) xs)) more
    ∙ ap (λ es. entered es (drop (i + 1) xs)) (seen_inserted old k v ∙ ap₂ (insert_entry (slice_cmp nat_cmp) (map seen_entry old)) named stands)
    ∙ sym (ap (entered (map seen_entry old)) (drop-cons xs i x inside ∙ ap₂ (λ y k. y ∷ drop k xs) (sym is) (sym (add-one i))))
    ∙ before
