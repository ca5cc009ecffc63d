-- A path of levels that grows and shrinks at its end.
use Rattle.std.proofs.Common.{◌≡◌, List, [], ◌∷◌, ◌++◌, Option, refl, sym, ap, ap₂, ◌∙◌, append_assoc, append-nil}
use Rattle.arz_json.specs.declared.tree.Json.{Json}
use Rattle.arz_json.specs.declared.place.Token.{Token}
use Rattle.arz_path.specs.declared.walk.Level.{Level}
use Rattle.arz_path.specs.Spots.{Spot, further, down, down_all}
use Rattle.arz_path.specs.Seen.{coming, stood, rows, end_of, left_of}

abbrev Row : Type 0
Row = Option (List Token) × List (Token × Json)

rows_snoc : (p : Option (List Token)) (ls : List Level) (l : Level) → rows p (ls ++ l ∷ []) ≡ rows p ls ++ (stood (end_of p (rows p ls)) l.mark, coming l.children) ∷ []
rows_snoc p [] l = refl
rows_snoc p (k ∷ ls) l = ap (λ (more : List Row). (stood p k.mark, coming k.children) ∷ more) (rows_snoc (stood p k.mark) ls l)

end_snoc : (p : Option (List Token)) (rs : List Row) (r : Row) → end_of p (rs ++ r ∷ []) ≡ r.0
end_snoc p [] r = refl
end_snoc p (q ∷ rs) r = end_snoc q.0 rs r

left_snoc : (p : Option (List Token)) (rs : List Row) (r : Row) → left_of p (rs ++ r ∷ []) ≡ down_all (end_of p rs) r.1 ++ left_of p rs
left_snoc p [] r = sym (append-nil (down_all p r.1))
left_snoc p (q ∷ rs) r = ap (λ (ss : List Spot). ss ++ down_all p q.1) (left_snoc q.0 rs r) ∙ append_assoc (down_all (end_of q.0 rs) r.1) (left_of q.0 rs) (down_all p q.1)

-- the place at the end, of a last level
pub end_last : (p : Option (List Token)) (ls : List Level) (l : Level) → end_of p (rows p (ls ++ l ∷ [])) ≡ stood (end_of p (rows p ls)) l.mark
end_last p ls l = ap (end_of p) (rows_snoc p ls l) ∙ end_snoc p (rows p ls) (stood (end_of p (rows p ls)) l.mark, coming l.children)

-- what is left, of a last level
pub left_last : (p : Option (List Token)) (ls : List Level) (l : Level) → left_of p (rows p (ls ++ l ∷ [])) ≡ down_all (end_of p (rows p ls)) (coming l.children) ++ left_of p (rows p ls)
left_last p ls l = ap (left_of p) (rows_snoc p ls l) ∙ left_snoc p (rows p ls) (stood (end_of p (rows p ls)) l.mark, coming l.children)

-- another last level with the same place and the same children
pub same_last : (p : Option (List Token)) (ls ls' : List Level) (l l' : Level) → rows p ls' ≡ rows p ls →
    stood (end_of p (rows p ls)) l'.mark ≡ stood (end_of p (rows p ls)) l.mark → coming l'.children ≡ coming l.children → rows p (ls' ++ l' ∷ []) ≡ rows p (ls ++ l ∷ [])
same_last p ls ls' l l' e h k = rows_snoc p ls' l'
    ∙ ap (λ (rs : List Row). rs ++ (stood (end_of p rs) l'.mark, coming l'.children) ∷ []) e
    ∙ ap₂ (λ (q : Option (List Token)) (cs : List (Token × Json)). rows p ls ++ (q, cs) ∷ []) h k
    ∙ sym (rows_snoc p ls l)

-- at a child of the node at the end, with the children after it as the last level
pub at_child : (p : Option (List Token)) (ls : List Level) (l : Level) (t : Token) (v : Json) → stood (end_of p (rows p ls)) l.mark ≡ further (end_of p (rows p ls)) t →
    down (end_of p (rows p (ls ++ l ∷ [])), v) ++ left_of p (rows p (ls ++ l ∷ [])) ≡ down_all (end_of p (rows p ls)) ((t, v) ∷ coming l.children) ++ left_of p (rows p ls)
at_child p ls l t v e = ap₂ (λ (q : Option (List Token)) (ss : List Spot). down (q, v) ++ ss) (end_last p ls l ∙ e) (left_last p ls l)
    ∙ sym (append_assoc (down (further (end_of p (rows p ls)) t, v)) (down_all (end_of p (rows p ls)) (coming l.children)) (left_of p (rows p ls)))
