-- What is below a tree, a level at a time.
use Rattle.std.proofs.Common.{◌≡◌, ℕ, ℤ, ◌+◌, List, [], ◌∷◌, ◌++◌, map, Option, Some, None, refl, sym, ap, subst, ap₂, ◌∙◌, append_assoc, append-nil}
use Rattle.std.proofs.lemmas.List.{map-append}
use Rattle.std.specs.List.{enumerate_from, flat_map}
use Rattle.arz_json.specs.declared.tree.Json.{Json}
use Rattle.arz_json.specs.declared.tree.Json.TheOpen.{Json-F}
use Rattle.arz_json.specs.declared.tree.Json.TheFolds.{para-Member, para-roll-Json, para-roll-Member, map-Json}
use Rattle.arz_json.specs.declared.tree.Json.TheVariants.{List as ListOf, Object, rolls-List, rolls-Object}
use Rattle.arz_json.specs.declared.tree.Json.TheViews.{roll-Json, out-Json, roll-out-Json, out-roll-Json, out-Member, roll-out-Member}
use Rattle.arz_json.specs.declared.tree.Member.{Member}
use Rattle.arz_json.specs.declared.place.Token.{Token}
use Rattle.arz_json.specs.declared.place.Token.TheVariants.{Name, Index}
use Rattle.arz_json.specs.declared.tree.Json.TheVariants.{Int, rolls-Int}
use Rattle.std.specs.Prelude.{filter, option_map}
use Rattle.arz_path.specs.Tree.{Node, preorder, under, below, below_step, named_child, with_child, items_in, members_in, items_of, members_of, item_child, member_child, children}
use Rattle.arz_path.specs.Selected.{is_name}
use Rattle.arz_path.specs.Spots.{Spot, placed as placed_at, further, down, down_all}
use Rattle.arz_path.specs.Seen.{item_nodes, member_nodes, ahead}

pub below-List : (js : List Json) → below (ListOf js) ≡ below_step (Json-F.List (map (λ j. (j, below j)) js))
below-List js = ap below (sym (rolls-List js)) ∙ para-roll-Json (List Node) (List ℕ × (Json × List Node)) below_step named_child (Json-F.List js)

pub below-Int : (z : ℤ) → below (Int z) ≡ []
below-Int z = ap below (sym (rolls-Int z)) ∙ para-roll-Json (List Node) (List ℕ × (Json × List Node)) below_step named_child (Json-F.Int z)

para_member : Member → List ℕ × (Json × List Node)
para_member = para-Member (List Node) (List ℕ × (Json × List Node)) below_step named_child

at_member : (m : Member) → para_member m ≡ (m.name, (m.value, below m.value))
unfolding para_member
at_member m = ap para_member (sym (roll-out-Member m)) ∙ para-roll-Member (List Node) (List ℕ × (Json × List Node)) below_step named_child (out-Member m)

at_members : (ms : List Member) → flat_map (λ (p : Member × (List ℕ × (Json × List Node))). with_child (Name p.1.0) p.1.1) (map (λ m. (m, para_member m)) ms) ≡ flat_map (λ m. with_child (Name m.name) (m.value, below m.value)) ms
at_members [] = refl
at_members (m ∷ ms) = ap₂ (λ (x : List ℕ × (Json × List Node)) (more : List Node). with_child (Name x.0) x.1 ++ more) (at_member m) (at_members ms)

pub below-Object : (ms : List Member) → below (Object ms) ≡ flat_map (λ m. with_child (Name m.name) (m.value, below m.value)) ms
unfolding para_member
below-Object ms = ap below (sym (rolls-Object ms)) ∙ para-roll-Json (List Node) (List ℕ × (Json × List Node)) below_step named_child (Json-F.Object ms) ∙ at_members ms

-- ---- a node and all below it

abbrev pub placed : List Token → Node → Node
placed p d = (p ++ d.0, d.1)

at_child : (p : List Token) (t : Token) (ns : List Node) → map (placed p) (under t ns) ≡ map (placed (p ++ t ∷ [])) ns
at_child p t [] = refl
at_child p t (n ∷ ns) = ap₂ (λ (q : List Token) (more : List Node). (q, n.1) ∷ more) (sym (append_assoc p (t ∷ []) n.0)) (at_child p t ns)

pub placed_child : (p : List Token) (t : Token) (j : Json) → map (placed p) (with_child t (j, below j)) ≡ preorder (p ++ t ∷ [], j)
placed_child p t j = ap (λ more. (p ++ t ∷ [], j) ∷ more) (at_child p t (below j))

placed_items : (p : List Token) (i : ℕ) (js : List Json) →
    map (placed p) (flat_map (λ q. with_child (Index q.0) q.1) (enumerate_from i (map (λ j. (j, below j)) js))) ≡ item_nodes p i js
placed_items p i [] = refl
placed_items p i (j ∷ js) = map-append (placed p) (with_child (Index i) (j, below j)) _ ∙ ap₂ (λ (xs ys : List Node). xs ++ ys) (placed_child p (Index i) j) (placed_items p (i + 1) js)

placed_members : (p : List Token) (ms : List Member) →
    map (placed p) (flat_map (λ m. with_child (Name m.name) (m.value, below m.value)) ms) ≡ member_nodes p ms
placed_members p [] = refl
placed_members p (m ∷ ms) = map-append (placed p) (with_child (Name m.name) (m.value, below m.value)) _ ∙ ap₂ (λ (xs ys : List Node). xs ++ ys) (placed_child p (Name m.name) m.value) (placed_members p ms)

pub preorder-List : (p : List Token) (js : List Json) → preorder (p, ListOf js) ≡ (p, ListOf js) ∷ item_nodes p 0 js
preorder-List p js = ap (λ more. (p, ListOf js) ∷ more) (ap (map (placed p)) (below-List js) ∙ placed_items p 0 js)

pub preorder-Object : (p : List Token) (ms : List Member) → preorder (p, Object ms) ≡ (p, Object ms) ∷ member_nodes p ms
preorder-Object p ms = ap (λ more. (p, Object ms) ∷ more) (ap (map (placed p)) (below-Object ms) ∙ placed_members p ms)

-- a tree by its level
each_level : (P : Json → Type 0) → ((d : Json-F Json Member) → P (roll-Json d)) → (j : Json) → P j
each_level P h j = subst P (roll-out-Json j) (h (out-Json j))

level : Json-F Json Member → List Node
level d = below_step (map-Json Json Member (Json × List Node) (Member × (List ℕ × (Json × List Node))) (λ j. (j, below j)) (λ m. (m, para_member m)) d)

level_nodes : (p : List Token) (d : Json-F Json Member) → map (placed p) (level d) ≡ item_nodes p 0 (items_in d) ++ member_nodes p (members_in d)
unfolding level para_member
level_nodes p (Json-F.List js) = placed_items p 0 js ∙ sym (append-nil (item_nodes p 0 js))
level_nodes p (Json-F.Object ms) = ap (map (placed p)) (at_members ms) ∙ placed_members p ms
level_nodes p Json-F.Null = refl
level_nodes p (Json-F.Flag b) = refl
level_nodes p (Json-F.Int z) = refl
level_nodes p (Json-F.Text s) = refl
level_nodes p Json-F.Opaque = refl

below_nodes : (p : List Token) (d : Json-F Json Member) →
    map (placed p) (below (roll-Json d)) ≡ item_nodes p 0 (items_of (roll-Json d)) ++ member_nodes p (members_of (roll-Json d))
unfolding level para_member
below_nodes p d = ap (map (placed p)) (para-roll-Json (List Node) (List ℕ × (Json × List Node)) below_step named_child d) ∙ level_nodes p d
    ∙ ap (λ (o : Json-F Json Member). item_nodes p 0 (items_in o) ++ member_nodes p (members_in o)) (sym (out-roll-Json d))

pub preorder_nodes : (p : List Token) (j : Json) → preorder (p, j) ≡ (p, j) ∷ (item_nodes p 0 (items_of j) ++ member_nodes p (members_of j))
preorder_nodes p j = ap (λ more. (p, j) ∷ more) (each_level (λ j. map (placed p) (below j) ≡ item_nodes p 0 (items_of j) ++ member_nodes p (members_of j)) (below_nodes p) j)

at_items : (d : Json-F Json Member) → ((js : List Json) → roll-Json d ≡ ListOf js → ⊥) → items_of (roll-Json d) ≡ []
at_items (Json-F.List js) h = absurd (h js (rolls-List js))
at_items (Json-F.Object ms) h = ap items_in (out-roll-Json (Json-F.Object ms))
at_items Json-F.Null h = ap items_in (out-roll-Json Json-F.Null)
at_items (Json-F.Flag b) h = ap items_in (out-roll-Json (Json-F.Flag b))
at_items (Json-F.Int z) h = ap items_in (out-roll-Json (Json-F.Int z))
at_items (Json-F.Text s) h = ap items_in (out-roll-Json (Json-F.Text s))
at_items Json-F.Opaque h = ap items_in (out-roll-Json Json-F.Opaque)

pub no_items : (j : Json) → ((js : List Json) → j ≡ ListOf js → ⊥) → items_of j ≡ []
no_items j h = each_level (λ j. ((js : List Json) → j ≡ ListOf js → ⊥) → items_of j ≡ []) at_items j h

at_members_of : (d : Json-F Json Member) → ((ms : List Member) → roll-Json d ≡ Object ms → ⊥) → members_of (roll-Json d) ≡ []
at_members_of (Json-F.Object ms) h = absurd (h ms (rolls-Object ms))
at_members_of (Json-F.List js) h = ap members_in (out-roll-Json (Json-F.List js))
at_members_of Json-F.Null h = ap members_in (out-roll-Json Json-F.Null)
at_members_of (Json-F.Flag b) h = ap members_in (out-roll-Json (Json-F.Flag b))
at_members_of (Json-F.Int z) h = ap members_in (out-roll-Json (Json-F.Int z))
at_members_of (Json-F.Text s) h = ap members_in (out-roll-Json (Json-F.Text s))
at_members_of Json-F.Opaque h = ap members_in (out-roll-Json Json-F.Opaque)

pub no_members : (j : Json) → ((ms : List Member) → j ≡ Object ms → ⊥) → members_of j ≡ []
no_members j h = each_level (λ j. ((ms : List Member) → j ≡ Object ms → ⊥) → members_of j ≡ []) at_members_of j h

-- ---- the children with a name are members

no_names : (k : List ℕ) (i : ℕ) (js : List Json) (rest : List (Token × Json)) →
    filter (λ c. is_name k c.0) (map item_child (enumerate_from i js) ++ rest) ≡ filter (λ c. is_name k c.0) rest
no_names k i [] rest = refl
no_names k i (x ∷ js) rest = no_names k (i + 1) js rest

pub named_children : (k : List ℕ) (j : Json) → filter (λ c. is_name k c.0) (children j) ≡ filter (λ c. is_name k c.0) (map member_child (members_of j))
named_children k j = no_names k 0 (items_of j) (map member_child (members_of j))

-- ---- a node and all below it, child by child

abbrev child_nodes : Token × Json → List Node
child_nodes c = with_child c.0 (c.1, below c.1)

items_children : (i : ℕ) (js : List Json) →
    flat_map (λ (q : ℕ × (Json × List Node)). with_child (Index q.0) q.1) (enumerate_from i (map (λ j. (j, below j)) js)) ≡ flat_map child_nodes (map item_child (enumerate_from i js))
items_children i [] = refl
items_children i (j ∷ js) = ap (λ more. with_child (Index i) (j, below j) ++ more) (items_children (i + 1) js)

members_children : (ms : List Member) → flat_map (λ m. with_child (Name m.name) (m.value, below m.value)) ms ≡ flat_map child_nodes (map member_child ms)
members_children [] = refl
members_children (m ∷ ms) = ap (λ more. with_child (Name m.name) (m.value, below m.value) ++ more) (members_children ms)

level_children : (d : Json-F Json Member) → level d ≡ flat_map child_nodes (map item_child (enumerate_from 0 (items_in d)) ++ map member_child (members_in d))
unfolding level para_member
level_children (Json-F.List js) = items_children 0 js ∙ ap (flat_map child_nodes) (sym (append-nil (map item_child (enumerate_from 0 js))))
level_children (Json-F.Object ms) = at_members ms ∙ members_children ms
level_children Json-F.Null = refl
level_children (Json-F.Flag b) = refl
level_children (Json-F.Int z) = refl
level_children (Json-F.Text s) = refl
level_children Json-F.Opaque = refl

below_level : (d : Json-F Json Member) → below (roll-Json d) ≡ flat_map child_nodes (children (roll-Json d))
unfolding level para_member
below_level d = para-roll-Json (List Node) (List ℕ × (Json × List Node)) below_step named_child d ∙ level_children d
    ∙ ap (λ (o : Json-F Json Member). flat_map child_nodes (map item_child (enumerate_from 0 (items_in o)) ++ map member_child (members_in o))) (sym (out-roll-Json d))

below_children : (j : Json) → below j ≡ flat_map child_nodes (children j)
below_children j = each_level (λ j. below j ≡ flat_map child_nodes (children j)) below_level j

under_placed : (p : Option (List Token)) (t : Token) (ns : List Node) → map (placed_at p) (under t ns) ≡ map (placed_at (further p t)) ns
under_placed p t [] = refl
under_placed None t (n ∷ ns) = ap (λ (more : List Spot). (None, n.1) ∷ more) (under_placed None t ns)
under_placed (Some q) t (n ∷ ns) = ap₂ (λ (r : List Token) (more : List Spot). (Some r, n.1) ∷ more) (sym (append_assoc q (t ∷ []) n.0)) (under_placed (Some q) t ns)

child_down : (p : Option (List Token)) (c : Token × Json) → map (placed_at p) (child_nodes c) ≡ down (further p c.0, c.1)
unfolding down
child_down p c = ap (λ (more : List Spot). (further p c.0, c.1) ∷ more) (under_placed p c.0 (below c.1))

children_down : (p : Option (List Token)) (cs : List (Token × Json)) → map (placed_at p) (flat_map child_nodes cs) ≡ down_all p cs
children_down p [] = refl
children_down p (c ∷ cs) = map-append (placed_at p) (child_nodes c) (flat_map child_nodes cs) ∙ ap₂ (λ (xs ys : List Spot). xs ++ ys) (child_down p c) (children_down p cs)

down_placed : (s : Spot) → down s ≡ s ∷ map (placed_at s.0) (below s.1)
unfolding down
down_placed s = refl

pub down_children : (s : Spot) → down s ≡ s ∷ down_all s.0 (children s.1)
down_children s = down_placed s ∙ ap (λ (more : List Spot). s ∷ more) (ap (map (placed_at s.0)) (below_children s.1) ∙ children_down s.0 (children s.1))

rest_placed : (p : Option (List Token)) (q : List Token) (ds : List Node) →
    map (placed_at p) (map (λ d. (q ++ d.0, d.1)) ds) ≡ map (placed_at (option_map (λ r. r ++ q) p)) ds
rest_placed p q [] = refl
rest_placed None q (d ∷ ds) = ap (λ (more : List Spot). (None, d.1) ∷ more) (rest_placed None q ds)
rest_placed (Some r) q (d ∷ ds) = ap₂ (λ (t : List Token) (more : List Spot). (Some t, d.1) ∷ more) (sym (append_assoc r q d.0)) (rest_placed (Some r) q ds)

pub preorder_down : (p : Option (List Token)) (n : Node) → map (placed_at p) (preorder n) ≡ down (placed_at p n)
unfolding down
preorder_down p n = ap (λ (more : List Spot). placed_at p n ∷ more) (rest_placed p n.0 (below n.1))

-- the node where a walk stands comes first
pub ahead_first : (w : Spot × List Spot) → ahead w ≡ w.0 ∷ (down_all w.0.0 (children w.0.1) ++ w.1)
ahead_first w = ap (λ (ss : List Spot). ss ++ w.1) (down_children w.0)
