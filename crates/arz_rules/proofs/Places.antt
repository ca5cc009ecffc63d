-- The least place of parts of a list.
use Rattle.std.proofs.Common.{◌≡◌, List, [], ◌∷◌, ◌++◌, Option, Some, None, option_map, Bool, true, false, cond, refl, sym, ap, ◌∙◌}
use Rattle.std.specs.declared.cmp.Ordering.{Ordering}
use Rattle.std.specs.declared.cmp.Ordering.TheVariants.{Less, Equal, Greater}
use Rattle.std.specs.Ordering.{is_gt, ordering_reverse, ordering_then}
use Rattle.std.specs.Cmp.{IsTotalOrder}
use Rattle.std.proofs.lemmas.Cmp.{nat_list_cmp_total, nat_cmp_total, lists_total, tied_itself, upto}
use Rattle.arz_json.specs.declared.place.Token.{Token}
use Rattle.arz_json.specs.declared.place.Token.TheVariants.{Name, Index}
use Rattle.arz_rules.specs.Place.{token_cmp, tokens_cmp, lesser, least, under}

token_antisymm : (x y : Token) → token_cmp x y ≡ ordering_reverse (token_cmp y x)
token_antisymm (Name a) (Name b) = nat_list_cmp_total.antisymm a b
token_antisymm (Name a) (Index k) = refl
token_antisymm (Index i) (Name b) = refl
token_antisymm (Index i) (Index k) = nat_cmp_total.antisymm i k

token_trans : (x y z : Token) → token_cmp x y ≡ Less → token_cmp y z ≡ Less → token_cmp x z ≡ Less
token_trans (Name a) (Name b) (Name c) p q = nat_list_cmp_total.trans a b c p q
token_trans (Name a) (Name b) (Index k) p q = refl
token_trans (Name a) (Index j) (Name c) p q = absurd (cc)
token_trans (Name a) (Index j) (Index k) p q = refl
token_trans (Index i) (Name b) z p q = absurd (cc)
token_trans (Index i) (Index j) (Name c) p q = absurd (cc)
token_trans (Index i) (Index j) (Index k) p q = nat_cmp_total.trans i j k p q

token_congr : (x y z : Token) → token_cmp x y ≡ Equal → token_cmp x z ≡ token_cmp y z
token_congr (Name a) (Name b) (Name c) p = nat_list_cmp_total.congr a b c p
token_congr (Name a) (Name b) (Index k) p = refl
token_congr (Name a) (Index j) z p = absurd (cc)
token_congr (Index i) (Name b) z p = absurd (cc)
token_congr (Index i) (Index j) (Name c) p = refl
token_congr (Index i) (Index j) (Index k) p = nat_cmp_total.congr i j k p

token_total : IsTotalOrder token_cmp
token_total = record { antisymm = token_antisymm; trans = token_trans; congr = token_congr }

pub tokens_total : IsTotalOrder tokens_cmp
tokens_total = lists_total token_total

-- ---- the lesser of places, in any grouping

is_gt_reverse : (o : Ordering) → is_gt o ≡ true → is_gt (ordering_reverse o) ≡ false
is_gt_reverse Less e = absurd (cc)
is_gt_reverse Equal e = absurd (cc)
is_gt_reverse Greater e = refl

-- what is above another has that one below it
pub turned : (p q : List Token) → is_gt (tokens_cmp p q) ≡ true → is_gt (tokens_cmp q p) ≡ false
turned p q e = ap is_gt (tokens_total.antisymm q p) ∙ is_gt_reverse (tokens_cmp p q) e

grouped_by : (p q r : List Token) (a b c : Bool) → is_gt (tokens_cmp p q) ≡ a → is_gt (tokens_cmp q r) ≡ b → is_gt (tokens_cmp p r) ≡ c
    → lesser (cond a (Some q) (Some p)) (Some r) ≡ lesser (Some p) (cond b (Some r) (Some q))
grouped_by p q r true true true e f g = ap (λ x. cond x (Some r) (Some q)) f ∙ sym (ap (λ x. cond x (Some r) (Some p)) g)
grouped_by p q r true true false e f g = absurd (cc (upto tokens_total q p r (turned p q e) g))
grouped_by p q r true false c e f g = ap (λ x. cond x (Some r) (Some q)) f ∙ sym (ap (λ x. cond x (Some q) (Some p)) e)
grouped_by p q r false true c e f g = refl
grouped_by p q r false false true e f g = absurd (cc (upto tokens_total p q r e f))
grouped_by p q r false false false e f g = ap (λ x. cond x (Some r) (Some p)) g ∙ sym (ap (λ x. cond x (Some q) (Some p)) e)

pub lesser_none : (a : Option (List Token)) → lesser a None ≡ a
lesser_none None = refl
lesser_none (Some p) = refl

pub lesser_grouped : (a b c : Option (List Token)) → lesser (lesser a b) c ≡ lesser a (lesser b c)
lesser_grouped None b c = refl
lesser_grouped (Some p) None c = refl
lesser_grouped (Some p) (Some q) None = lesser_none _
lesser_grouped (Some p) (Some q) (Some r) = grouped_by p q r (is_gt (tokens_cmp p q)) (is_gt (tokens_cmp q r)) (is_gt (tokens_cmp p r)) refl refl refl

pub least-append : (ps qs : List (List Token)) → least (ps ++ qs) ≡ lesser (least ps) (least qs)
least-append [] qs = refl
least-append (p ∷ ps) qs = ap (lesser (Some p)) (least-append ps qs) ∙ sym (lesser_grouped (Some p) (least ps) (least qs))

root_order : (q : List Token) → is_gt (tokens_cmp [] q) ≡ false
root_order [] = refl
root_order (t ∷ q) = refl

root_lesser : (o : Option (List Token)) → lesser (Some []) o ≡ Some []
root_lesser None = refl
root_lesser (Some q) = ap (λ b. cond b (Some q) (Some [])) (root_order q)

-- the whole tree's place is least
pub least-root : (ps : List (List Token)) → least ([] ∷ ps) ≡ Some []
least-root ps = root_lesser (least ps)

below_cmp : (t : Token) (p q : List Token) → tokens_cmp (t ∷ p) (t ∷ q) ≡ tokens_cmp p q
below_cmp t p q = ap (λ o. ordering_then o (tokens_cmp p q)) (tied_itself token_total t)

choice_below : (t : Token) (p q : List Token) (b : Bool) → cond b (Some (t ∷ q)) (Some (t ∷ p)) ≡ option_map (λ q. t ∷ q) (cond b (Some q) (Some p))
choice_below t p q true = refl
choice_below t p q false = refl

lesser_below : (t : Token) (p : List Token) (o : Option (List Token)) → lesser (Some (t ∷ p)) (option_map (λ q. t ∷ q) o) ≡ option_map (λ q. t ∷ q) (lesser (Some p) o)
lesser_below t p None = refl
lesser_below t p (Some q) = ap (λ o. cond (is_gt o) (Some (t ∷ q)) (Some (t ∷ p))) (below_cmp t p q) ∙ choice_below t p q (is_gt (tokens_cmp p q))

pub least-under : (t : Token) (ps : List (List Token)) → least (under t ps) ≡ option_map (λ p. t ∷ p) (least ps)
least-under t [] = refl
least-under t (p ∷ ps) = ap (lesser (Some (t ∷ p))) (least-under t ps) ∙ lesser_below t p (least ps)
