-- What holds of the value in an option, along the calls that make one of another.
use Rattle.std.proofs.Common.{◌≡◌, Option, Some, None, option_map, option_and_then, IfSome, refl, subst}
use Rattle.arz_expr.specs.Reading.{chosen}

pub none_unless : {X : Type 0} (o : Option X) → ((x : X) → o ≡ Some x → ⊥) → o ≡ None
none_unless None h = refl
none_unless (Some x) h = absurd (h x refl)

pub if_some : {X : Type 0} (o : Option X) (P : X → Type 0) → ((x : X) → o ≡ Some x → P x) → IfSome o P
if_some None P h = tt
if_some (Some x) P h = h x refl

pub from_some : {X : Type 0} (o : Option X) (P : X → Type 0) (x : X) → IfSome o P → o ≡ Some x → P x
from_some {X} o P x h e = let F : Option X → Type 0 = λ o. IfSome o P in subst F e h

pub map_if : {X Y : Type 0} (o : Option X) (f : X → Y) (P : X → Type 0) (Q : Y → Type 0) → IfSome o P → ((x : X) → P x → Q (f x)) → IfSome (option_map f o) Q
map_if None f P Q h g = tt
map_if (Some x) f P Q h g = g x h

pub bind_if : {X Y : Type 0} (o : Option X) (f : X → Option Y) (P : X → Type 0) (Q : Y → Type 0) → IfSome o P → ((x : X) → P x → IfSome (f x) Q) → IfSome (option_and_then f o) Q
bind_if None f P Q h g = tt
bind_if (Some x) f P Q h g = g x h

pub chosen_if : {X Y : Type 0} (o : Option X) (f : X → Option Y) (other : Option Y) (P : X → Type 0) (Q : Y → Type 0) → IfSome o P → ((x : X) → P x → IfSome (f x) Q) → IfSome other Q → IfSome (chosen o f other) Q
chosen_if None f other P Q h g k = k
chosen_if (Some x) f other P Q h g k = g x h

pub chosen-same : {X Y : Type 0} (o : Option X) (f g : X → Y) (other : Y) → ((x : X) → o ≡ Some x → f x ≡ g x) → chosen o f other ≡ chosen o g other
chosen-same None f g other h = refl
chosen-same (Some x) f g other h = h x refl
