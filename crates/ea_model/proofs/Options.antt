-- What holds of what is there, if it is there.
use Rattle.std.proofs.Common.{◌≡◌, ◌∙◌, subst, sym, refl}
use Rattle.std.specs.Prelude.{Option, Some, None, IfSome, IsSome, IsNone, is_some, option_map}

pub if_some : {A : Type 0} (o : Option A) (P Q : A → Type 0) → ((x : A) → P x → Q x) → IfSome o P
    → IfSome o Q
if_some None P Q f h = tt
if_some (Some x) P Q f h = f x h

pub both_some : {A : Type 0} (o : Option A) (P Q R : A → Type 0) → ((x : A) → P x → Q x → R x)
    → IfSome o P → IfSome o Q → IfSome o R
both_some None P Q R f p q = tt
both_some (Some x) P Q R f p q = f x p q

pub some_map : {A B : Type 0} (f : A → B) (P : B → Type 0) (o : Option A) → IfSome o (λ x. P (f x))
    → IfSome (option_map f o) P
some_map f P None h = h
some_map f P (Some x) h = h

-- the value that is there
pub some_value : {A : Type 0} (o : Option A) → IsSome o → (x : A) × (o ≡ Some x)
some_value None h = absurd cc
some_value (Some x) h = (x, refl)

pub some_holds : {A : Type 0} (o : Option A) (x : A) (P : A → Type 0) → o ≡ Some x → IfSome o P
    → P x
some_holds o x P e h = subst (λ r. IfSome r P) e h

-- there is one at most
pub same-some : {A : Type 0} (o : Option A) (x y : A) → o ≡ Some x → o ≡ Some y → x ≡ y
same-some o x y e f = let same : Some x ≡ Some y = sym e ∙ f in cc

pub mapped : {A B : Type 0} (f : A → B) (o : Option A) → IsNone o → IsNone (option_map f o)
mapped f None h = h
mapped f (Some x) h = h

pub unmapped : {A B : Type 0} (f : A → B) (o : Option A) → IsNone (option_map f o) → IsNone o
unmapped f None h = h
unmapped f (Some x) h = h

pub is_some-map : {A B : Type 0} (f : A → B) (o : Option A) → is_some (option_map f o) ≡ is_some o
is_some-map f None = refl
is_some-map f (Some x) = refl
