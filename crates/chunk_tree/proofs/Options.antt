-- What is said of a slot's value.
use Rattle.std.proofs.Common.{◌≡◌, Option, Some, None, IsSomeAnd, IfSome, refl, subst, sym}

-- it holds of the value where it holds of each value that there can be
pub if_known : {A : Type 0} (o : Option A) (Q : A → Type 0) → ((n : A) → o ≡ Some n → Q n) → IfSome o Q
if_known None Q f = tt
if_known (Some n) Q f = f n refl

-- the value that there is has it
pub at_known : {A : Type 0} (o : Option A) (Q : A → Type 0) (n : A) → o ≡ Some n → IfSome o Q → Q n
at_known o Q n e h = subst (λ v. IfSome v Q) e h

-- the value, and that it has it
pub record Known {A : Type 0} (o : Option A) (P : A → Type 0) : Type 0 where
  pub value : A
  pub is : o ≡ Some value
  pub has : P value

-- there is a value, and it has it
pub known : {A : Type 0} (o : Option A) (P : A → Type 0) → IsSomeAnd o P → Known o P
known None P h = absurd h
known (Some n) P h = record { value = n; is = refl; has = h }

-- the other way round
pub and_known : {A : Type 0} (o : Option A) (P : A → Type 0) (n : A) → o ≡ Some n → P n → IsSomeAnd o P
and_known o P n e h = subst (λ v. IsSomeAnd v P) (sym e) h

-- what the value that there is has
pub unknown : {A : Type 0} (o : Option A) (Q : A → Type 0) (n : A) → o ≡ Some n → Q n → IfSome o Q
unknown o Q n e h = subst (λ v. IfSome v Q) (sym e) h
