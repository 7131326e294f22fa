-- Readings in order: what is read, or the first fault.
use Rattle.std.specs.Prelude.{ℕ, Bool, true, false, List, [], ◌∷◌, ◌++◌, Option, Some, option_map, option_and_then, Result, Ok, Err, nat_eq}
use Rattle.std.specs.Cmp.Lexicographic.{pointwise}
use Rattle.tns_io.specs.declared.faults.FileCause.{FileCause}
use Rattle.tns_io.specs.declared.faults.FileFault.{FileFault}
use Rattle.tns_io.specs.Faults.{fault_at}

infixl 10 ◌>>=◌
-- a second reading, where the first one succeeds
abbrev pub ◌>>=◌ : {X Y E : Type 0} → Result X E → (X → Result Y E) → Result Y E
Ok x >>= f = f x
Err e >>= f = Err e

-- a fault, unless a test passes
abbrev pub check : {E : Type 0} → Bool → E → Result (Unit {0}) E
check true e = Ok tt
check false e = Err e

-- the reading of a line with this number
abbrev pub at_line : {X : Type 0} → ℕ → Result X FileCause → Result X FileFault
at_line n (Ok x) = Ok x
at_line n (Err cause) = Err (fault_at n cause)

-- the value of each element, where each has one
abbrev pub every : {X Y : Type 0} → (X → Option Y) → List X → Option (List Y)
every f [] = Some []
every f (x ∷ xs) = option_and_then (λ y. option_map (λ ys. y ∷ ys) (every f xs)) (f x)

-- each element is read after those before it, and what is read is put behind what they gave
abbrev pub each_after : {X Y E : Type 0} → (List Y → X → Result Y E) → List Y → List X → Result (List Y) E
each_after read before [] = Ok before
each_after read before (x ∷ xs) = read before x >>= (λ y. each_after read (before ++ y ∷ []) xs)

-- whether a word is this text
abbrev pub equals_text : List ℕ → List ℕ → Bool
equals_text text word = pointwise nat_eq word text
