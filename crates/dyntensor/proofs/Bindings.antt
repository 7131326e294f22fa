-- Readings one after the other.
use Rattle.std.proofs.Common.{◌≡◌, ℕ, List, refl, ap, Result, Ok, Err}
use Rattle.tns_io.specs.declared.faults.FileFault.{FileFault}
use Rattle.script_read.specs.Readings.{◌>>=◌}
use Rattle.script_read.proofs.ReadingsLemmas.{Ok-same, Err-Ok}
use Rattle.dyntensor.specs.declared.faults.Fault.{Fault}
use Rattle.dyntensor.specs.Files.{fault_in, located}

-- a first reading succeeded, and then the second
pub bind-Ok : {X Y E : Type 0} (r : Result X E) (f : X → Result Y E) (y : Y) → (r >>= f) ≡ Ok y → (x : X) × (r ≡ Ok x) × (f x ≡ Ok y)
bind-Ok (Ok x) f y h = (x, refl, h)
bind-Ok (Err e) f y h = absurd (Err-Ok e y h)

-- the second reading comes where the first succeeds
pub bind-of : {X Y E : Type 0} (r : Result X E) (f : X → Result Y E) (x : X) → r ≡ Ok x → (r >>= f) ≡ f x
bind-of r f x e = ap (λ r. r >>= f) e

-- the fault of the first reading
pub bind-Err : {X Y E : Type 0} (r : Result X E) (f : X → Result Y E) (e : E) → r ≡ Err e → (r >>= f) ≡ Err e
bind-Err r f e h = ap (λ r. r >>= f) h

-- a text that was read
pub located-Ok : {X : Type 0} (file : List ℕ) (r : Result X FileFault) (x : X) → located file r ≡ Ok x → r ≡ Ok x
located-Ok file (Ok y) x h = ap Ok (Ok-same {E = Fault} y x h)
located-Ok file (Err e) x h = absurd (Err-Ok (fault_in file e) x h)
