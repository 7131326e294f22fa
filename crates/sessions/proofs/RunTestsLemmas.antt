-- The scripts and seats of the tests of runs.
use Rattle.std.proofs.Common.{◌≡◌, ℕ, ◌+◌, List, [], length, refl, sym, subst, arith}
use Rattle.dt_model.specs.declared.replies.Verdict.{Verdict}
use Rattle.sessions.specs.RunTests.{IsBuilt, AreBuilt}

-- no lines
pub IsBuilt-none : IsBuilt 0 []
IsBuilt-none = record { count = refl; valid = λ i d b. absurd (omega (arith, b)) }

-- a script by its own length
pub IsBuilt-length : (n : ℕ) (script : List Verdict) → IsBuilt n script → IsBuilt (length script) script
IsBuilt-length n script built = record { count = refl; valid = built.valid }

-- the length of a script that is one line longer
pub IsBuilt-next : (n : ℕ) (old new : List Verdict) → IsBuilt n old → IsBuilt (length old + 1) new → IsBuilt (n + 1) new
IsBuilt-next n old new was built = subst (λ (k : ℕ). IsBuilt (k + 1) new) was.count built

-- no scripts
pub AreBuilt-none : (n : ℕ) → AreBuilt 0 n []
AreBuilt-none n = record { count = refl; each = λ i d b. absurd (omega (arith, b)) }

-- the number of scripts that are one more
pub AreBuilt-next : (m n : ℕ) (old new : List (List Verdict)) → AreBuilt m n old → AreBuilt (length old + 1) n new → AreBuilt (m + 1) n new
AreBuilt-next m n old new was built = subst (λ (k : ℕ). AreBuilt (k + 1) n new) was.count built

-- no scripts, in a list that is empty
pub AreBuilt-empty : (n : ℕ) (scripts : List (List Verdict)) → scripts ≡ [] → AreBuilt 0 n scripts
AreBuilt-empty n scripts is = subst (AreBuilt 0 n) (sym is) (AreBuilt-none n)

-- no lines, in a list that is empty
pub IsBuilt-empty : (script : List Verdict) → script ≡ [] → IsBuilt 0 script
IsBuilt-empty script is = subst (IsBuilt 0) (sym is) IsBuilt-none

-- scripts by their own number
pub AreBuilt-length : (m n : ℕ) (scripts : List (List Verdict)) → AreBuilt m n scripts → AreBuilt (length scripts) n scripts
AreBuilt-length m n scripts built = record { count = refl; each = built.each }
