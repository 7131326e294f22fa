-- Texts that grow at their end. No public clause cites it.
use Rattle.std.specs.Prelude.{ℕ, ◌≡◌, List, ◌++◌}

-- the new text is the old one with something behind it
abbrev pub Extends : List ℕ → List ℕ → Type 0
Extends old new = (rest : List ℕ) × (old ++ rest ≡ new)
