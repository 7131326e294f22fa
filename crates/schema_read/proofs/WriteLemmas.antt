-- Texts that grow at their end.
use Rattle.std.proofs.Common.{◌≡◌, ℕ, ◌++◌, List, ap, sym, ◌∙◌}
use Rattle.std.proofs.lemmas.List.{append_assoc}
use Rattle.schema_read.specs.Canonical.{Extends}

-- something is behind it, and something more
pub Extends-more : (old middle new part : List ℕ) → middle ≡ old ++ part → Extends middle new → Extends old new
Extends-more old middle new part e h = (part ++ h.0, sym (append_assoc old part h.0) ∙ ap (λ t. t ++ h.0) (sym e) ∙ h.1)
