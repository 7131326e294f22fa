-- One token more.
use Rattle.std.proofs.Common.{◌≡◌, ℕ, List, ◌∷◌, Ok, refl}
use Rattle.dt_text.specs.declared.spans.Span.{Span}
use Rattle.dt_text.specs.Spans.{bytes_of}
use Rattle.schema_read.specs.declared.scan.Scan.{Scan}
use Rattle.schema_read.specs.declared.roles.Role.{Role}
use Rattle.schema_read.specs.declared.draft.Draft.{Draft}
use Rattle.schema_read.specs.Tokens.{token_of}
use Rattle.schema_read.specs.Scans.{step}
use Rattle.schema_read.specs.Building.{with_role}
use Rattle.schema_read.specs.Reading.{read_from}

-- behind a token that is read stands what is left
pub read_from-ok : (text : List ℕ) (s r : Scan) (d e : Draft) (role : Role) (x : Span) (xs all : List Span) → all ≡ x ∷ xs
    → step s (token_of (bytes_of text x)) ≡ Ok (r, role) → e ≡ with_role d role → read_from text r e xs ≡ read_from text s d all
read_from-ok text s r d e role x xs all split f g = rw (split, f, g) refl
