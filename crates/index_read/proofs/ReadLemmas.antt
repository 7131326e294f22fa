-- One token more.
use Rattle.std.proofs.Common.{◌≡◌, ℕ, List, ◌∷◌, Ok, refl}
use Rattle.dt_text.specs.declared.spans.Span.{Span}
use Rattle.dt_text.specs.Spans.{bytes_of}
use Rattle.index_read.specs.declared.scan.Scan.{Scan}
use Rattle.index_read.specs.declared.roles.Role.{Role}
use Rattle.index_read.specs.declared.trees.Tree.{Tree}
use Rattle.index_read.specs.Tokens.{token_of}
use Rattle.index_read.specs.Scans.{step}
use Rattle.index_read.specs.Faults.{fault_from}
use Rattle.index_read.specs.Building.{read_from, with_role}

-- behind a token that is read stands what is left
pub fault_from-ok : (text : List ℕ) (s r : Scan) (role : Role) (end : ℕ) (x : Span) (xs all : List Span) → all ≡ x ∷ xs
    → step s (token_of (bytes_of text x)) ≡ Ok (r, role)
    → fault_from text r x.to xs ≡ fault_from text s end all
fault_from-ok text s r role end x xs all split e = rw (split, e) refl

-- behind a token that is read is the tree with its role
pub read_from-ok : (text : List ℕ) (s r : Scan) (t u : Tree) (role : Role) (x : Span) (xs all : List Span) → all ≡ x ∷ xs
    → step s (token_of (bytes_of text x)) ≡ Ok (r, role) → u ≡ with_role t role r.vars.items
    → read_from text r u xs ≡ read_from text s t all
read_from-ok text s r t u role x xs all split e f = rw (split, e, f) refl
