-- What has been read begins a file, and nothing begins with tokens that stop the table.
use Rattle.std.proofs.Common.{◌≡◌, ℕ, ◌++◌, List, [], ◌∷◌, refl, ap, sym, ◌∙◌, subst, Option, Some, None}
use Rattle.std.specs.Prelude.{IfSome}
use Rattle.std.specs.Option.{option_and_then}
use Rattle.std.proofs.lemmas.List.{append_assoc, append-nil}
use Rattle.schema_read.specs.declared.lexer.Token.{Token}
use Rattle.schema_read.specs.declared.lexer.Token.TheVariants as a
use Rattle.schema_read.specs.declared.roles.Place.{Place}
use Rattle.schema_read.specs.declared.roles.Place.TheVariants as at
use Rattle.schema_read.specs.declared.draft.Draft.{Draft}
use Rattle.schema_read.specs.Roles.{role_of}
use Rattle.schema_read.specs.Building.{no_draft}
use Rattle.schema_read.specs.Grammar.{file_tokens, Begins}
use Rattle.schema_read.proofs.Machine.{go, run}
use Rattle.schema_read.proofs.Sound.{Stands, go-stands}
use Rattle.schema_read.proofs.Complete.{after_schemas, file_run}

append_by : (xs ys : List Token) (m : Option (Place × Draft))
    → ((p : Place) (d : Draft) → run p d (xs ++ ys) ≡ option_and_then (λ u. run u.0 u.1 ys) (run p d xs))
    → option_and_then (λ u. run u.0 u.1 (xs ++ ys)) m ≡ option_and_then (λ u. run u.0 u.1 ys) (option_and_then (λ u. run u.0 u.1 xs) m)
append_by xs ys None h = refl
append_by xs ys (Some r) h = h r.0 r.1

-- a run in two parts
pub run-append : (xs ys : List Token) (p : Place) (d : Draft) → run p d (xs ++ ys) ≡ option_and_then (λ u. run u.0 u.1 ys) (run p d xs)
run-append [] ys p d = refl
run-append (x ∷ xs) ys p d = append_by xs ys (go d (role_of p x)) (λ q e. run-append xs ys q e)

-- ---- what may follow

-- a name
abbrev some_name : List ℕ
some_name = 95 ∷ []

-- tokens that end a schema
abbrev ends_schema : List Token
ends_schema = a.Root ∷ a.Name some_name ∷ a.Close ∷ []

-- tokens that end a kind and its schema
abbrev ends_kind : List Token
ends_kind = a.Close ∷ ends_schema

-- tokens that end a file
abbrev pub ending : Place → List Token
ending at.Outside = []
ending at.SchemaName = a.Name some_name ∷ a.Open ∷ a.Node ∷ a.Name some_name ∷ a.Open ∷ a.Run ∷ a.Number 1 ∷ a.Points ∷ a.Number 1 ∷ a.Woven ∷ ends_kind
ending at.SchemaOpen = a.Open ∷ a.Node ∷ a.Name some_name ∷ a.Open ∷ a.Run ∷ a.Number 1 ∷ a.Points ∷ a.Number 1 ∷ a.Woven ∷ ends_kind
ending at.FirstNode = a.Node ∷ a.Name some_name ∷ a.Open ∷ a.Run ∷ a.Number 1 ∷ a.Points ∷ a.Number 1 ∷ a.Woven ∷ ends_kind
ending at.NextNode = ends_schema
ending at.KindName = a.Name some_name ∷ a.Open ∷ a.Run ∷ a.Number 1 ∷ a.Points ∷ a.Number 1 ∷ a.Woven ∷ ends_kind
ending at.KindOpen = a.Open ∷ a.Run ∷ a.Number 1 ∷ a.Points ∷ a.Number 1 ∷ a.Woven ∷ ends_kind
ending at.Run = a.Run ∷ a.Number 1 ∷ a.Points ∷ a.Number 1 ∷ a.Woven ∷ ends_kind
ending at.Low = a.Number 1 ∷ a.Points ∷ a.Number 1 ∷ a.Woven ∷ ends_kind
ending at.Points = a.Points ∷ a.Number 1 ∷ a.Woven ∷ ends_kind
ending at.High = a.Number 1 ∷ a.Woven ∷ ends_kind
ending at.Links = a.Woven ∷ ends_kind
ending at.Post = a.Name some_name ∷ ends_kind
ending at.Pre = a.Name some_name ∷ a.Post ∷ a.Name some_name ∷ ends_kind
ending at.AfterPre = a.Post ∷ a.Name some_name ∷ ends_kind
ending at.EndsPost = a.Name some_name ∷ ends_kind
ending at.KindClose = ends_kind
ending at.RootName = a.Name some_name ∷ a.Close ∷ []
ending at.SchemaClose = a.Close ∷ []

-- a run that ends a file
record Ends (p : Place) (d : Draft) : Type 0 where
  last : Draft
  is : run p d (ending p) ≡ Some (at.Outside, last)

-- each place has an end
ending_ends : (p : Place) (d : Draft) → Ends p d
ending_ends at.Outside d = record { last = _; is = refl }
ending_ends at.SchemaName d = record { last = _; is = refl }
ending_ends at.SchemaOpen d = record { last = _; is = refl }
ending_ends at.FirstNode d = record { last = _; is = refl }
ending_ends at.NextNode d = record { last = _; is = refl }
ending_ends at.KindName d = record { last = _; is = refl }
ending_ends at.KindOpen d = record { last = _; is = refl }
ending_ends at.Run d = record { last = _; is = refl }
ending_ends at.Low d = record { last = _; is = refl }
ending_ends at.Points d = record { last = _; is = refl }
ending_ends at.High d = record { last = _; is = refl }
ending_ends at.Links d = record { last = _; is = refl }
ending_ends at.Post d = record { last = _; is = refl }
ending_ends at.Pre d = record { last = _; is = refl }
ending_ends at.AfterPre d = record { last = _; is = refl }
ending_ends at.EndsPost d = record { last = _; is = refl }
ending_ends at.KindClose d = record { last = _; is = refl }
ending_ends at.RootName d = record { last = _; is = refl }
ending_ends at.SchemaClose d = record { last = _; is = refl }

-- ---- what a run holds

stands_by : (ts us : List Token) (t : Token) (q : Place) (e : Draft) (m : Option (Place × Draft)) → IfSome m (λ u. Stands u.0 u.1 (ts ++ t ∷ []))
    → ((p : Place) (d : Draft) → Stands p d (ts ++ t ∷ []) → run p d us ≡ Some (q, e) → Stands q e ((ts ++ t ∷ []) ++ us))
    → option_and_then (λ u. run u.0 u.1 us) m ≡ Some (q, e) → Stands q e (ts ++ t ∷ us)
stands_by ts us t q e None h more f = absurd (cc)
stands_by ts us t q e (Some r) h more f = subst (Stands q e) (append_assoc ts (t ∷ []) us) (more r.0 r.1 h f)

-- a constructor's arguments are the same
pub same_pair : (x y : Place × Draft) → Some x ≡ Some y → x ≡ y
same_pair x y e = cc

-- behind a run stand its tokens
pub run-stands : (us ts : List Token) (p q : Place) (d e : Draft) → Stands p d ts → run p d us ≡ Some (q, e) → Stands q e (ts ++ us)
run-stands [] ts p q d e h f =
    subst {A = Place × Draft} (λ u. Stands u.0 u.1 (ts ++ [])) (same_pair (p, d) (q, e) f) (subst (Stands p d) (sym (append-nil ts)) h)
run-stands (u ∷ us) ts p q d e h f =
    stands_by ts us u q e (go d (role_of p u)) (go-stands p u d ts h) (λ p2 d2 h2. run-stands us (ts ++ u ∷ []) p2 q d2 e h2) f

-- what has been read begins a file
pub stands-begins : (p : Place) (d : Draft) (ts : List Token) → Stands p d ts → Begins ts
stands-begins p d ts h =
    let end = ending_ends p d in
    let whole : Stands at.Outside end.last (ts ++ ending p) = run-stands (ending p) ts p at.Outside d end.last h end.is in
    record { schemas = end.last.schemas; more = ending p; is = whole.holds; each = whole.good.each }

-- nothing that begins with tokens that stop the run is a file
pub stops-begins : (ts : List Token) → run at.Outside no_draft ts ≡ None → Begins ts → ⊥
stops-begins ts e b =
    let stops : run at.Outside no_draft (ts ++ b.more) ≡ None = run-append ts b.more at.Outside no_draft ∙ ap (option_and_then (λ u. run u.0 u.1 b.more)) e in
    let goes : run at.Outside no_draft (ts ++ b.more) ≡ Some (at.Outside, after_schemas no_draft b.schemas) =
    ap (run at.Outside no_draft) (b.is ∙ sym (append-nil (file_tokens b.schemas))) ∙ file_run b.schemas no_draft [] b.each in
    cc
