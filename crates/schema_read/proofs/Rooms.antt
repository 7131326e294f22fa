-- The number of kinds that have begun is that of the kinds in the draft, and one more inside a kind.
use Rattle.std.proofs.Common.{◌≡◌, ℕ, ◌+◌, ◌<◌, ◌≤◌, ◌++◌, Bool, true, false, cond, List, [], ◌∷◌, length, refl, ap, sym, ◌∙◌, subst, Some, None, Ok, Err, arith, nat_lt}
use Rattle.std.specs.Prelude.{Result, IfOk}
use Rattle.std.proofs.lemmas.List.{length-append}
use Rattle.std.proofs.lemmas.Bool.Decides.{nat_tests}
use Rattle.dt_model.specs.declared.declared_tensors.Kind.{Kind}
use Rattle.schema_read.specs.declared.lexer.Token.{Token}
use Rattle.schema_read.specs.declared.lexer.Token.TheVariants as a
use Rattle.schema_read.specs.declared.roles.Place.{Place}
use Rattle.schema_read.specs.declared.roles.Place.TheVariants as at
use Rattle.schema_read.specs.declared.roles.Role.{Role}
use Rattle.schema_read.specs.declared.draft.Draft.{Draft}
use Rattle.schema_read.specs.declared.scan.Counts.{Counts}
use Rattle.schema_read.specs.declared.scan.Scan.{Scan}
use Rattle.schema_read.specs.declared.scan.Fault.{Fault}
use Rattle.schema_read.specs.Roles.{role_of}
use Rattle.schema_read.specs.Scans.{count_token, step, step_as}
use Rattle.schema_read.specs.Building.{HasRoom, with_role}

-- inside a kind, which is the last one that has begun
pub record IsInKind (n : ℕ) (ks : List Kind) : Type 0 where
  pub count : n ≡ length ks + 1
  pub most : n ≤ 16

-- the kinds that have begun and those in the draft
abbrev pub Tied : Place → ℕ → List Kind → Type 0
Tied at.Outside n ks = length ks ≡ 0
Tied at.SchemaClose n ks = length ks ≡ 0
Tied at.SchemaName n ks = n ≡ length ks
Tied at.SchemaOpen n ks = n ≡ length ks
Tied at.FirstNode n ks = n ≡ length ks
Tied at.NextNode n ks = n ≡ length ks
Tied at.KindClose n ks = n ≡ length ks
Tied at.RootName n ks = n ≡ length ks
Tied p n ks = IsInKind n ks

-- a role has room, and the kinds are as many as have begun
abbrev HasPlace : Draft → Scan × Role → Type 0
HasPlace d r = HasRoom r.1 d.kinds.items × Tied r.0.place r.0.counts.kinds (with_role d r.1).kinds.items

one_more : (ks : List Kind) (k : Kind) (n : ℕ) → n ≡ length ks + 1 → n ≡ length (ks ++ k ∷ [])
one_more ks k n e = e ∙ sym (length-append ks (k ∷ []))

fits : (ks : List Kind) (n : ℕ) → IsInKind n ks → length ks < 16
fits ks n h = let count = h.count in let most = h.most in omega (arith, count, most)

schema_by : (d : Draft) (c : Counts) (b : Bool) → Tied at.Outside c.kinds d.kinds.items
    → IfOk (step_as (role_of at.Outside a.Schema) (cond b (Some (record { schemas = c.schemas + 1; kinds = 0 })) None)) (HasPlace d)
schema_by d c true h = (tt, sym h)
schema_by d c false h = tt

node_by : (d : Draft) (c : Counts) (b : Bool) → nat_lt c.kinds 16 ≡ b → c.kinds ≡ length d.kinds.items
    → IfOk (step_as (role_of at.NextNode a.Node) (cond b (Some (record { schemas = c.schemas; kinds = c.kinds + 1 })) None)) (HasPlace d)
node_by d c true e h =
    let less : c.kinds + 1 ≤ 16 = grind (arith, nat_tests, e) in
    (tt, record { count = ap (λ n. n + 1) h; most = less })
node_by d c false e h = tt

-- behind a step the kinds are as many as have begun, and a kind that ends has room
pub step_place : (p : Place) (t : Token) (c : Counts) (d : Draft) → Tied p c.kinds d.kinds.items
    → IfOk (step_as (role_of p t) (count_token c t)) (HasPlace d)
step_place at.Outside a.Schema c d h = schema_by d c (nat_lt c.schemas 16) h
step_place at.SchemaName (a.Name n) c d h = (tt, h)
step_place at.SchemaOpen a.Open c d h = (tt, h)
step_place at.FirstNode a.Node c d h = node_by d c (nat_lt c.kinds 16) refl h
step_place at.NextNode a.Node c d h = node_by d c (nat_lt c.kinds 16) refl h
step_place at.NextNode a.Root c d h = (tt, h)
step_place at.KindName (a.Name n) c d h = (tt, h)
step_place at.KindOpen a.Open c d h = (tt, h)
step_place at.Run a.Run c d h = (tt, h)
step_place at.Low (a.Number n) c d h = (tt, h)
step_place at.Points a.Points c d h = (tt, h)
step_place at.High (a.Number n) c d h = (tt, h)
step_place at.Links a.Post c d h = (tt, h)
step_place at.Links a.Pre c d h = (tt, h)
step_place at.Links a.Woven c d h = (fits d.kinds.items c.kinds h, one_more d.kinds.items _ c.kinds h.count)
step_place at.Post (a.Name n) c d h = (fits d.kinds.items c.kinds h, one_more d.kinds.items _ c.kinds h.count)
step_place at.Pre (a.Name n) c d h = (tt, h)
step_place at.AfterPre a.Post c d h = (tt, h)
step_place at.EndsPost (a.Name n) c d h = (fits d.kinds.items c.kinds h, one_more d.kinds.items _ c.kinds h.count)
step_place at.KindClose a.Close c d h = (tt, h)
step_place at.RootName (a.Name n) c d h = (tt, refl)
step_place at.SchemaClose a.Close c d h = (tt, h)
step_place p t c d h = tt

-- the step of a scan
pub step_scan : (s : Scan) (t : Token) (d : Draft) (next : Scan) (role : Role) → Tied s.place s.counts.kinds d.kinds.items
    → step s t ≡ Ok (next, role) → HasRoom role d.kinds.items × Tied next.place next.counts.kinds (with_role d role).kinds.items
step_scan s t d next role h e = subst_ok (step s t) (step_place s.place t s.counts d h) e where
  subst_ok : (r : Result (Scan × Role) Fault) → IfOk r (HasPlace d) → r ≡ Ok (next, role) → HasPlace d (next, role)
  subst_ok (Ok x) k f = let same : x ≡ (next, role) = cc in subst (HasPlace d) same k
  subst_ok (Err x) k f = absurd (cc)
