-- The cells of one latch, over the calls of a history.
use Rattle.std.proofs.Common.{◌≡◌, ℕ, ◌+◌, ◌%◌, ◌^◌, ◌++◌, ◌||◌, ◌==◌, Bool, true, false, List, [], ◌∷◌, refl, sym, ap, ◌∙◌, subst, if◌then◌else◌, nat_eq}
use Rattle.std.specs.Cmp.Lexicographic.{pointwise}
use Rattle.std.specs.List.{list_any}
use Rattle.std.proofs.lemmas.Bool.Decides.{Decides-eqb}
use Rattle.std.proofs.lemmas.Slice.Eq.{slice_eq-Decides}
use Rattle.dt_model.specs.declared.calls.Call.{Call}
use Rattle.dt_model.specs.declared.calls.Call.TheVariants.{Get, Batch, Query}
use Rattle.dt_model.specs.declared.calls.Entry.{Entry}
use Rattle.dt_model.specs.declared.calls.Update.{Update}
use Rattle.dt_model.specs.declared.calls.Update.TheVariants.{Set, Add}
use Rattle.dt_model.specs.declared.declared_tensors.Decls.{Decls}
use Rattle.dt_model.specs.declared.replies.World.{World}
use Rattle.dt_model.specs.Contents.{Contents, same_cell, with_cell, with_update, with_updates}
use Rattle.dt_model.specs.Latches.{needs, latch_of_cell}
use Rattle.dt_model.specs.Runs.{after_call, contents_after, restricted_to}
use Rattle.dt_model.specs.Tensors.{latch_of}
use Rattle.dt_model.specs.Verdicts.{update_cell}
use Rattle.dt_model.proofs.Booleans.{both_true}
pub use Rattle.dt_model.proofs.RunsLemmas.{contents_after-push}
use Rattle.commit_core.specs.Machine.{content_after}

-- ---- one cell

-- two cells that are one have equal parts
pub same_cell-is : (t : ℕ) (c : List ℕ) (u : ℕ) (d : List ℕ) → same_cell t c u d ≡ true → (t ≡ u) × (c ≡ d)
same_cell-is t c u d e =
    let b = both_true (t == u) (pointwise nat_eq c d) e in
    ((Decides-eqb t u).0 b.0, (slice_eq-Decides Decides-eqb c d (pointwise nat_eq c d) refl).0 b.1)

-- ---- contents that agree on the cells of a latch

-- contents that are equal in the cells of latch l
abbrev pub Agree : Decls → ℕ → Contents → Contents → Type 0
Agree d l m n = (t : ℕ) (c : List ℕ) → (latch_of d t c == l) ≡ true → m t c ≡ n t c

if_both : {A : Type 0} (b : Bool) (a c e f : A) → (b ≡ true → a ≡ e) → (b ≡ false → c ≡ f) → (if b then a else c) ≡ (if b then e else f)
if_both true a c e f y n = y refl
if_both false a c e f y n = n refl

-- what agrees on a latch is equal when restricted to it
pub restricted_to-agree : (d : Decls) (l : ℕ) (m n : Contents) → Agree d l m n → restricted_to d m l ≡ restricted_to d n l
restricted_to-agree d l m n a = λ i t c. if_both (latch_of d t c == l) (m t c) 0 (n t c) 0 (a t c) (λ _. refl) i

-- contents agree with their restriction to the latch
pub Agree-restricted_to : (d : Decls) (l : ℕ) (m : Contents) → Agree d l (restricted_to d m l) m
Agree-restricted_to d l m t c e = go (latch_of d t c == l) e
  where
    go : (b : Bool) → b ≡ true → (if b then m t c else 0) ≡ m t c
    go true e = refl
    go false e = absurd (cc)

Agree-with_cell : (d : Decls) (l : ℕ) (m n : Contents) (t : ℕ) (c : List ℕ) (v w : ℕ) → ((latch_of d t c == l) ≡ true → v ≡ w) → Agree d l m n
    → Agree d l (with_cell m t c v) (with_cell n t c w)
Agree-with_cell d l m n t c v w same a u x here = if_both (same_cell t c u x) v (m u x) w (n u x)
    (λ e. let s = same_cell-is t c u x e in same (subst (λ (p : ℕ × List ℕ). (latch_of d p.0 p.1 == l) ≡ true) (λ i. (sym s.0 i, sym s.1 i)) here))
    (λ _. a u x here)

Agree-with_update : (d : Decls) (l : ℕ) (m n : Contents) (u : Update) → Agree d l m n → Agree d l (with_update m u) (with_update n u)
Agree-with_update d l m n (Set cell v) a = Agree-with_cell d l m n cell.tensor cell.at v v (λ _. refl) a
Agree-with_update d l m n (Add cell v) a = Agree-with_cell d l m n cell.tensor cell.at ((m cell.tensor cell.at + v) % 2 ^ 64) ((n cell.tensor cell.at
    + v) % 2 ^ 64) (λ h. ap (λ k. (k + v) % 2 ^ 64) (a cell.tensor cell.at h)) a

Agree-with_updates : (d : Decls) (l : ℕ) (m n : Contents) (us : List Update) → Agree d l m n → Agree d l (with_updates m us) (with_updates n us)
Agree-with_updates d l m n [] a = a
Agree-with_updates d l m n (u ∷ us) a = Agree-with_updates d l (with_update m u) (with_update n u) us (Agree-with_update d l m n u a)

-- a call keeps the agreement
pub Agree-after_call : (d : Decls) (l : ℕ) (m n : Contents) (call : Call) → Agree d l m n → Agree d l (after_call m call) (after_call n call)
Agree-after_call d l m n (Get cell) a = a
Agree-after_call d l m n (Batch us) a = Agree-with_updates d l m n us a
Agree-after_call d l m n (Query stmt) a = a

-- ---- a call that doesn't need a latch leaves its cells

Agree-other_cell : (d : Decls) (l : ℕ) (m : Contents) (t : ℕ) (c : List ℕ) (v : ℕ) → (latch_of d t c == l) ≡ false → Agree d l (with_cell m t c v) m
Agree-other_cell d l m t c v apart u x here = go (same_cell t c u x) refl
  where
    go : (b : Bool) → same_cell t c u x ≡ b → (if b then v else m u x) ≡ m u x
    go true e = let s = same_cell-is t c u x e in let h = subst (λ (p : ℕ × List ℕ). (latch_of d p.0 p.1 == l)
        ≡ true) (λ i. (sym s.0 i, sym s.1 i)) here in absurd (cc (h, apart))
    go false e = refl

Agree-other_update : (d : Decls) (l : ℕ) (m : Contents) (u : Update) → (latch_of_cell d (update_cell u) == l) ≡ false → Agree d l (with_update m u) m
Agree-other_update d l m (Set cell v) apart = Agree-other_cell d l m cell.tensor cell.at v apart
Agree-other_update d l m (Add cell v) apart = Agree-other_cell d l m cell.tensor cell.at ((m cell.tensor cell.at + v) % 2 ^ 64) apart

neither : (a b : Bool) → (a || b) ≡ false → (a ≡ false) × (b ≡ false)
neither true b e = absurd (cc)
neither false b e = (refl, e)

Agree-other_updates : (d : Decls) (l : ℕ) (m : Contents) (us : List Update) → list_any (λ u. latch_of_cell d (update_cell u) == l) us ≡ false
    → Agree d l (with_updates m us) m
Agree-other_updates d l m [] apart t c here = refl
Agree-other_updates d l m (u ∷ us) apart t c here =
    let n = neither (latch_of_cell d (update_cell u) == l) (list_any (λ u. latch_of_cell d (update_cell u) == l) us) apart in
    Agree-other_updates d l (with_update m u) us n.1 t c here ∙ Agree-other_update d l m u n.0 t c here

-- a call that doesn't need a latch leaves its cells
pub after_call-apart : (d : Decls) (l : ℕ) (m : Contents) (call : Call) → needs d call l ≡ false → restricted_to d (after_call m call) l ≡ restricted_to d m l
after_call-apart d l m (Get cell) apart = refl
after_call-apart d l m (Batch us) apart = restricted_to-agree d l (with_updates m us) m (Agree-other_updates d l m us apart)
after_call-apart d l m (Query stmt) apart = refl

-- ---- the machine's contents

-- what a latch's cells become by a call is what the call leaves in them
pub content_after-restricted_to : (d : Decls) (m : Contents) (call : Call) (l : ℕ)
    → content_after d call l (restricted_to d m l) ≡ restricted_to d (after_call m call) l
content_after-restricted_to d m call l = go (needs d call l) refl
  where
    go : (b : Bool) → needs d call l ≡ b → (if b then restricted_to d (after_call (restricted_to d m l) call) l else restricted_to d m l)
        ≡ restricted_to d (after_call m call) l
    go true e = restricted_to-agree d l (after_call (restricted_to d m l) call) (after_call m call)
        (Agree-after_call d l (restricted_to d m l) m call (Agree-restricted_to d l m))
    go false e = sym (after_call-apart d l m call e)

-- entries that don't need a latch leave its cells
pub restricted_to-apart : (w : World) (l : ℕ) (p : List Entry) (e : Entry) → needs w.decls e.call l ≡ false
    → restricted_to w.decls (contents_after w (p ++ e ∷ [])) l ≡ restricted_to w.decls (contents_after w p) l
restricted_to-apart w l p e apart = ap (λ (m : Contents). restricted_to w.decls m l) (contents_after-push w p e)
    ∙ after_call-apart w.decls l (contents_after w p) e.call apart
