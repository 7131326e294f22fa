-- A batch changes in a latch's cells what its own updates change.
use Rattle.std.proofs.Common.{◌≡◌, ◌≢◌, ℕ, ◌+◌, ◌%◌, ◌^◌, ◌<◌, ◌==◌, ◌||◌, Bool, true, false, cond, List, [], ◌∷◌, length, get_or, drop, refl, sym, ap, ◌∙◌, subst, if◌then◌else◌, arith}
use Rattle.std.proofs.lemmas.Bool.Decides.{nat_tests}
use Rattle.std.proofs.lemmas.List.{at_drop_more}
use Rattle.dt_model.specs.declared.calls.Call.TheVariants.{Batch}
use Rattle.dt_model.specs.declared.calls.Update.{Update}
use Rattle.dt_model.specs.declared.calls.Update.TheVariants.{Set, Add}
use Rattle.dt_model.specs.declared.declared_tensors.Decls.{Decls}
use Rattle.dt_model.specs.Contents.{Contents, same_cell, with_cell, with_update, with_updates}
use Rattle.dt_model.specs.Latches.{latch_of_cell}
use Rattle.dt_model.specs.Runs.{restricted_to}
use Rattle.dt_model.specs.Tensors.{latch_of}
use Rattle.dt_model.specs.Verdicts.{update_cell}
use Rattle.commit_core.proofs.MachineLemmas.{same_cell-is, Agree-restricted_to, after_call-apart}
use Rattle.fiber_store.specs.Stores.{StoreState, own, store_content}

cut_cell : (d : Decls) (l : ℕ) (m : Contents) (t : ℕ) (c : List ℕ) (v : ℕ) → (latch_of d t c == l) ≡ true → with_cell (restricted_to d m l) t c v
    ≡ restricted_to d (with_cell m t c v) l
cut_cell d l m t c v here = λ i u x. go u x (same_cell t c u x) (latch_of d u x == l) refl refl i
  where
    go : (u : ℕ) (x : List ℕ) (a b : Bool) → same_cell t c u x ≡ a → (latch_of d u x == l) ≡ b → (if a then v else (if b then m u x else 0))
        ≡ (if b then (if a then v else m u x) else 0)
    go u x true true e f = refl
    go u x true false e f =
        let s = same_cell-is t c u x e in
        let h = subst (λ (p : ℕ × List ℕ). (latch_of d p.0 p.1 == l) ≡ true) (λ i. (s.0 i, s.1 i)) here in
        absurd (cc (h, f))
    go u x false true e f = refl
    go u x false false e f = refl

cut_update : (d : Decls) (l : ℕ) (m : Contents) (u : Update) → (latch_of_cell d (update_cell u) == l) ≡ true → with_update (restricted_to d m l) u
    ≡ restricted_to d (with_update m u) l
cut_update d l m (Set cell v) here = cut_cell d l m cell.tensor cell.at v here
cut_update d l m (Add cell v) here =
    ap (λ (k : ℕ). with_cell (restricted_to d m l) cell.tensor cell.at ((k + v) % 2 ^ 64)) (Agree-restricted_to d l m cell.tensor cell.at here)
    ∙ cut_cell d l m cell.tensor cell.at ((m cell.tensor cell.at + v) % 2 ^ 64) here

or_none : (b : Bool) → b ≡ false → (b || false) ≡ false
or_none true e = e
or_none false e = refl

-- the own updates make of a latch's cells what all make of them
pub own_restricted : (d : Decls) (l : ℕ) (m : Contents) (us : List Update) → with_updates (restricted_to d m l) (own d l us)
    ≡ restricted_to d (with_updates m us) l
own_restricted d l m [] = refl
own_restricted d l m (u ∷ us) = go (latch_of_cell d (update_cell u) == l) refl (own_restricted d l (with_update m u) us)
  where
    go : (b : Bool) → (latch_of_cell d (update_cell u) == l) ≡ b → with_updates (restricted_to d (with_update m u) l) (own d l us)
        ≡ restricted_to d (with_updates (with_update m u) us) l
        → with_updates (restricted_to d m l) (if b then u ∷ own d l us else own d l us) ≡ restricted_to d (with_updates (with_update m u) us) l
    go true e rest = ap (λ (n : Contents). with_updates n (own d l us)) (cut_update d l m u e) ∙ rest
    go false e rest =
        ap (λ (n : Contents). with_updates n (own d l us)) (sym (after_call-apart d l m (Batch (u ∷ [])) (or_none (latch_of_cell d (update_cell u) == l) e)))
        ∙ rest

-- ---- update by update

-- what is made and what is due stay the same together
pub own_made : (old new : StoreState) (u : Update) (rest : List Update) (all : Contents) → old.due ≡ u ∷ rest → new.due ≡ rest
    → store_content new ≡ with_update (store_content old) u → with_updates (store_content old) old.due ≡ all
    → with_updates (store_content new) new.due ≡ all
own_made old new u rest all before after is same =
    ap (λ us. with_updates (store_content new) us) after ∙ ap (λ m. with_updates m rest) is
    ∙ ap (λ us. with_updates (store_content old) us) (sym before) ∙ same
