-- Contents that are 0 outside the dimensions of their tensors, and valid lines and calls that keep them so.
use Rattle.std.proofs.Common.{◌≡◌, ℕ, ◌+◌, ◌%◌, ◌^◌, Bool, true, false, List, [], ◌∷◌, refl, subst}
use Rattle.std.specs.Prelude.{if◌then◌else◌, fold}
use Rattle.std.specs.List.{list_all, enumerate_from}
use Rattle.dt_model.specs.declared.declared_tensors.Decls.{Decls}
use Rattle.dt_model.specs.declared.replies.World.{World}
use Rattle.dt_model.specs.Contents.{Contents, no_cells, same_cell, with_cell, with_more}
use Rattle.dt_model.specs.Runs.{with_lines, base_of}
use Rattle.dt_model.specs.Tensors.{dims_of}
use Rattle.dt_model.specs.Verdicts.{all_in_range}
use Rattle.dt_model.specs.Worlds.{IsValid, loads_are_valid}
use Rattle.dt_model.proofs.Booleans.{both_true}
use Rattle.commit_core.proofs.MachineLemmas.{same_cell-is}
use Rattle.sessions.specs.InRange.{IsInRange}

IsInRange-with_cell : (d : Decls) (m : Contents) (t : ℕ) (a : List ℕ) (v : ℕ) → all_in_range (dims_of d t) a ≡ true → IsInRange d m
    → IsInRange d (with_cell m t a v)
IsInRange-with_cell d m t a v within h u c out = go (same_cell t a u c) refl
  where
    go : (b : Bool) → same_cell t a u c ≡ b → (if b then v else m u c) ≡ 0
    go true e =
        let same = same_cell-is t a u c e in
        let inside : all_in_range (dims_of d u) c ≡ true = subst (λ (p : ℕ × List ℕ). all_in_range (dims_of d p.0) p.1
        ≡ true) (λ i. (same.0 i, same.1 i)) within in
        absurd (cc (inside, out))
    go false e = h u c out

IsInRange-with_lines : (d : Decls) (m : Contents) (t : ℕ) (lines : List (List ℕ × ℕ)) → list_all (λ line. all_in_range (dims_of d t) line.0) lines ≡ true
    → IsInRange d m → IsInRange d (with_lines m t lines)
IsInRange-with_lines d m t [] valid h = h
IsInRange-with_lines d m t (l ∷ ls) valid h =
    let both = both_true (all_in_range (dims_of d t) l.0) (list_all (λ line. all_in_range (dims_of d t) line.0) ls) valid in
    IsInRange-with_lines d (with_more m t l.0 l.1) t ls both.1 (IsInRange-with_cell d m t l.0 ((m t l.0 + l.1) % 2 ^ 64) both.0 h)

IsInRange-base : (d : Decls) (m : Contents) (n : ℕ) (base : List (List (List ℕ × ℕ))) → list_all (loads_are_valid d) (enumerate_from n base) ≡ true
    → IsInRange d m
    → IsInRange d (fold (λ m p. with_lines m p.0 p.1) m (enumerate_from n base))
IsInRange-base d m n [] valid h = h
IsInRange-base d m n (lines ∷ more) valid h =
    let both = both_true (loads_are_valid d (n, lines)) (list_all (loads_are_valid d) (enumerate_from (n + 1) more)) valid in
    IsInRange-base d (with_lines m n lines) (n + 1) more both.1 (IsInRange-with_lines d m n lines both.0 h)

-- the base of a valid world is 0 outside the dimensions
pub IsInRange-base_of : (w : World) → IsValid w → IsInRange w.decls (base_of w)
IsInRange-base_of w v = IsInRange-base w.decls no_cells 0 w.base v.loads (λ t c out. refl)
