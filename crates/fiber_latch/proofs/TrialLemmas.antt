-- The store and the world of the tests.
use Rattle.std.proofs.Common.{◌≡◌, ◌≢◌, ℕ, zero, suc, ◌+◌, ◌%◌, ◌^◌, ◌<◌, ◌≤◌, ◌==◌, ◌&&◌, Bool, true, false, List, [], ◌∷◌, ◌++◌, length, get_or, set}
use Rattle.std.proofs.Common.{insert, refl, sym, ap, ◌∙◌, subst, arith, if◌then◌else◌, eq-eqb, ne_eqb, nat_eq, length-append}
use Rattle.std.specs.Cmp.Lexicographic.{pointwise}
use mathlib.Core.Logic.{dite}
use native.Mathlib.Decide.{ℕ_discrete}
use Rattle.dt_model.specs.declared.declared_tensors.Decls.{Decls}
use Rattle.commit_core.proofs.MachineLemmas.{same_cell-is}
use Rattle.dt_model.specs.Contents.{Contents, same_cell, with_more}
use Rattle.dt_model.specs.Runs.{restricted_to}
use Rattle.dt_model.specs.Tensors.{latch_of}
use Rattle.fiber_latch.specs.Trial.{found, cell_in, content_of, HasPut, AreNew}
use Rattle.std.proofs.Math.ListN.{get_or-append}
use Rattle.fiber_latch.proofs.LawfulHistories.{last_at}

found_here : (p : ℕ × ℕ) (ps : List (ℕ × ℕ)) (x : ℕ) → p.0 ≡ x → found (p ∷ ps) x ≡ p.1
found_here p ps x e = ap (λ (b : Bool). if b then p.1 else found ps x) (eq-eqb p.0 x e)

found_past : (p : ℕ × ℕ) (ps : List (ℕ × ℕ)) (x : ℕ) → p.0 ≢ x → found (p ∷ ps) x ≡ found ps x
found_past p ps x n = ap (λ (b : Bool). if b then p.1 else found ps x) (ne_eqb p.0 x n)

both_past : (p : ℕ × ℕ) (ps qs : List (ℕ × ℕ)) (x v : ℕ) → p.0 ≢ x → HasPut x v ps qs → HasPut x v (p ∷ ps) (p ∷ qs)
both_past p ps qs x v n h y = dite (ℕ_discrete p.0 y)
    (λ (e : p.0 ≡ y). found_here p qs y e ∙ sym (found_here p ps y e)
    ∙ sym (ap (λ (b : Bool). if b then v else found (p ∷ ps) y) (ne_eqb x y (λ (q : x ≡ y). n (e ∙ sym q)))))
    (λ (e : p.0 ≢ y). found_past p qs y e ∙ h y ∙ ap (λ (m : ℕ). if x == y then v else m) (sym (found_past p ps y e)))

at_front : (x v : ℕ) (ps qs : List (ℕ × ℕ)) → ((y : ℕ) → x ≢ y → found ps y ≡ found qs y) → HasPut x v qs ((x, v) ∷ ps)
at_front x v ps qs same y = dite (ℕ_discrete x y)
    (λ (e : x ≡ y). found_here (x, v) ps y e ∙ sym (ap (λ (b : Bool). if b then v else found qs y) (eq-eqb x y e)))
    (λ (e : x ≢ y). found_past (x, v) ps y e ∙ same y e ∙ sym (ap (λ (b : Bool). if b then v else found qs y) (ne_eqb x y e)))

-- a pair that is inserted is a put
pub put_inserted : (ps : List (ℕ × ℕ)) (i x v : ℕ) → i ≤ length ps → ((k : ℕ) → k < i → (get_or ps k (0, 0)).0 ≢ x) → HasPut x v ps (insert ps i (x, v))
put_inserted ps zero x v b n = at_front x v ps ps (λ y _. refl)
put_inserted [] (suc i) x v b n = absurd (omega arith)
put_inserted (p ∷ ps) (suc i) x v b n = both_past p ps (insert ps i (
  x,
  v,
)) x v (n 0 (omega arith)) (put_inserted ps i x v (omega arith) (λ k l. n (suc k) (omega arith)))

-- a pair that is replaced is a put
pub put_set : (ps : List (ℕ × ℕ)) (i x v : ℕ) → i < length ps → ((k : ℕ) → k < i → (get_or ps k (0, 0)).0 ≢ x) → (get_or ps i (0, 0)).0 ≡ x
    → HasPut x v ps (set ps i (x, v))
put_set [] i x v b n e = absurd (omega arith)
put_set (p ∷ ps) zero x v b n e = at_front x v ps (p ∷ ps) (λ y m. sym (found_past p ps y (λ q. m (sym e ∙ q))))
put_set (p ∷ ps) (suc i) x v b n e = both_past p ps (set ps i (
  x,
  v,
)) x v (n 0 (omega arith)) (put_set ps i x v (omega arith) (λ k l. n (suc k) (omega arith)) e)

-- ---- contents

-- adding at a coordinate that was put
pub content_put : (ps qs : List (ℕ × ℕ)) (x v : ℕ) → HasPut x ((found ps x + v) % 2 ^ 64) ps qs → content_of qs ≡ with_more (content_of ps) 0 (x ∷ []) v
content_put ps qs x v h = λ i t c. each t c i
  where
    one : (y : ℕ) (b : Bool) → found qs y ≡ (if b then (found ps x + v) % 2 ^ 64 else found ps y)
        → found qs y ≡ (if (b && true) then (found ps x + v) % 2 ^ 64 else found ps y)
    one y true e = e
    one y false e = e

    none : (m n : ℕ) (b : Bool) → 0 ≡ (if (b && false) then m else 0)
    none m n true = refl
    none m n false = refl

    in_v : (c : List ℕ) → content_of qs 0 c ≡ with_more (content_of ps) 0 (x ∷ []) v 0 c
    in_v [] = refl
    in_v (y ∷ []) = one y (x == y) (h y)
    in_v (y ∷ z ∷ zs) = none ((found ps x + v) % 2 ^ 64) 0 (x == y)

    each : (t : ℕ) (c : List ℕ) → content_of qs t c ≡ with_more (content_of ps) 0 (x ∷ []) v t c
    each t c = dite (ℕ_discrete t 0)
        (λ (q : t ≡ 0). subst (λ (k : ℕ). content_of qs k c ≡ with_more (content_of ps) 0 (x ∷ []) v k c) (sym q) (in_v c))
        (λ (q : t ≢ 0).
        ap (λ (b : Bool). if b then cell_in qs c else 0) (ne_eqb t 0 q) ∙ sym (ap (λ (b : Bool). if b then cell_in ps c else 0) (ne_eqb t 0 q))
        ∙ sym (ap (λ (b : Bool). if (b && pointwise nat_eq (x ∷ []) c) then (found ps x
        + v) % 2 ^ 64 else content_of ps t c) (ne_eqb 0 t (λ (z : 0 ≡ t). q (sym z)))))

-- what lies in one latch stays there
pub restricted_to-with_more : (d : Decls) (m : Contents) (l t : ℕ) (c : List ℕ) (v : ℕ) → latch_of d t c ≡ l
    → restricted_to d (with_more (restricted_to d m l) t c v) l ≡ with_more (restricted_to d m l) t c v
restricted_to-with_more d m l t c v here = λ i u e. each u e i
  where
    rest : (b : Bool) (x : ℕ) → (if b then (if b then x else 0) else 0) ≡ (if b then x else 0)
    rest true x = refl
    rest false x = refl

    each : (u : ℕ) (e : List ℕ) → restricted_to d (with_more (restricted_to d m l) t c v) l u e ≡ with_more (restricted_to d m l) t c v u e
    each u e = go (same_cell t c u e) refl
      where
        go : (b : Bool) → same_cell t c u e ≡ b → (if latch_of d u e == l then (if b then (restricted_to d m l t c
            + v) % 2 ^ 64 else restricted_to d m l u e) else 0) ≡ (if b then (restricted_to d m l t c + v) % 2 ^ 64 else restricted_to d m l u e)
        go true is = let s = same_cell-is t c u e is in
            ap (λ (b : Bool). if b then (restricted_to d m l t c + v) % 2 ^ 64 else 0) (eq-eqb (latch_of d u e) l ((λ i. latch_of d (sym s.0 i) (sym s.1 i))
            ∙ here))
        go false is = rest (latch_of d u e == l) (m u e)

-- ---- looking up

-- what is found at a coordinate that is there
pub found_at : (ps : List (ℕ × ℕ)) (i x : ℕ) (d : ℕ × ℕ) → i < length ps → ((k : ℕ) → k < i → (get_or ps k (0, 0)).0 ≢ x) → (get_or ps i d).0 ≡ x
    → found ps x ≡ (get_or ps i d).1
found_at [] i x d b n e = absurd (omega arith)
found_at (p ∷ ps) zero x d b n e = found_here p ps x e
found_at (p ∷ ps) (suc i) x d b n e = found_past p ps x (n 0 (omega arith)) ∙ found_at ps i x d (omega arith) (λ k l. n (suc k) (omega arith)) e

-- a coordinate that is nowhere has 0
pub found_nowhere : (ps : List (ℕ × ℕ)) (x : ℕ) → ((k : ℕ) → k < length ps → (get_or ps k (0, 0)).0 ≢ x) → found ps x ≡ 0
found_nowhere [] x n = refl
found_nowhere (p ∷ ps) x n = found_past p ps x (n 0 (omega arith)) ∙ found_nowhere ps x (λ k l. n (suc k) (omega arith))

-- inside a list the default doesn't matter
pub same_at : {A : Type 0} (xs : List A) (i : ℕ) (d e : A) → i < length xs → get_or xs i d ≡ get_or xs i e
same_at [] i d e b = absurd (omega arith)
same_at (x ∷ xs) zero d e b = refl
same_at (x ∷ xs) (suc i) d e b = same_at xs i d e (omega arith)

-- ---- new stores

-- one new store more
pub are_new_push : {A : Type 0} (latch : A → ℕ) (cells : A → List (ℕ × ℕ)) (xs : List A) (n : ℕ) (a : A) → length xs ≡ n → latch a ≡ n → cells a ≡ []
    → AreNew latch cells xs → AreNew latch cells (xs ++ a ∷ [])
are_new_push {A} latch cells xs n a long l c new = record {
  latches = λ i d b. dite (ℕ_discrete i n)
      (λ (q : i ≡ n). subst (λ (k : ℕ). latch (get_or (xs ++ a ∷ []) k d) ≡ k) (sym q) (ap latch (last_at xs n a d long) ∙ l))
      (λ (q : i ≢ n). ap latch (get_or-append xs (a ∷ []) d i (below i b q)) ∙ new.latches i d (below i b q));
  empty = λ i d b. dite (ℕ_discrete i n)
      (λ (q : i ≡ n). subst (λ (k : ℕ). cells (get_or (xs ++ a ∷ []) k d) ≡ []) (sym q) (ap cells (last_at xs n a d long) ∙ c))
      (λ (q : i ≢ n). ap cells (get_or-append xs (a ∷ []) d i (below i b q)) ∙ new.empty i d (below i b q));
}
  where
    below : (i : ℕ) → i < length (xs ++ a ∷ []) → i ≢ n → i < length xs
    below i b q = let e = length-append xs (a ∷ []) in omega arith

-- no store is new
pub none_new : {A : Type 0} (latch : A → ℕ) (cells : A → List (ℕ × ℕ)) → AreNew latch cells []
none_new latch cells = record { latches = λ i d b. absurd (omega arith); empty = λ i d b. absurd (omega arith) }
