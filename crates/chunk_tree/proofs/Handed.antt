-- What a visitor that keeps what it is handed has after a walk.
use Rattle.std.proofs.Common.{◌≡◌, inl, inr, List, [], ◌∷◌, ◌++◌, Result, Ok, IsErr, ap, ◌∙◌, sym, subst, append_assoc, append-nil}
use Rattle.node_arena.specs.declared.elements.Elem.{Elem}
use Rattle.iter_gen.specs.Visiting.{Visits}

module _ {V E : Type 0} (kept : V → List Elem) (visit : V → Elem → Result (Unit {0}) E → V → Type 0)
    (adds : (old : V) (e : Elem) (new : V) → visit old e (Ok tt) new → kept new ≡ kept old ++ e ∷ []) where
  isnt-err : (result : Result (Unit {0}) E) → result ≡ Ok tt → IsErr result → ⊥
  isnt-err result e h = let k = subst IsErr e h in cc

  -- all that was handed over is behind what was there
  pub kept-all : (xs : List Elem) (old new : V) (result : Result (Unit {0}) E) → result ≡ Ok tt → Visits visit xs old result new → kept new ≡ kept old ++ xs
  kept-all [] old new result e v = ap kept v.1 ∙ sym (append-nil (kept old))
  kept-all (x ∷ xs) old new result e (inl v) =
      kept-all xs v.0 new result e v.2 ∙ ap (λ l. l ++ xs) (adds old x v.0 v.1) ∙ append_assoc (kept old) (x ∷ []) xs
  kept-all (x ∷ xs) old new result e (inr v) = absurd (isnt-err result e v.0)
