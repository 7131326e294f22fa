-- The tables of a query: one more, those of an expression, and what they are to an answer.
use Rattle.std.proofs.Common.{◌≡◌, ℕ, ◌++◌, List, ap, sym, ◌∙◌, subst, Result, Ok, Err}
use Rattle.std.specs.Prelude.{OnOk}
use Rattle.std.proofs.lemmas.List.Elements.{All-append, All-weaker}
use Rattle.dt_model.specs.declared.declared_tensors.Decls.{Decls}
use Rattle.dt_model.specs.declared.statements.Expr.{Expr}
use Rattle.dt_model.specs.Statements.{accesses}
use Rattle.sessions.specs.QueryTables.{HasTable, HaveTables, KeepsTables}

-- ---- those of an expression

-- accesses whose tables are kept
pub HaveTables-kept : (d : Decls) (old new : List (ℕ × List (List ℕ × ℕ))) (accs : List (List ℕ × List ℕ)) → KeepsTables old new → HaveTables d old accs
    → HaveTables d new accs
HaveTables-kept d old new accs kept h =
    All-weaker (λ (a : List ℕ × List ℕ). HasTable d old a.0) (λ a. HasTable d new a.0) (λ a has t e. kept t (has t e)) accs h

both_on_ok : {X Y : Type 0} (r : Result X Y) (P Q R : Type 0) → (P → Q → R) → OnOk r P → OnOk r Q → OnOk r R
both_on_ok (Ok x) P Q R f p q = f p q
both_on_ok (Err e) P Q R f p q = tt

-- those of the two sides
HaveTables-both : (d : Decls) (old new : List (ℕ × List (List ℕ × ℕ))) (all xs ys : List (List ℕ × List ℕ)) → all ≡ xs ++ ys → KeepsTables old new
    → HaveTables d old xs → HaveTables d new ys → HaveTables d new all
HaveTables-both d old new all xs ys split kept h k =
    subst (HaveTables d new) (sym split) (All-append (λ (a : List ℕ × List ℕ). HasTable d new a.0) xs ys (HaveTables-kept d old new xs kept h) k)

-- those of the two sides of an expression, one after the other
pub HaveTables-sides : {X Y : Type 0} (r : Result X Y) (d : Decls) (old new : List (ℕ × List (List ℕ × ℕ))) (all : List (List ℕ × List ℕ)) (a b x y : Expr)
    → all ≡ accesses a ++ accesses b → x ≡ a → y ≡ b → HaveTables d old (accesses x) → OnOk r (HaveTables d new (accesses y)) → OnOk r (KeepsTables old new)
    → OnOk r (HaveTables d new all)
HaveTables-sides r d old new all a b x y split first second have =
    both_on_ok r (HaveTables d new (accesses y)) (KeepsTables old new) (HaveTables d new all)
    (λ more kept. HaveTables-both d old new all (accesses x) (accesses y) (split ∙ ap (λ e. accesses e ++ accesses b) (sym first)
    ∙ ap (λ e. accesses x ++ accesses e) (sym second)) kept have more)
