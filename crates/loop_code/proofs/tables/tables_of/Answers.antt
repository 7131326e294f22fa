use Rattle.std.proofs.Common.{◌≡◌, ℕ, ◌+◌, ◌<◌, List, ◌++◌, ◌∷◌, [], take, length, get_or, sym, subst, Option}
use Rattle.std.proofs.lemmas.List.{take_more}
use Rattle.dt_model.specs.declared.statements.Expr.{Expr}
use Rattle.merge_lattice.specs.declared.points.Point.{Point}
use Rattle.merge_lattice.specs.Soundness.{IsSound}
use Rattle.loop_code.specs.Tables.{AreSound}
use Rattle.loop_code.proofs.TableLemmas.{AreSound-push}
use Rattle.loop_code.proofs.tables.tables_of.Goals as goal

-- the tables so far and one more
one_more : (e : Expr) (vars items : List ℕ) (i : ℕ) (before after : List (List (Option Point))) (t : List (Option Point))
    → items ≡ vars → i < length items → AreSound e (take i vars) before → IsSound (get_or items i 0) e t → after ≡ before ++ t ∷ []
    → AreSound e (take (i + 1) vars) after
one_more e vars items i before after t same low so_far sound new =
    subst (AreSound e (take (i + 1) vars)) (sym new)
    (subst (λ vs. AreSound e vs (before ++ t ∷ [])) (sym (take_more vars i 0 (subst (λ vs. i < length vs) same low)))
    (AreSound-push e (take i vars) (get_or vars i 0) before t so_far (subst (λ vs. IsSound (get_or vs i 0) e t) same sound)))

pub loop-var-preserved : goal.loop-var-preserved
loop-var-preserved c =
    one_more c.args.expr.now c.args.vars.now c.as_slice-var-items.result.now c.loop-var.var-index c.loop-var.made.items c.put.new.tables.items
    c.in_ok-table.table
    c.as_slice-var-items.ensures.value c.loop-var-test.true c.loop-var.invariant c.in_ok-table.ensures.sound c.in_ok-put.ensures.ok
