use Rattle.std.proofs.Common.{◌≡◌, ◌≢◌, ℕ, ◌+◌, ◌<◌, true, false, cond, List, ◌∷◌, length, get_or, drop, refl, ap, sym, ◌∙◌, arith}
use Rattle.std.specs.Prelude.{◌==◌}
use Rattle.std.proofs.lemmas.Bool.Decides.{nat_tests}
use Rattle.std.proofs.lemmas.List.{at_drop_more}
use Rattle.dt_model.specs.declared.calls.Update.{Update}
use Rattle.dt_model.specs.declared.declared_tensors.Decls.{Decls}
use Rattle.dt_model.specs.Contents.{Contents, with_update, with_updates}
use Rattle.dt_model.specs.Latches.{latch_of_cell}
use Rattle.dt_model.specs.Verdicts.{update_cell}
use Rattle.fiber_store.specs.Stores.{StoreState, own, store_content}
use Rattle.fiber_store.specs.TwoTensors.{two_tensors}
use Rattle.fiber_store.proofs.tests.make.Goals as goal
use Rattle.fiber_store.proofs.tests.make.Goals.{then-latch_of-latch, else-latch_of-latch}

same_test : (a b : ℕ) → a ≡ b → (a == b) ≡ true
same_test a b e = grind (arith, nat_tests)

other_test : (a b : ℕ) → a ≢ b → (a == b) ≡ false
other_test a b e = grind (arith, nat_tests)

-- an update of the latch comes first among those that are left
own_here : (d : Decls) (w : ℕ) (us : List Update) (i : ℕ) (u : Update) → i < length us → u ≡ get_or us i u → latch_of_cell d (update_cell u) ≡ w
    → own d w (drop i us) ≡ u ∷ own d w (drop (i + 1) us)
own_here d w us i u l is here =
    at_drop_more (own d w) us i u l ∙ ap (λ x. own d w (x ∷ drop (i + 1) us)) (sym is)
    ∙ ap (λ b. cond b (u ∷ own d w (drop (i + 1) us)) (own d w (drop (i + 1) us))) (same_test (latch_of_cell d (update_cell u)) w here)

-- an update of another latch is none of them
own_later : (d : Decls) (w : ℕ) (us : List Update) (i : ℕ) (u : Update) → i < length us → u ≡ get_or us i u → latch_of_cell d (update_cell u) ≢ w
    → own d w (drop i us) ≡ own d w (drop (i + 1) us)
own_later d w us i u l is other =
    at_drop_more (own d w) us i u l ∙ ap (λ x. own d w (x ∷ drop (i + 1) us)) (sym is)
    ∙ ap (λ b. cond b (u ∷ own d w (drop (i + 1) us)) (own d w (drop (i + 1) us))) (other_test (latch_of_cell d (update_cell u)) w other)

-- what is made and what is due stay the same together
made : (old new : StoreState) (u : Update) (rest : List Update) (all : Contents) → old.due ≡ u ∷ rest → new.due ≡ rest
    → store_content new ≡ with_update (store_content old) u → with_updates (store_content old) old.due ≡ all
    → with_updates (store_content new) new.due ≡ all
made old new u rest all before after is same =
    ap (λ us. with_updates (store_content new) us) after ∙ ap (λ m. with_updates m rest) is
    ∙ ap (λ us. with_updates (store_content old) us) (sym before) ∙ same

pub loop-update-init : goal.loop-update-init
loop-update-init c =
    let due : c.prepare.new.self.due ≡ own two_tensors c.args.latch c.args.updates.now =
    c.in_ok-prepare.ensures.due two_tensors c.args.latch c.requires.sound (record { decls = refl; cells = c.requires.valid }) in (
      c.prepare.ensures.sound two_tensors c.args.latch c.requires.sound,
      due,
      ap (λ us. with_updates (store_content c.prepare.new.self) us) due
          ∙ ap (λ m. with_updates m (own two_tensors c.args.latch c.args.updates.now)) c.prepare.ensures.content,
    )

pub loop-update-preserved : goal.loop-update-preserved
loop-update-preserved c =
    let us = c.args.updates.now in
    let u = c.update-item.result in
    let i = c.loop-update.update-index in
    let inv = c.loop-update.invariant in
    let same = c.as_slice-update-items.ensures.value in
    let is : u ≡ get_or us i u = cc (c.update-item.is, same) in
    let many = ap length same in
    let test = c.loop-update-test.true in
    let within : i < length us = omega (arith, test, many) in
    let latch : c.latch_of.result ≡ latch_of_cell two_tensors (update_cell u) = c.latch_of.ensures.value
    ∙ ap (λ d. latch_of_cell d c.cell_of.result.now) c.requires.decls ∙ ap (latch_of_cell two_tensors) c.cell_of.ensures.value in
    elim c.if-latch_of-latch.branch [
      | then-latch_of-latch w ↦
          let first = inv.1 ∙ own_here two_tensors c.args.latch us i u within is (sym latch ∙ w.if-latch_of-latch.true) in
          let rest = w.apply.ensures.due (own two_tensors c.args.latch (drop (i + 1) us)) first in
          rw w.store-is (
            w.apply.ensures.sound two_tensors c.args.latch inv.0,
            rest,
            made c.loop-update.store w.apply.new.self u (own two_tensors c.args.latch (drop (i + 1) us)) _ first rest w.apply.ensures.content inv.2,
          )
      | else-latch_of-latch w ↦
          let later = own_later two_tensors c.args.latch us i u within is (λ e. w.if-latch_of-latch.false (latch ∙ e)) in
          rw w.store-is (inv.0, inv.1 ∙ later, inv.2)
    ]
