use Rattle.std.proofs.Common.{◌≡◌, sym, arith, false, true, Bool, ◌≢◌, ℕ, ◌∙◌}
use Rattle.std.specs.Prelude.{slice_index, not, ◌==◌, ◌||◌}
use Rattle.std.specs.List.{list_any}
use Rattle.std.proofs.lemmas.Bool.Decides.{nat_tests}
use Rattle.dt_model.specs.Statements.{accesses}
use Rattle.dt_model.specs.Tensors.{tensor_named}
use Rattle.dt_model.specs.Latches.{is_latch_of}
use Rattle.commit_core.proofs.EventsLemmas.{all_under-fails}
use Rattle.commit_core.proofs.possible.holds_tensors.Goals as goal

missing : (needed : Bool) (h s : ℕ) → needed ≡ true → h ≢ s → (not needed || h == s) ≡ false
missing needed h s e n = grind (arith, nat_tests)

pub returns-then-holder_of-session : goal.returns-then-holder_of-session
returns-then-holder_of-session c =
    let needed : list_any (λ a. is_latch_of c.args.decls.now c.loop-latch.latch (tensor_named c.args.decls.now a.0)) (accesses c.args.expression.now)
    ≡ true = sym c.expression_needs.ensures.value ∙ c.if-expression_needs.true in
    let other : slice_index c.args.holders.now c.loop-latch.latch ≢ c.args.session = rw (← c.holder_of.ensures.value) c.if-holder_of-session.true in
    record { value = sym (all_under-fails _ _ c.loop-latch.latch c.loop-latch-test.true (missing _ _ _ needed other)) }
