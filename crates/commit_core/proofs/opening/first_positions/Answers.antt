use Rattle.std.proofs.Common.{◌≡◌, ◌+◌, ◌<◌, ◌≤◌, ℕ, true, false, length, refl, sym, ap, ◌∙◌, arith, List}
use Rattle.std.specs.Prelude.{nat_lt}
use Rattle.std.proofs.lemmas.Bool.Decides.{nat_tests}
use Rattle.commit_core.specs.declared.events.Position.{Position}
use Rattle.commit_core.specs.Events.{position_after}
use Rattle.commit_core.specs.State.{position_in}
use Rattle.dt_model.specs.declared.replies.World.{World}
use Rattle.commit_core.proofs.ValidScripts.{none_after}
use Rattle.commit_core.proofs.StateLemmas.{position_in-past}
use Rattle.commit_core.proofs.opening.first_positions.Goals as goal

every : (w : World) (positions : List Position) (n : ℕ) → length positions ≡ n → length w.scripts + 1 ≤ n
    → ((s : ℕ) → s < n → position_in positions s ≡ position_after w s 0) → (s : ℕ) → position_in positions s ≡ position_after w s 0
every w positions n len full below s = elim (nat_lt s n) as (λ b. nat_lt s n ≡ b → position_in positions s ≡ position_after w s 0) [
  | true ↦ λ e. below s (grind (arith, nat_tests))
  | false ↦ λ e.
      let past : n ≤ s = grind (arith, nat_tests) in
      position_in-past positions s (omega arith) ∙ ap (λ k. let x : Position = record { number = k; committed = false } in x)
      (sym (none_after w s (omega arith)))
] refl

pub returns-clause-positions : goal.returns-clause-positions
returns-clause-positions c =
    let end = c.loop-session-test.false in
    let len = c.len-session-end.ensures.value in
    every c.args.world.now c.loop-session.positions.items c.loop-session.session c.loop-session.invariant.0 (omega arith) c.loop-session.invariant.1
