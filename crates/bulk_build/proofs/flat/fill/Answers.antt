use Rattle.std.proofs.Common.{◌≡◌, ℕ, Some, None, Option, IfSome, ◌∙◌, arith}
use Rattle.std.specs.Option.{IsSomeAnd}
use Rattle.std.proofs.lemmas.Grind.{common_steps}
use Rattle.node_arena.specs.Arenas.{ArenaState, RunState, ChangesRun}
use Rattle.bulk_build.proofs.flat.fill.Goals as goal

-- what changes a run that is there leaves the room of spare runs
room-kept : (P : RunState → Type 0) (f : RunState → RunState) (o : Option RunState) (a b : ArenaState) (i : ℕ) → IsSomeAnd o P
    → IfSome o (λ r. ChangesRun a b i (Some (f r))) → b.runs.room ≡ a.runs.room
room-kept P f None a b i there h = absurd there
room-kept P f (Some r) a b i there h = h.run.room

pub loop-place-preserved : goal.loop-place-preserved
loop-place-preserved c = record {
  run = grind (arith, common_steps);
  others = grind (arith, common_steps);
  nodes = grind (arith, common_steps);
  spare = c.run_insert.ensures.spare ∙ c.loop-place.invariant.spare;
  room = room-kept _ _ _ _ _ _ c.loop-place.invariant.run c.run_insert.ensures.run ∙ c.loop-place.invariant.room;
}
