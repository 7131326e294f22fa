use Rattle.std.proofs.Common.{◌≡◌, ℕ, ◌<◌, ◌≤◌, length}
use Rattle.std.specs.Prelude.{slice_index}
use Rattle.commit_core.specs.Events.{without_session}
use Rattle.commit_core.proofs.committing.release.Given as goal

abbrev pub invariant-loop-latch : goal.invariant-loop-latch
invariant-loop-latch l = ((k : ℕ) → k < l.latch → slice_index l.holders.items k ≡ without_session (slice_index l.initial.holders.items) l.session k)
    × ((k : ℕ) → l.latch ≤ k → slice_index l.holders.items k ≡ slice_index l.initial.holders.items k)
    × (length l.holders.items ≡ length l.initial.holders.items)
