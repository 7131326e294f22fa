-- What holds of every core, and what each step keeps of it.
use Rattle.std.specs.Prelude.{ℕ, ◌≡◌, ◌<◌, ◌≤◌, true, ◌⊎◌, length, All, Some, List, ◌+◌, sum_by}
use Rattle.dt_model.specs.declared.calls.Call.{Call}
use Rattle.dt_model.specs.declared.replies.World.{World}
use Rattle.dt_model.specs.Worlds.{IsValid}
use Rattle.dt_model.specs.Runs.{has_turn}
use Rattle.commit_core.specs.declared.events.Position.{Position}
use Rattle.commit_core.specs.Machine.{journal_latch}
use Rattle.commit_core.specs.Events.{Progress, current_call}
use Rattle.commit_core.specs.Sound.{IsPast, IsSound}
use Rattle.commit_core.specs.State.{CoreState, progress_of}
use Rattle.commit_core.specs.Orders.{orders_of}

-- a session that stands here has come past line n, or n is its current call and committed
abbrev pub IsEntered : Position → ℕ → Type 0
IsEntered position n = IsPast position n ⊎ ((n ≡ position.number) × (position.committed ≡ true))

-- a sound progress of a valid World, with what makes the next step's sound as well
pub record IsStepInvariant (w : World) (p : Progress) : Type 0 where
  -- the World is valid
  pub valid : IsValid w
  -- all that a run promises
  pub sound : IsSound w p
  -- per entry one number read, or none
  pub counted : length p.replies ≡ length p.machine.history
  -- each turn that is made is past, or is its session's current and committed call
  pub entries : All (λ e. IsEntered (p.position e.turn.session) e.turn.number) p.machine.history
  -- each turn that is lost is past
  pub quits : All (λ t. IsPast (p.position t.session) t.number) p.lost
  -- a current call that is committed is made
  pub made : (s : ℕ) → (p.position s).committed ≡ true → has_turn p.machine.history s (p.position s).number ≡ true
  -- nobody holds a latch that the World doesn't have
  pub within : (l : ℕ) → journal_latch w.decls < l → p.machine.holder l ≡ 0
  -- who holds a latch has a current call
  pub held : (s l : ℕ) → 1 ≤ s → p.machine.holder l ≡ s → (call : Call) × (current_call w p s ≡ Some call)
  -- from its commit on a session holds a latch
  pub busy : (s : ℕ) → 1 ≤ s → (p.position s).committed ≡ true → (l : ℕ) × (p.machine.holder l ≡ s)

-- each latch has a holder, each session a position and each tensor cells of its order; the journal has room for as many
-- entries as the scripts have lines; and what every step keeps holds
pub record IsInvariant (c : CoreState) (spare : ℕ) (orders : List ℕ) : Type 0 where
  pub latches : length c.holders ≡ journal_latch c.world.decls + 1
  pub sessions : length c.positions ≡ length c.world.scripts + 1
  pub tensors : orders ≡ orders_of c.world.decls
  pub room : length c.entries + spare ≡ sum_by length c.world.scripts
  pub kept : IsStepInvariant c.world (progress_of c)
