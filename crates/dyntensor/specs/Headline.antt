-- What a run at status 0 promises, and which runs end so.
use Rattle.std.specs.Prelude.{ℕ, ◌≡◌, ◌++◌, List, Option, Ok, IfSome, IsSomeAnd, MatchResult, ◌⊎◌}
use Rattle.dt_model.specs.Report.{history, PrintsRun}
use Rattle.fiber_latch.specs.declared.closing.Closed.{Closed}
use Rattle.fiber_store.specs.Stores.{StoreState}
use Rattle.dyntensor.specs.Leaving.{IsLeftBy}
use Rattle.dyntensor.specs.Workload.{Files, Work, workload}

-- the bytes are what a run of the manifest's workload prints, and its table is left with the history in them
pub record PrintsWorkload (files : Files) (manifest : List ℕ) (end : Option (Closed StoreState)) (bytes : List ℕ) : Type 0 where
  pub work : Work
  pub asked : workload files manifest ≡ Ok work
  pub printed : PrintsRun work.world work.printed bytes
  pub left : IsSomeAnd end (IsLeftBy work.world (history work.world bytes))

-- what was written since, where the sink exposes it, has the property
abbrev pub WritesWhere : (List ℕ → Type 0) → Option (List ℕ) → Option (List ℕ) → Type 0
WritesWhere P old new = IfSome new (λ after. (bytes : List ℕ) × IsSomeAnd old (λ before. after ≡ before ++ bytes) × P bytes)

-- a sound workload is run, and one with a fault is refused; or the run is out of memory
abbrev pub Completes : Files → List ℕ → ℕ → Type 0
Completes files manifest status = MatchResult (workload files manifest) (λ work. (status ≡ 0) ⊎ (status ≡ 5)) (λ fault. (status ≡ 2) ⊎ (status ≡ 5))
