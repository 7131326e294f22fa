-- When a value of the tests' store is good. No public clause cites this module.
use Rattle.std.specs.Prelude.{◌≡◌, ℕ, List}
use Rattle.dt_model.specs.declared.calls.Entry.{Entry}
use Rattle.fiber_latch.specs.declared.view.TableConfig.{TableConfig}
use Rattle.fiber_latch.specs.declared.rule.Kept as kept
use Rattle.fiber_latch.specs.Rule.{GoodAt}
use Rattle.fiber_latch.specs.Trial.{content_of}

-- a store has the number of its latch, and a list of cells
abbrev pub IsGood : {A : Type 0} → (A → ℕ) → (A → List (ℕ × ℕ)) → TableConfig → List Entry → ℕ → kept.Kept A → Type 0
IsGood latch cells = GoodAt (λ s. content_of (cells s)) (λ d l s. latch s ≡ l)
