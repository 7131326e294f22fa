-- Where the updates of a batch are: the list that contracts see of it. No public clause cites this file.
use Rattle.std.specs.Prelude.{◌≢◌, List, [], ◌∷◌, length}
use Rattle.dt_model.specs.declared.calls.Update.{Update}
use Rattle.dt_model.specs.declared.updates.Stored.{Stored}
use Rattle.dt_model.specs.declared.updates.Stored.TheVariants.{One, Many}

-- the updates in order
abbrev pub updates_of : Stored → List Update
updates_of (One update) = update ∷ []
updates_of (Many updates) = updates.items

-- one update is in the value itself
abbrev pub IsInPlace : Stored → Type 0
IsInPlace (One update) = Unit {0}
IsInPlace (Many updates) = length updates.items ≢ 1
