use Rattle.std.proofs.Common.{◌≡◌, length}
use Rattle.nested_modes.proofs.listing.lists_for.Given as goal

-- one list each
abbrev pub invariant-loop : goal.invariant-loop
invariant-loop l = length l.lists.items ≡ l.counter
