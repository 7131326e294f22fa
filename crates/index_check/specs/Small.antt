-- What the test of a statement's limits looks at, for private functions.
use Rattle.std.specs.Prelude.{ℕ, ◌+◌, ◌-◌, List, [], ◌∷◌, length, Option, Some, None, ◌==◌, ◌&&◌, nat_lt, nat_le, if◌then◌else◌}
use Rattle.dt_model.specs.declared.statements.Expr.{Expr}
use Rattle.dt_model.specs.Statements.{accesses, literals}
use Rattle.index_check.specs.declared.limits.Room.{Room}

-- how many variables there are with these, where n come before and each new one has the next number; None where one has a later number
abbrev pub numbered_up_to : ℕ → List ℕ → Option ℕ
numbered_up_to n [] = Some n
numbered_up_to n (v ∷ vs) = if nat_lt v n then numbered_up_to n vs else (if v == n then numbered_up_to (n + 1) vs else None)

-- the room without so many accesses and literals, if there is room for them
abbrev pub room_less : Room → ℕ → ℕ → Option Room
room_less r m n = if nat_le m r.accesses && nat_le n r.literals then Some (record { accesses = r.accesses - m; literals = r.literals - n }) else None

-- the room that an expression leaves, if there is room for it
abbrev pub room_after : Room → Expr → Option Room
room_after r e = room_less r (length (accesses e)) (length (literals e))
