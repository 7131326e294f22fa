-- A store stays whole while it keeps updates and makes them.
use Rattle.std.proofs.Common.{◌≡◌, ℕ, ◌+◌, ◌<◌, ◌≤◌, true, List, [], ◌∷◌, length, filter, ap, sym, ◌∙◌, subst, arith, All}
use Rattle.std.proofs.lemmas.List.Elements.{All-head, All-nil, All-tail, filter_passes}
use Rattle.dt_model.specs.declared.calls.Update.{Update}
use Rattle.dt_model.specs.Packed.{PackedState}
use Rattle.dt_model.specs.Verdicts.{update_cell}
use Rattle.fiber_store.specs.declared.fibers.Fiber.{Fiber}
use Rattle.fiber_store.specs.Fibers.{IsWhole, Writes, has_cell}
use Rattle.fiber_store.proofs.FibersLemmas.{IsAscending-Writes, in_range-has_cell, length-in_range}

-- the update that is due first is of the fiber's cells
pub due_first : (f : Fiber) (cells : PackedState) (due : List Update) (u : Update) (rest : List Update) → IsWhole f cells due → due ≡ u ∷ rest
    → has_cell f (update_cell u) ≡ true
due_first f cells due u rest whole is =
    All-head (λ (x : Update). has_cell f (update_cell x) ≡ true) u rest (subst (All (λ (x : Update). has_cell f (update_cell x) ≡ true)) is whole.own)

-- its cell has as many coordinates as the cells of the store
pub length-due_first : (f : Fiber) (cells : PackedState) (due : List Update) (u : Update) (rest : List Update) → IsWhole f cells due → due ≡ u ∷ rest
    → length (update_cell u).at ≡ cells.order
length-due_first f cells due u rest whole is =
    length-in_range f.dims (update_cell u).at (in_range-has_cell f (update_cell u) (due_first f cells due u rest whole is)) ∙ sym whole.order

-- there is room for its cell
pub room_first : (f : Fiber) (cells : PackedState) (due : List Update) (u : Update) (rest : List Update) → IsWhole f cells due → due ≡ u ∷ rest
    → 0 < cells.spare
room_first f cells due u rest whole is = let many = ap length is in let room = whole.room in omega (arith, many, room)

-- a store that is due nothing, whatever room it has
pub IsWhole-nothing : (f : Fiber) (old new : PackedState) (before : List Update) → IsWhole f old before → new.pairs ≡ old.pairs → new.order ≡ old.order
    → IsWhole f new []
IsWhole-nothing f old new before whole same order = record {
  width = whole.width;
  modes = whole.modes;
  order = order ∙ whole.order;
  ascending = rw same whole.ascending;
  own = All-nil (λ (x : Update). has_cell f (update_cell x) ≡ true);
  room = omega arith;
}

-- a store that keeps the fiber's own of some updates
pub IsWhole-kept : (f : Fiber) (old new : PackedState) (before us due : List Update) → IsWhole f old before → new.pairs ≡ old.pairs → new.order ≡ old.order
    → due ≡ filter (λ u. has_cell f (update_cell u)) us → length due ≤ new.spare → IsWhole f new due
IsWhole-kept f old new before us due whole same order is room = record {
  width = whole.width;
  modes = whole.modes;
  order = order ∙ whole.order;
  ascending = rw same whole.ascending;
  own = rw is (filter_passes (λ (u : Update). has_cell f (update_cell u)) us);
  room = room;
}

-- a store that has made the update that was due first
pub IsWhole-made : (f : Fiber) (old new : PackedState) (due : List Update) (u : Update) (rest : List Update) (v : ℕ) → IsWhole f old due → due ≡ u ∷ rest
    → Writes old.pairs new.pairs (update_cell u).at v → new.order ≡ old.order → old.spare ≤ new.spare + 1 → IsWhole f new rest
IsWhole-made f old new due u rest v whole is written order spare = record {
  width = whole.width;
  modes = whole.modes;
  order = order ∙ whole.order;
  ascending = IsAscending-Writes old.pairs new.pairs (update_cell u).at v whole.ascending written;
  own = All-tail (λ (x : Update). has_cell f (update_cell x) ≡ true) u rest (subst (All (λ (x : Update). has_cell f (update_cell x) ≡ true)) is whole.own);
  room = let many = ap length is in let room = whole.room in omega (arith, many, room, spare);
}
