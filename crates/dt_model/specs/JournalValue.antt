-- What contracts see of a journal: its entries, and how many more it has room for.
use Rattle.std.specs.Prelude.{ℕ, List}
use Rattle.dt_model.specs.declared.calls.Entry.{Entry}

-- the entries in their order, and the room that is left
pub record JournalValue : Type 0 where
  pub entries : List Entry
  pub spare : ℕ
