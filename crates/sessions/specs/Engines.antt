-- What is true of an engine between its calls. No public clause cites this module.
use Rattle.std.specs.Prelude.{◌≡◌, ℕ, IsTrue}
use Rattle.dt_model.specs.declared.declared_tensors.Decls.{Decls}
use Rattle.dt_model.specs.Tensors.{latch_count}
use Rattle.dt_model.specs.Worlds.{decls_are_valid}
use Rattle.fiber_latch.specs.Seats.{TableState}

-- the declarations are those of the table's world, and the number of the journal's latch is behind those of their latches
pub record IsEngine (table : TableState) (decls : Decls) (end : ℕ) : Type 0 where
  pub same : decls ≡ table.config.world.decls
  pub valid : IsTrue (decls_are_valid decls)
  pub journal : end ≡ table.config.end
  pub latches : end ≡ latch_count decls
