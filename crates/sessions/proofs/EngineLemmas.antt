-- What an engine knows of a seat of its own.
use Rattle.std.proofs.Common.{◌≡◌, ℕ, ap, sym, ◌∙◌}
use Rattle.dt_model.specs.declared.declared_tensors.Decls.{Decls}
use Rattle.dt_model.specs.Tensors.{latch_count}
use Rattle.fiber_latch.specs.declared.view.TableConfig.{TableConfig}
use Rattle.fiber_latch.specs.Seats.{SeatState, TableState, BelongsTo}
use Rattle.sessions.specs.Engines.{IsEngine}

module _ (inside now : TableState) (decls : Decls) (end : ℕ) (seat : SeatState) (engine : IsEngine inside decls end) (view : inside ≡ now)
    (own : BelongsTo seat now) where
  -- its declarations are those of the seat's table
  pub seat_decls : decls ≡ seat.config.world.decls
  seat_decls = engine.same ∙ ap (λ (t : TableState). t.config.world.decls) view ∙ sym (ap (λ (x : TableConfig). x.world.decls) own.1)

  -- the number of the journal's latch is that of the seat's table
  pub seat_end : end ≡ seat.config.end
  seat_end = engine.journal ∙ ap (λ (t : TableState). t.config.end) view ∙ sym (ap (λ (x : TableConfig). x.end) own.1)

  -- it comes behind those of the tensors
  pub seat_journal : end ≡ latch_count seat.config.world.decls
  seat_journal = engine.latches ∙ ap latch_count seat_decls
