use Rattle.std.proofs.Common.{◌∙◌, sym, ap}
use Rattle.dt_model.specs.declared.replies.World.{World}
use Rattle.dt_model.specs.Tensors.{latch_count}
use Rattle.fiber_latch.specs.Conditions.{config_of}
use Rattle.fiber_latch.proofs.OpeningsLemmas.{starts-vacant}
use Rattle.fiber_latch.proofs.opening.vacant_table.Goals as goal

pub vacant-requires : goal.vacant-requires
vacant-requires g c =
    starts-vacant g.C.Keep.content g.C.Keep.sound
    (config_of record { world = c.of.result; end = c.args.end; sessions = c.args.sessions; calls = c.args.calls }) c.as_slice.result.now c.requires.counts.1
    (c.requires.latches ∙ ap (λ (w : World). latch_count w.decls) (sym c.of.ensures)) (c.as_slice.ensures.value ∙ c.in_ok-words.ensures.ok)
