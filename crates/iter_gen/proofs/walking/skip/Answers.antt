use Rattle.std.proofs.Math.Logic.{∥∥₁_map}
use Rattle.iter_gen.specs.Frames.{from}
use Rattle.iter_gen.proofs.PathsLemmas.{go-some}
use Rattle.iter_gen.proofs.walking.skip.Goals as goal

pub leave-requires : goal.leave-requires
leave-requires c = record { there = ∥∥₁_map c.requires.there (λ p. (c.args.kinds.now, p.0, p.1, p.2)) }

pub sink-requires : goal.sink-requires
sink-requires c = record {
  there = ∥∥₁_map c.requires.there (λ p.
      (from c.args.at p.0, go-some _ _ _ _ _ _ _ c.in-Some.is (c.leave.ensures.down c.args.kinds.now p.0 p.1 p.2)));
}
