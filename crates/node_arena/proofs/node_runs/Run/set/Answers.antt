use Rattle.std.proofs.Common.{map, slice_set, ap, ◌∙◌}
use Rattle.std.proofs.lemmas.List.{map-set}
use Rattle.node_arena.specs.Packing.{unpacked}
use Rattle.node_arena.proofs.RefillLemmas.{refill-set}
use Rattle.node_arena.proofs.node_runs.Run.set.Goals as goal

pub returns : goal.returns
returns g c =
    let items = c.self.inside.elems.items in record {
      value =
          ap (map unpacked) (refill-set items c.deref_mut.result.now c.args.place c.pack.result c.deref_mut.ensures.value)
          ∙ map-set unpacked items c.args.place c.pack.result
          ∙ ap (slice_set (map unpacked items) c.args.place) c.pack.ensures.value
          ∙ ap (λ v. slice_set v c.args.place c.args.elem) c.self.view_is;
    }
