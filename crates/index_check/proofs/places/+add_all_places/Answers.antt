use Rattle.std.proofs.Common.{length, length-append, ap, ◌∙◌, arith}
use Rattle.dt_model.specs.Refusals.{places_with_dims}
use Rattle.index_check.proofs.Known.{length-places_with_dims}
use Rattle.index_check.proofs.places.+add_all_places.Goals as goal

pub add_all_places-requires : goal.add_all_places-requires
add_all_places-requires t c =
    let grown = ap length c.add_places.ensures.value
    ∙ length-append c.args.list.now.items (places_with_dims c.args.decls.now c.tensor.result.now 0 c.as_slice.result.now) in
    let sizes = length-places_with_dims c.args.decls.now c.tensor.result.now 0 c.as_slice.result.now in
    let few = c.as_slice.ensures.few in
    let room = c.requires.room in
    (omega arith, omega (arith, grown, sizes, few, room))
