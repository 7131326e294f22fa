use Rattle.std.proofs.Common.{◌≡◌, ap, ◌∙◌, refl}
use Rattle.schema_check.specs.Breaches.{first_breach, culprits}
use Rattle.schema_check.proofs.breaches.first_breach.Goals as goal

pub returns : goal.returns
returns c =
    let lists : c.as_slice.result.now ≡ culprits c.args.schema.now =
    rw (
      c.as_slice.ensures,
      c.first_out_of_bounds.ensures.value,
      c.first_too_long.ensures.value,
      c.first_unsplit.ensures.value,
      c.first_misnamed.ensures.value,
      c.first_unfit.ensures.value,
      c.first_without_room.ensures.value,
      c.first_unreached.ensures.value,
      c.as_slice-kinds.ensures.value,
    ) refl in
    record { value = c.first_named.ensures.value ∙ ap (first_breach 1) lists }
