use Rattle.std.proofs.Common.{◌≡◌, [], ◌∷◌, refl, ◌∙◌}
use Rattle.fiber_store.specs.Stores.{AreValid, own}
use Rattle.fiber_store.specs.TwoTensors.{two_tensors}
use Rattle.fiber_store.proofs.tests.an_update_is_kept_and_made.Goals as goal

-- the one update is of the store's fiber, so it is due
pub apply-requires : goal.apply-requires
apply-requires g c =
    let valid : AreValid two_tensors c.of_one-updates.result =
    rw (c.of_one-updates.ensures.value, c.set.ensures.value, c.v.ensures.value) (record { decls = refl; cells = refl }) in
    let mine : own two_tensors 1 c.of_one-updates.result ≡ c.set-2.result ∷ [] =
    rw (c.of_one-updates.ensures.value, c.set.ensures.value, c.v.ensures.value, c.set-2.ensures.value, c.v-2.ensures.value) refl in
    let sound = rw c.in_ok-decls.ensures.value at c.in_ok-store.ensures.sound in
    record { first = ([], c.in_ok-prepare.ensures.due two_tensors 1 sound valid ∙ mine) }
