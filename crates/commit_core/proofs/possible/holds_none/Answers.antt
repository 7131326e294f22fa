use Rattle.std.proofs.Common.{◌≡◌, sym, arith, false}
use Rattle.std.specs.Prelude.{slice_index, not, ◌==◌}
use Rattle.std.proofs.lemmas.Bool.Decides.{nat_tests}
use Rattle.commit_core.proofs.EventsLemmas.{all_under-fails}
use Rattle.commit_core.proofs.possible.holds_none.Goals as goal

pub returns-then-holder-session : goal.returns-then-holder-session
returns-then-holder-session c =
    let at = c.if-holder-session.true in
    let fails : not (slice_index c.args.holders.now c.loop-holder.holder-index == c.args.session) ≡ false = grind (arith, nat_tests) in
    record { value = sym (all_under-fails _ _ c.loop-holder.holder-index c.loop-holder-test.true fails) }
