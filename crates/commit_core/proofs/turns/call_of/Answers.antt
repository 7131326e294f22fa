use Rattle.commit_core.proofs.ValidScripts.{found_is_valid}
use Rattle.commit_core.proofs.turns.call_of.Goals as goal

pub returns-clause-valid : goal.returns-clause-valid
returns-clause-valid c = found_is_valid c.args.world.now c.args.session c.args.number c.found_call.result c.requires.valid c.found_call.ensures.value
