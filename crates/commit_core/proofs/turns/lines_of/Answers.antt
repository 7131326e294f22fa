use Rattle.std.proofs.Common.{ap, sym, ◌∙◌, arith}
use Rattle.std.specs.Option.{option_copied}
use Rattle.commit_core.proofs.ValidScripts.{script_is_short}
use Rattle.commit_core.proofs.turns.lines_of.Goals as goal

pub overflow_cast-result : goal.overflow_cast-result
overflow_cast-result c =
    let found = sym c.script_of.ensures.value ∙ ap option_copied c.in-Some.is in
    omega (arith, script_is_short c.args.world.now c.args.session c.in-Some.script.now c.requires.valid found)
