use Rattle.std.proofs.Common.{rules}
use Rattle.commit_core.proofs.InvariantLemmas.{IsStep-made, IsSound-made}
use Rattle.commit_core.proofs.cores.Core.step.Goals as goal

pub returns-in-Take-clause-machine : goal.returns-in-Take-clause-machine
returns-in-Take-clause-machine c = IsStep-made c.args.self.now c.take.new.self c.args.event c.possible.ensures.kept (search rules) (search rules)

pub returns-in-Take-clause-sound : goal.returns-in-Take-clause-sound
returns-in-Take-clause-sound c = IsSound-made c.args.self.now c.take.new.self c.args.event c.possible.ensures.kept (search rules) (search rules) (search rules)

pub returns-in-Ok-clause-machine : goal.returns-in-Ok-clause-machine
returns-in-Ok-clause-machine c = IsStep-made c.args.self.now c.commit.new.self c.args.event c.possible.ensures.kept (search rules) (search rules)

pub returns-in-Ok-clause-sound : goal.returns-in-Ok-clause-sound
returns-in-Ok-clause-sound c = IsSound-made c.args.self.now c.commit.new.self c.args.event c.possible.ensures.kept (search rules) (search rules) (search rules)

pub returns-in-Give-clause-machine : goal.returns-in-Give-clause-machine
returns-in-Give-clause-machine c = IsStep-made c.args.self.now c.give.new.self c.args.event c.possible.ensures.kept (search rules) (search rules)

pub returns-in-Give-clause-sound : goal.returns-in-Give-clause-sound
returns-in-Give-clause-sound c = IsSound-made c.args.self.now c.give.new.self c.args.event c.possible.ensures.kept (search rules) (search rules) (search rules)

pub returns-in-Ok-quit-clause-machine : goal.returns-in-Ok-quit-clause-machine
returns-in-Ok-quit-clause-machine c = IsStep-made c.args.self.now c.quit.new.self c.args.event c.possible.ensures.kept (search rules) (search rules)

pub returns-in-Ok-quit-clause-sound : goal.returns-in-Ok-quit-clause-sound
returns-in-Ok-quit-clause-sound c = IsSound-made c.args.self.now c.quit.new.self c.args.event c.possible.ensures.kept (search rules) (search rules)
    (search rules)
