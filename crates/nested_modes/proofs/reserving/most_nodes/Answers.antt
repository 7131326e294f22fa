use Rattle.node_arena.specs.Kinds.{kinds_of, root_of}
use Rattle.nested_modes.proofs.ReadyLemmas.{most-wanted}
use Rattle.nested_modes.proofs.reserving.most_nodes.Goals as goal

pub returns : goal.returns
returns c = record { value = most-wanted (kinds_of c.args.code.now) (root_of c.args.code.now) c.need.result.nodes c.need.ensures.value.nodes }
