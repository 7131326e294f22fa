use Rattle.std.proofs.Common.{subst}
use Rattle.node_arena.specs.Arenas.{node_at}
use Rattle.insert_gen.specs.Below.{CanTake}
use Rattle.insert_gen.proofs.BelowLemmas.{link-read}
use Rattle.insert_gen.proofs.PassingLemmas.{Relinks-set}
use Rattle.insert_gen.proofs.passing.put_in_woven.Goals as goal

pub returns-clause-relinks : goal.returns-clause-relinks
returns-clause-relinks g c = λ t take away.
    let read = link-read (node_at c.args.arena.now c.args.node) c.args.place c.link-link.result c.requires.there c.link-link.ensures.value in
    let here = subst (λ l. CanTake c.args.kinds.now c.args.kind c.args.arena.now l c.args.elems.now t) read take in
    Relinks-set c.args.kinds.now c.args.kind c.args.arena.now c.put_all-link.new.arena c.args.node c.args.place c.args.elems.now t c.put_all-link.result
    (c.put_all-link.ensures.puts t here) away c.requires.there c.set_link.new.arena c.set_link.ensures.sets
