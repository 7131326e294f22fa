use Rattle.std.proofs.Common.{subst, arith}
use Rattle.bulk_build.specs.Layouts.{HasTree}
use Rattle.bulk_build.proofs.ReadingLemmas.{tree-there, tree-below-is}
use Rattle.bulk_build.proofs.reading.+read.Goals as goal

pub len-len-requires : goal.len-len-requires
len-len-requires t c =
    record { there = tree-there c.args.arena.now c.in-Some.id (subst (HasTree c.args.arena.now) c.in-Some.is c.requires.tree) }

pub link_count-links-requires : goal.link_count-links-requires
link_count-links-requires t c =
    record { there = tree-there c.args.arena.now c.in-Some.id (subst (HasTree c.args.arena.now) c.in-Some.is c.requires.tree) }

pub kind-requires : goal.kind-requires
kind-requires t c =
    record { there = tree-there c.args.arena.now c.in-Some.id (subst (HasTree c.args.arena.now) c.in-Some.is c.requires.tree) }

pub are_same-same-requires : goal.are_same-same-requires
are_same-same-requires t c =
    record { there = tree-there c.args.arena.now c.in-Some.id (subst (HasTree c.args.arena.now) c.in-Some.is c.requires.tree) }

pub link-requires : goal.link-requires
link-requires t c =
    record { there = tree-there c.args.arena.now c.in-Some.id (subst (HasTree c.args.arena.now) c.in-Some.is c.requires.tree) }

pub read-below-requires : goal.read-below-requires
read-below-requires t c = (
  omega (arith, c.decreases, c.if-deep-eq0.false),
  tree-below-is c.args.arena.now c.in-Some.id c.links.place c.link.result (subst (HasTree c.args.arena.now) c.in-Some.is c.requires.tree)
      c.link.ensures.value,
)

pub are_same-same-requires-2 : goal.are_same-same-requires-2
are_same-same-requires-2 t c =
    record { there = tree-there c.args.arena.now c.in-Some.id (subst (HasTree c.args.arena.now) c.in-Some.is c.requires.tree) }
