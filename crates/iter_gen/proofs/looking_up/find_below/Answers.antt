use Rattle.std.proofs.Common.{◌∙◌}
use Rattle.iter_gen.proofs.FoundLemmas.{ComesTo-whole, HasNode-root}
use Rattle.iter_gen.proofs.looking_up.find_below.Goals as goal

pub down-init : goal.down-init
down-init c =
    let q = c.requires.searches in
    (q.0, q.1, λ u r. ComesTo-whole c.args.kinds.now c.args.arena.now c.args.at c.args.root q.0 q.1.has u r)

pub returns-in-Here : goal.returns-in-Here
returns-in-Here c = record {
  found = λ t r.
      let q = c.down.invariant in
      let come = q.2 t r in
      let here = c.in-Here.ensures.turns q.0 q.1 in
      record {
        inside = come.inside c.down.here (HasNode-root c.args.arena.now c.down.here q.0 q.1.has);
        here = record { elem = here.elem; there = here.there; found = come.same ∙ here.found };
      };
}

pub down-preserved : goal.down-preserved
down-preserved c =
    let q = c.down.invariant in
    let lead = (c.in-Down.ensures.turns q.0 q.1).0 in
    (lead.tree, lead.searches, λ u r. record { same = (q.2 u r).same ∙ lead.same; inside = λ j g. (q.2 u r).inside j (lead.inside j g) })
