use Rattle.std.proofs.Common.{◌+◌, ◌∙◌, refl, arith}
use Rattle.sample_world.specs.Sample.{sample_line}
use Rattle.sample_world.proofs.CellsLemmas.{given_small, given_next, map_range-push}
use Rattle.sample_world.proofs.worlds.add_lines.Goals as goal

pub next_number-requires : goal.next_number-requires
next_number-requires c = record { small = given_small c.loop-before.number c.loop-before.before c.loop-before.invariant.given }

pub line_of-requires : goal.line_of-requires
line_of-requires c = record {
  given = given_next c.loop-before.number c.next_number.result c.loop-before.before (c.loop-before.before + 1) c.loop-before.invariant.given
      c.next_number.ensures.value refl;
}

pub loop-before-preserved : goal.loop-before-preserved
loop-before-preserved c = record {
  given = given_next c.loop-before.number c.next_number.result c.loop-before.before (c.loop-before.before + 1) c.loop-before.invariant.given
      c.next_number.ensures.value refl;
  lines = c.in_ok-push.ensures.ok
      ∙ map_range-push sample_line c.loop-before.lines c.line_of.result 1 c.loop-before.before (c.loop-before.before + 1) (omega arith)
      c.loop-before.invariant.lines c.line_of.ensures.value;
}
