use Rattle.std.proofs.Common.{◌≡◌}
use Rattle.std.specs.Prelude.{map}
use Rattle.std.specs.List.{range_with_len}
use Rattle.sample_world.specs.Sample.{generated, sample_line}
use Rattle.sample_world.proofs.worlds.add_lines.Given as goal

abbrev pub invariant-loop-before : goal.invariant-loop-before
invariant-loop-before l = record {
  given : l.number ≡ generated l.before;
  lines : l.lines ≡ map sample_line (range_with_len 1 l.before);
}
