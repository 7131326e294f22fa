use Rattle.std.proofs.Common.{◌≡◌, ◌+◌, ◌*◌}
use Rattle.std.specs.Prelude.{map}
use Rattle.std.specs.List.{range_with_len}
use Rattle.sample_world.specs.Sample.{calls_each, generated, sample_script}
use Rattle.sample_world.proofs.worlds.scripts_of.Given as goal

abbrev pub invariant-loop-before : goal.invariant-loop-before
invariant-loop-before l = record {
  given : l.number ≡ generated (l.count + l.before * calls_each l.count);
  scripts : l.scripts ≡ map (sample_script l.count) (range_with_len 1 l.before);
}
