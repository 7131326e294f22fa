use Rattle.std.proofs.Common.{◌≡◌, ◌+◌, ◌-◌, ◌*◌}
use Rattle.std.specs.Prelude.{map}
use Rattle.std.specs.List.{range_with_len}
use Rattle.sample_world.specs.Sample.{calls_each, generated, sample_call}
use Rattle.sample_world.proofs.worlds.script_of.Given as goal

abbrev pub invariant-loop-before : goal.invariant-loop-before
invariant-loop-before l = record {
  given : l.number ≡ generated (l.count + (l.session - 1) * calls_each l.count + l.before);
  script : l.script ≡ map (sample_call l.count l.session) (range_with_len 1 l.before);
}
