use Rattle.std.proofs.Common.{◌≡◌, ◌+◌, ◌-◌, ◌*◌, ◌∙◌, ap, arith}
use Rattle.std.specs.Prelude.{map}
use Rattle.std.specs.List.{range_with_len}
use Rattle.sample_world.specs.Sample.{calls_each, generated, sample_script}
use Rattle.sample_world.proofs.CellsLemmas.{map_range-push}
use Rattle.sample_world.proofs.worlds.scripts_of.Goals as goal

pub script_of-requires : goal.script_of-requires
script_of-requires c =
    let same : c.loop-before.before ≡ c.loop-before.before + 1 - 1 = omega arith in
    record {
      few = c.requires.few;
      session = (omega arith, omega arith);
      given = c.loop-before.invariant.given ∙ ap (λ k. generated (c.args.count + k * calls_each c.args.count)) same;
    }

pub loop-before-init : goal.loop-before-init
loop-before-init c = record {
  given = c.requires.given ∙ ap generated (omega arith);
  scripts = c.new-scripts.ensures.value;
}

pub loop-before-preserved : goal.loop-before-preserved
loop-before-preserved c = record {
  given = c.in_ok-script.ensures.given;
  scripts = c.in_ok-push.ensures.ok
      ∙ map_range-push (sample_script c.args.count) c.loop-before.scripts c.in_ok-script.script 1 c.loop-before.before (c.loop-before.before + 1)
      (omega arith) c.loop-before.invariant.scripts c.in_ok-script.ensures.script;
}

pub returns : goal.returns
returns c =
    let last : c.loop-before.before ≡ 4 = omega arith in
    record { scripts = c.loop-before.invariant.scripts ∙ ap (λ k. map (sample_script c.args.count) (range_with_len 1 k)) last }
