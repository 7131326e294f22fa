use Rattle.std.proofs.Common.{◌++◌, ◌∙◌, ap}
use Rattle.dt_model.specs.Texts.{text_of}
use Rattle.dyntensor.specs.Samples.{sample_rows}
use Rattle.dyntensor.proofs.SampleLemmas.{IsValid-world, some_scripts, some_tensor, sample_nonzeros-complete}
use Rattle.dyntensor.proofs.samples.sample_text.Goals as goal

pub run_complete-requires : goal.run_complete-requires
run_complete-requires c = record {
  valid = IsValid-world c.args.number c.in_ok-world.world c.in_ok-world.ensures.value c.requires.few;
  some = some_scripts c.args.number c.in_ok-world.world c.in_ok-world.ensures.value;
}

pub nonzeros_of-requires : goal.nonzeros_of-requires
nonzeros_of-requires c = record {
  decls = (IsValid-world c.args.number c.in_ok-world.world c.in_ok-world.ensures.value c.requires.few).decls;
  declared = some_tensor c.args.number c.in_ok-world.world c.in_ok-world.ensures.value;
}

pub returns : goal.returns
returns c =
    let n = c.args.number in
    let pairs = sample_nonzeros-complete n c.in_ok-world.world c.in_ok-closed.closed c.in_ok-nonzeros.nonzeros c.in_ok-world.ensures.value
    c.in_ok-closed.ensures.complete c.in_ok-nonzeros.ensures.value in
    record {
      text = c.in_ok-write_sample.ensures.ok ∙ ap (λ old. old ++ text_of (sample_rows n c.in_ok-nonzeros.nonzeros)) c.new-text.ensures.items
          ∙ ap (λ ps. text_of (sample_rows n ps)) pairs;
    }
