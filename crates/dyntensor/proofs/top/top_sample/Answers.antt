use Rattle.std.proofs.Common.{Global}
use Rattle.std.specs.Prelude.{map, string_bytes}
use Rattle.dyntensor.specs.Commands.{sample_numbered}
use Rattle.dyntensor.specs.Samples.{HasSampleCause}
use Rattle.dyntensor.proofs.OutcomeLemmas.{ends_from, sink_rose, sink_quiet, own_status, own_unless_rose}
use Rattle.dyntensor.proofs.SampleLemmas.{sampled_in, sample_status, sample_usage_in, sample_completes_in}
use Rattle.dyntensor.proofs.top.top_sample.Goals as goal

pub returns : goal.returns
returns g c =
    let words = map (string_bytes {Z = Global}) c.args.words.now in
    let number = sample_numbered words in
    let old = g.K.Sink.written c.args.sink.now in
    let new = g.K.Sink.written c.write_outcome.new.sink in
    let before = g.K.Sink.faults c.args.sink.now in
    let after = g.K.Sink.faults c.write_outcome.new.sink in
    let status = c.write_outcome.result in
    let e = ends_from (HasSampleCause number) c.outcome_of_sample-outcome.result status old new before after c.outcome_of_sample-outcome.ensures.cause
    c.write_outcome.ensures.written in
    record {
      sampled = λ zero. sampled_in status old new before after e.outcome number e.cause e.printed zero;
      ended = e;
      statuses = sample_status status old new before after e.outcome number e.cause e.printed;
      usage = λ n. sample_usage_in status e.outcome number e.cause (own_status status old new before after e.outcome e.printed n);
      sink = sink_rose status old new before after e.outcome e.printed;
      quiet = sink_quiet status old new before after e.outcome e.printed;
      complete = λ quiet. sample_completes_in status e.outcome number e.cause (own_unless_rose status old new before after e.outcome e.printed quiet);
    }
