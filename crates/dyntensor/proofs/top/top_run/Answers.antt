use Rattle.std.proofs.Common.{Global, sym, ◌∙◌, arith}
use Rattle.std.specs.Prelude.{map, string_bytes}
use Rattle.dyntensor.specs.Commands.{manifest_named}
use Rattle.dyntensor.specs.Outcome.{HasCause}
use Rattle.dyntensor.proofs.OutcomeLemmas.{ends_from, status_few, sink_rose, sink_quiet, own_status, own_unless_rose, headline_in, usage_in, shelf_rose, completes_in, end_in}
use Rattle.dyntensor.proofs.top.top_run.Goals as goal

pub returns : goal.returns
returns g c =
    let words = map (string_bytes {Z = Global}) c.args.words.now in
    let manifest = manifest_named words in
    let shelf = g.S.Shelf.state c.args.shelf.now in
    let new_shelf = g.S.Shelf.state c.outcome_of-outcome.new.shelf in
    let old = g.K.Sink.written c.args.sink.now in
    let new = g.K.Sink.written c.write_outcome.new.sink in
    let before = g.K.Sink.faults c.args.sink.now in
    let after = g.K.Sink.faults c.write_outcome.new.sink in
    let status = c.write_outcome.result in
    let end = c.outcome_of-outcome.new.end in
    let e = ends_from (HasCause manifest shelf new_shelf end) c.outcome_of-outcome.result status old new before after c.outcome_of-outcome.ensures.cause
    c.write_outcome.ensures.written in
    record {
      headline = λ zero. headline_in status old new before after e.outcome manifest shelf new_shelf end e.cause e.printed zero;
      ended = e;
      statuses = status_few status old new before after e.outcome e.printed;
      usage = λ n. usage_in status e.outcome manifest shelf new_shelf end e.cause (own_status status old new before after e.outcome e.printed n);
      shelf = λ three. shelf_rose e.outcome manifest shelf new_shelf end e.cause
          (sym (own_status status old new before after e.outcome e.printed (λ four. absurd (omega arith))) ∙ three);
      sink = sink_rose status old new before after e.outcome e.printed;
      quiet = sink_quiet status old new before after e.outcome e.printed;
      end = λ n. end_in status e.outcome manifest shelf new_shelf end e.cause (own_status status old new before after e.outcome e.printed n);
      complete = λ shelf_quiet sink_is_quiet. completes_in status e.outcome manifest shelf new_shelf end e.cause
          (own_unless_rose status old new before after e.outcome e.printed sink_is_quiet) shelf_quiet;
      files = c.outcome_of-outcome.ensures.files;
    }
