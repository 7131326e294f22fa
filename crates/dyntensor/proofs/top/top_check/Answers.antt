use Rattle.std.proofs.Common.{Global, sym, ◌∙◌, arith}
use Rattle.std.specs.Prelude.{map, string_bytes}
use Rattle.dyntensor.specs.Commands.{schemas_named}
use Rattle.dyntensor.specs.Checks.{HasCheckCause}
use Rattle.dyntensor.proofs.OutcomeLemmas.{ends_from, status_few, sink_rose, sink_quiet, own_status, own_unless_rose}
use Rattle.dyntensor.proofs.CheckLemmas.{kept_in, check_usage_in, check_shelf_rose, check_completes_in}
use Rattle.dyntensor.proofs.top.top_check.Goals as goal

pub returns : goal.returns
returns g c =
    let words = map (string_bytes {Z = Global}) c.args.words.now in
    let file = schemas_named words in
    let shelf = g.S.Shelf.state c.args.shelf.now in
    let new_shelf = g.S.Shelf.state c.outcome_of_check-outcome.new.shelf in
    let old = g.K.Sink.written c.args.sink.now in
    let new = g.K.Sink.written c.write_outcome.new.sink in
    let before = g.K.Sink.faults c.args.sink.now in
    let after = g.K.Sink.faults c.write_outcome.new.sink in
    let status = c.write_outcome.result in
    let e = ends_from (HasCheckCause file shelf new_shelf) c.outcome_of_check-outcome.result status old new before after
    c.outcome_of_check-outcome.ensures.cause c.write_outcome.ensures.written in
    record {
      kept = λ zero. kept_in status old new before after e.outcome file shelf new_shelf e.cause e.printed zero;
      ended = e;
      statuses = status_few status old new before after e.outcome e.printed;
      usage = λ n. check_usage_in status e.outcome file shelf new_shelf e.cause (own_status status old new before after e.outcome e.printed n);
      shelf = λ three. check_shelf_rose e.outcome file shelf new_shelf e.cause
          (sym (own_status status old new before after e.outcome e.printed (λ four. absurd (omega arith))) ∙ three);
      sink = sink_rose status old new before after e.outcome e.printed;
      quiet = sink_quiet status old new before after e.outcome e.printed;
      complete = λ shelf_quiet sink_is_quiet. check_completes_in status e.outcome file shelf new_shelf e.cause
          (own_unless_rose status old new before after e.outcome e.printed sink_is_quiet) shelf_quiet;
      files = c.outcome_of_check-outcome.ensures.files;
    }
