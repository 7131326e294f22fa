use Rattle.std.proofs.Common.{◌≡◌, ◌++◌, map, length}
use Rattle.dt_model.specs.Report.{pair_row}
use Rattle.dt_model.specs.Texts.{text_of}
use Rattle.tns_io.specs.Written.{Extends}
use Rattle.tns_io.proofs.writer.write_pairs.Given as goal

abbrev pub invariant-loop-at : goal.invariant-loop-at
invariant-loop-at l = record {
  written : l.into.items ++ text_of (map pair_row l.rest) ≡ l.fn.into.items ++ text_of (map pair_row l.pairs);
  extended : Extends l.fn.into.items l.into.items;
}

abbrev pub decreases-loop-at : goal.decreases-loop-at
decreases-loop-at l = length l.rest
