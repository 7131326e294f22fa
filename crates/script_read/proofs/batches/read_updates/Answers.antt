use Rattle.std.proofs.Common.{◌≡◌, ◌<◌, ◌^◌, ◌++◌, ◌∷◌, [], length, sym, subst, arith}
use Rattle.std.specs.List.{All}
use Rattle.std.proofs.lemmas.List.Elements.{All-push}
use Rattle.dt_model.specs.declared.limits.TheConstants.{MOST_UPDATES}
use Rattle.dt_model.specs.declared.written.WrittenUpdate.{WrittenUpdate}
use Rattle.script_read.proofs.BatchesLemmas.{updates-push}
use Rattle.script_read.proofs.batches.read_updates.Goals as goal

pub loop-part-preserved : goal.loop-part-preserved
loop-part-preserved c =
    let old = c.loop-part.updates in
    let update = c.in_ok-update.update in
    let few : length old < MOST_UPDATES = grind (arith, c.len.ensures.value, c.if-len-ge-MOST_UPDATES.false) in
    let grew : c.push.new.self ≡ old ++ update ∷ [] = grind arith in
    let short = λ (u : WrittenUpdate). length u.coordinates < 2 ^ 32 in
    record {
      left = updates-push old c.push.new.self _ c.loop-part.parts c.next_part.new.self update _ c.loop-part.invariant.left c.in-Some.ensures.steps few
          c.in_ok-update.ensures.reads grew;
      small = subst (All short) (sym grew) (All-push short old update c.loop-part.invariant.small c.in_ok-update.ensures.small);
    }
