use Rattle.std.proofs.Common.{ap, sym, ◌∙◌, arith, ◌+◌, length, subst}
use Rattle.commit_core.specs.Sound.{IsSound}
use Rattle.commit_core.specs.Invariant.{IsStepInvariant}
use Rattle.commit_core.proofs.CoreSteps.{opening_is}
use Rattle.commit_core.proofs.InvariantLemmas.{IsStepInvariant-initial}
use Rattle.commit_core.proofs.cores.Core.open.Goals as goal

pub invariant_of-result : goal.invariant_of-result
invariant_of-result c =
    let w = c.args.world.now in
    let made = c.in_ok-tensors.ensures.contents in
    record {
      latches = c.in_ok-holders.ensures.len ∙ ap (λ n. n + 1) c.latch_count.ensures.value;
      sessions = c.in_ok-positions.ensures.len;
      tensors = c.in_ok-tensors.ensures.orders;
      room = let none = ap length c.in_ok-journal.ensures.entries in let all = c.in_ok-journal.ensures.spare in let lines =
          c.lines_in.ensures.value in omega arith;
      kept = subst (IsStepInvariant w) (sym (opening_is w _ _ _ _ _ _ c.in_ok-holders.ensures.free c.in_ok-positions.ensures.positions made
          c.in_ok-journal.ensures.entries c.new.ensures.items c.new-2.ensures.items)) (IsStepInvariant-initial w c.requires.valid);
    }

pub returns-clause-value : goal.returns-clause-value
returns-clause-value c =
    let made = c.in_ok-tensors.ensures.contents in
    opening_is c.args.world.now _ _ _ _ _ _ c.in_ok-holders.ensures.free c.in_ok-positions.ensures.positions made c.in_ok-journal.ensures.entries
    c.new.ensures.items c.new-2.ensures.items

pub returns-clause-sound : goal.returns-clause-sound
returns-clause-sound c =
    let w = c.args.world.now in
    let made = c.in_ok-tensors.ensures.contents in
    subst (IsSound w) (sym (opening_is w _ _ _ _ _ _ c.in_ok-holders.ensures.free c.in_ok-positions.ensures.positions made c.in_ok-journal.ensures.entries
    c.new.ensures.items c.new-2.ensures.items)) (IsStepInvariant-initial w c.requires.valid).sound
