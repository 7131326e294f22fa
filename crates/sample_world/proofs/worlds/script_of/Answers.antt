use Rattle.std.proofs.Common.{◌≡◌, ℕ, ◌+◌, ◌-◌, ◌*◌, ◌≤◌, zero, suc, ◌∙◌, ap, arith}
use Rattle.std.specs.Prelude.{map}
use Rattle.std.specs.List.{range_with_len}
use Rattle.sample_world.specs.Sample.{calls_each, generated, sample_call}
use Rattle.sample_world.proofs.CellsLemmas.{given_small, given_next, map_range-push}
use Rattle.sample_world.proofs.worlds.script_of.Goals as goal

pub next_number-requires : goal.next_number-requires
next_number-requires c = record {
  small = given_small c.loop-before.number (c.args.count + (c.args.session - 1) * calls_each c.args.count + c.loop-before.before)
      c.loop-before.invariant.given;
}

one_more : (a b : ℕ) → a + (b + 1) ≡ a + b + 1
one_more a b = omega arith

pub call_of-line-requires : goal.call_of-line-requires
call_of-line-requires c =
    let start = c.args.count + (c.args.session - 1) * calls_each c.args.count in
    record {
      given = given_next c.loop-before.number c.next_number.result (start + c.loop-before.before) (start + (c.loop-before.before + 1))
          c.loop-before.invariant.given c.next_number.ensures.value (one_more start c.loop-before.before);
    }

pub loop-before-preserved : goal.loop-before-preserved
loop-before-preserved c =
    let start = c.args.count + (c.args.session - 1) * calls_each c.args.count in
    record {
      given = given_next c.loop-before.number c.next_number.result (start + c.loop-before.before) (start + (c.loop-before.before + 1))
          c.loop-before.invariant.given c.next_number.ensures.value (one_more start c.loop-before.before);
      script = c.in_ok-push.ensures.ok
          ∙ map_range-push (sample_call c.args.count c.args.session) c.loop-before.script c.call_of-line.result 1 c.loop-before.before
          (c.loop-before.before + 1) (omega arith) c.loop-before.invariant.script c.call_of-line.ensures.value;
    }

whole_part : (s n q : ℕ) → 1 ≤ s → s ≤ 4 → n + (s - 1) * q + q ≡ n + s * q
whole_part zero n q low high = absurd (omega arith)
whole_part (suc zero) n q low high = omega arith
whole_part (suc (suc zero)) n q low high = omega arith
whole_part (suc (suc (suc zero))) n q low high = omega arith
whole_part (suc (suc (suc (suc zero)))) n q low high = omega arith
whole_part (suc (suc (suc (suc (suc s))))) n q low high = absurd (omega arith)

pub returns : goal.returns
returns c =
    let n = c.args.count in
    let s = c.args.session in
    let last : c.loop-before.before ≡ calls_each n = omega arith in
    record {
      script = c.loop-before.invariant.script ∙ ap (λ k. map (sample_call n s) (range_with_len 1 k)) last;
      given = c.loop-before.invariant.given ∙ ap (λ k. generated (n + (s - 1) * calls_each n + k)) last
          ∙ ap generated (whole_part s n (calls_each n) c.requires.session.0 c.requires.session.1);
    }
