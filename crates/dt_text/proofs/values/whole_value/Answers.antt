use Rattle.std.proofs.Common.{◌≡◌, ℕ, ◌+◌, ◌-◌, ◌^◌, min, false, length, drop, refl, ap, sym, ◌∙◌, arith, Some}
use Rattle.std.specs.Prelude.{◌&&◌}
use Rattle.std.specs.Option.{option_map}
use Rattle.std.specs.Char.{is_ascii_digit}
use Rattle.std.specs.List.{list_all}
use Rattle.std.proofs.lemmas.List.{take_rest}
use Rattle.dt_text.specs.Values.{is_zero}
use Rattle.dt_text.proofs.PointLemmas.{scaled-whole, scaled-not_whole, list_all-take}
use Rattle.dt_text.proofs.values.whole_value.Goals as goal
use Rattle.dt_text.proofs.values.whole_value.Goals.{then-not-are_zeros-via-then-not-are_zeros, then-not-are_zeros-via-else-not-are_zeros+then-not-are_zeros-2}

pub capped-requires-clause-whole : goal.capped-requires-clause-whole
capped-requires-clause-whole c = list_all-take is_ascii_digit c.args.whole.now _ c.requires.whole

pub capped-requires-clause-fraction : goal.capped-requires-clause-fraction
capped-requires-clause-fraction c = list_all-take is_ascii_digit c.args.fraction.now _ c.requires.fraction

pub returns-then-not-are_zeros : goal.returns-then-not-are_zeros
returns-then-not-are_zeros c =
    let ws = c.args.whole.now in
    let ps = c.args.fraction.now in
    let n = c.saturating_sub-kept.result in
    let a = c.min-in_whole.result in
    let b : ℕ = n - a in
    let behind : n ≡ length ws + length ps - (c.args.down - c.args.up) = omega arith in
    let whole = ap (list_all is_zero) (sym (take_rest ws a)) ∙ sym c.are_zeros.ensures.value in
    let other : (list_all is_zero (drop a ws) && list_all is_zero (drop b ps)) ≡ false = elim c.then-not-are_zeros.branch [
      | then-not-are_zeros-via-then-not-are_zeros w ↦ rw (whole ∙ w.if-not-are_zeros.true) refl
      | then-not-are_zeros-via-else-not-are_zeros+then-not-are_zeros-2 w ↦
          rw (
            whole ∙ w.if-not-are_zeros.false,
            ap (list_all is_zero) (sym (take_rest ps b)) ∙ sym w.are_zeros-else-not-are_zeros.ensures.value
                ∙ w.if-not-are_zeros-2.true,
          ) refl
    ] in
    let none = scaled-not_whole ws ps c.args.up c.args.down n a b c.requires.whole c.requires.fraction behind c.min-in_whole.ensures refl other in
    record { value = ap (option_map (λ (n : ℕ). min n (2 ^ 64))) (sym none) }

pub returns : goal.returns
returns c =
    let ws = c.args.whole.now in
    let ps = c.args.fraction.now in
    let n = c.saturating_sub-kept.result in
    let a = c.min-in_whole.result in
    let b : ℕ = n - a in
    let behind : n ≡ length ws + length ps - (c.args.down - c.args.up) = omega arith in
    let whole = ap (list_all is_zero) (sym (take_rest ws a)) ∙ sym c.are_zeros.ensures.value ∙ c.if-not-are_zeros.false in
    let part = ap (list_all is_zero) (sym (take_rest ps b)) ∙ sym c.are_zeros-else-not-are_zeros.ensures.value ∙ c.if-not-are_zeros-2.false in
    let value = rw c.saturating_sub-2.ensures at c.capped.ensures.value in
    let some = scaled-whole ws ps c.args.up c.args.down n a b c.requires.whole c.requires.fraction behind c.min-in_whole.ensures refl whole part in
    record { value = ap Some value ∙ ap (option_map (λ (n : ℕ). min n (2 ^ 64))) (sym some) }
