use Rattle.std.proofs.Common.{◌≡◌, ◌*◌, ◌^◌, ◌++◌, min, take}
use Rattle.std.specs.Str.Parse.{digits_value}
use Rattle.dt_text.proofs.values.capped.Given as goal

abbrev pub invariant-loop-byte : goal.invariant-loop-byte
invariant-loop-byte l = l.number ≡ min (digits_value 10 (take l.byte-index l.whole)) (2 ^ 64)

abbrev pub invariant-loop-digit : goal.invariant-loop-digit
invariant-loop-digit l = l.number ≡ min (digits_value 10 (l.fn.whole ++ take l.digit-index l.fraction)) (2 ^ 64)

abbrev pub invariant-loop-zero : goal.invariant-loop-zero
invariant-loop-zero l = l.number ≡ min (digits_value 10 (l.fn.whole ++ l.fn.fraction) * 10 ^ l.zero) (2 ^ 64)
