use Rattle.std.proofs.Common.{◌≡◌, ◌-◌, length, length-append, ap, arith}
use Rattle.std.specs.List.{range_with_len}
use Rattle.std.proofs.lemmas.List.FromFn.{length-range_with_len}
use Rattle.loop_code.proofs.places.add_term.Goals as goal
use Rattle.loop_code.proofs.places.add_term.Goals.{then-is_set, else-is_set}

pub returns-clause-room : goal.returns-clause-room
returns-clause-room c = elim c.if-is_set.branch [
  | then-is_set w ↦
      let k = c.after_accesses-access.result - c.args.first.access in
      let same : length c.if-is_set.into.items ≡ length w.add_numbers.new.into.items = cc in
      let grown = ap length w.add_numbers.ensures.value in
      omega (
        arith,
        same,
        grown,
        length-append c.args.into.now.items (range_with_len c.args.first.access k),
        length-range_with_len c.args.first.access k,
        c.after_accesses-access.ensures.value,
        c.requires.room,
      )
  | else-is_set w ↦
      let same : length c.if-is_set.into.items ≡ length c.args.into.now.items = cc in
      omega (arith, same, c.after_accesses-access.ensures.value, c.requires.room)
]
