use Rattle.std.proofs.Common.{◌≡◌, ◌+◌, ◌≤◌, ap, arith, length, sum_by, take, get_or}
use Rattle.std.proofs.lemmas.List.Sums.{sum_by_more_le}
use Rattle.commit_core.proofs.ValidScripts.{lines_are_few}
use Rattle.commit_core.proofs.opening.lines_in.Goals as goal

pub overflow_add-lines : goal.overflow_add-lines
overflow_add-lines c =
    let scripts = c.as_slice-script-items.result.now in
    let k = c.loop-script.script-index in
    let more : sum_by length (take k scripts) + length (get_or scripts k c.script-item.result) ≤ sum_by length scripts =
    sum_by_more_le length scripts k c.script-item.result c.loop-script-test.true in
    let item : length c.script-item.result ≡ length (get_or scripts k c.script-item.result) = ap length c.script-item.is in
    let all : sum_by length scripts ≡ sum_by length c.args.world.now.scripts = ap (sum_by length) c.as_slice-script-items.ensures.value in
    let few : sum_by length c.args.world.now.scripts ≤ 1048576 = lines_are_few c.args.world.now c.requires.valid in
    omega (arith, c.loop-script.invariant, c.len.ensures.value)
