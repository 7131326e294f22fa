use Rattle.std.proofs.Common.{◌<◌, ◌++◌, ◌∷◌, [], length, take, sym, ap, ◌∙◌, arith}
use Rattle.std.proofs.lemmas.List.{append_assoc, take_more}
use Rattle.sessions.proofs.fiber_rows.append.Goals as goal

pub loop-index-preserved : goal.loop-index-preserved
loop-index-preserved c =
    let pairs = c.args.pairs.now in
    let i = c.loop-index.index in
    let row = c.row_at.result in
    let test = c.loop-index-test.true in
    let many = c.len-index-end.ensures.value in
    let within : i < length pairs = omega (arith, test, many) in
    c.in_ok-push.ensures.ok ∙ ap (λ r. r ++ row ∷ []) c.loop-index.invariant ∙ append_assoc c.args.rows.now (take i pairs) (row ∷ [])
    ∙ ap (λ r. c.args.rows.now ++ r) (sym (take_more pairs i row within ∙ ap (λ x. take i pairs ++ x ∷ []) (sym (c.row_at.ensures.value row))))
