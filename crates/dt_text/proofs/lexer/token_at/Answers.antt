use Rattle.std.proofs.Common.{◌≡◌, ◌<◌, ◌+◌, ◌-◌, ◌∙◌, ap, length, drop, take, get_or, arith}
use Rattle.std.proofs.lemmas.List.{take_rest}
use Rattle.dt_text.proofs.LexerLemmas.{token_spans_from-none, token_spans_from-first}
use Rattle.dt_text.proofs.lexer.token_at.Goals as goal

pub returns-in-empty-clause-first : goal.returns-in-empty-clause-first
returns-in-empty-clause-first g c =
    let gap = g.G.LexicalGrammar.gap in
    let run = g.G.LexicalGrammar.run in
    let text = c.args.text.now in
    let at = c.args.at in
    token_spans_from-none gap run text _ at c.gap_run.result (take_rest text at) c.gap_run.ensures.value (omega (arith, c.in-empty.len_below))

pub returns-in-len1-up-clause-first : goal.returns-in-len1-up-clause-first
returns-in-len1-up-clause-first g c =
    let gap = g.G.LexicalGrammar.gap in
    let run = g.G.LexicalGrammar.run in
    let text = c.args.text.now in
    let at = c.args.at in
    let n = c.gap_run.result in
    let more = take (length text - (at + n)) (drop (at + n) text) in
    let len : 0 < length more = omega (arith, c.in-len1-up.len_at_least) in
    let ran : c.run_after.result ≡ run (get_or more 0 0) (drop 1 more) = c.run_after.ensures.value ∙ ap (run (get_or more 0 0)) (take_rest more 1) in
    token_spans_from-first gap run text _ more at n c.run_after.result (take_rest text at) c.gap_run.ensures.value (take_rest text (at + n)) len ran
