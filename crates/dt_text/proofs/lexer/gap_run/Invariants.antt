use Rattle.std.proofs.Common.{◌≡◌, ◌+◌, drop}
use Rattle.std.specs.List.{prefix_len}
use Rattle.dt_text.proofs.lexer.gap_run.Given as goal

abbrev pub invariant-loop-i : goal.invariant-loop-i
invariant-loop-i g l = prefix_len g.G.LexicalGrammar.gap l.bytes ≡ l.i + prefix_len g.G.LexicalGrammar.gap (drop l.i l.bytes)
