use Rattle.std.proofs.Common.{◌≡◌, ◌+◌, drop}
use Rattle.schema_read.specs.Tokens.{comment_run}
use Rattle.schema_read.proofs.lexer.comment_run.Given as goal

abbrev pub invariant-loop-i : goal.invariant-loop-i
invariant-loop-i l = comment_run l.bytes ≡ l.i + comment_run (drop l.i l.bytes)
