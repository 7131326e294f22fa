-- The verdicts on the lines of a script, or the script's first fault.
use Rattle.std.specs.Prelude.{ℕ, ◌-◌, List, [], length, sum_by, Result, Ok, Err, ◌&&◌, nat_lt, nat_le}
use Rattle.dt_model.specs.declared.declared_tensors.Decls.{Decls}
use Rattle.dt_model.specs.declared.limits.TheConstants.{MOST_CALLS}
use Rattle.dt_model.specs.declared.replies.Refusal.{Refusal}
use Rattle.dt_model.specs.declared.replies.Verdict.{Verdict}
use Rattle.dt_model.specs.declared.replies.Verdict.TheVariants.{Refused}
use Rattle.dt_model.specs.declared.written.WrittenCall.{WrittenCall}
use Rattle.dt_model.specs.Verdicts.{verdict}
use Rattle.dt_model.specs.Worlds.{updates_in}
use Rattle.dt_text.specs.Content.{content_lines, is_within_limit}
use Rattle.tns_io.specs.declared.faults.FileCause.{FileCause}
use Rattle.tns_io.specs.declared.faults.FileCause.TheVariants as because
use Rattle.tns_io.specs.declared.faults.FileFault.{FileFault}
use Rattle.script_read.specs.Readings.{◌>>=◌, check, at_line, each_after}
use Rattle.script_read.specs.Calls.{written_call}

-- the verdict on what a line writes: that on its call, or that its form is refused
abbrev pub verdict_on : Decls → Result WrittenCall Refusal → Verdict
verdict_on d (Ok call) = verdict d call
verdict_on d (Err r) = Refused r

-- the verdict on a line
abbrev pub line_verdict : Decls → List ℕ → Verdict
line_verdict d line = verdict_on d (written_call line)

-- the verdict on a line behind so many lines, where so many updates more may be accepted; or the script's fault there
abbrev pub verdict_behind : Decls → ℕ → ℕ → List ℕ → Result Verdict FileCause
verdict_behind d calls left line =
    check (is_within_limit line && nat_lt calls MOST_CALLS) because.Limit >>= (λ _.
    check (nat_le (updates_in (line_verdict d line)) left) because.Limit >>= (λ _.
    Ok (line_verdict d line)))

-- the same of a numbered line behind verdicts, where at most so many updates may be accepted in all
abbrev pub numbered_verdict : Decls → ℕ → List Verdict → ℕ × List ℕ → Result Verdict FileFault
numbered_verdict d most before line = at_line line.0 (verdict_behind d (length before) (most - sum_by updates_in before) line.1)

-- the verdicts on a script's lines, of which at most so many updates may be accepted; or its first fault
abbrev pub script_of : Decls → ℕ → List ℕ → Result (List Verdict) FileFault
script_of d most text = each_after (numbered_verdict d most) [] (content_lines text)
