-- The verbs of a script's lines.
use Rattle.std.specs.Prelude.{ℕ, List, Option, Some, None, if◌then◌else◌, codes}
use Rattle.script_read.specs.Readings.{equals_text}
use Rattle.script_read.specs.declared.verbs.Verb.{Verb}
use Rattle.script_read.specs.declared.verbs.Verb.TheVariants as verb

-- the verb that a word is
abbrev pub verb_of : List ℕ → Option Verb
verb_of word =
    if equals_text (codes "set") word then Some verb.Set
    else (if equals_text (codes "add") word then Some verb.Add
    else (if equals_text (codes "get") word then Some verb.Get
    else (if equals_text (codes "batch") word then Some verb.Batch
    else (if equals_text (codes "query") word then Some verb.Query else None))))
