-- The lines that say why a run has no report.
use Rattle.std.specs.Prelude.{ℕ, List, [], ◌∷◌, codes}
use Rattle.std.specs.Fmt.{decimal}
use Rattle.dt_model.specs.Texts.{text_of}
use Rattle.tns_io.specs.declared.faults.FileCause.{FileCause}
use Rattle.tns_io.specs.declared.faults.FileCause.TheVariants as because
use Rattle.schema_check.specs.declared.breaches.Breach.{Breach}
use Rattle.dyntensor.specs.declared.faults.Cause.{Cause}
use Rattle.dyntensor.specs.declared.faults.Cause.TheVariants as the
use Rattle.dyntensor.specs.declared.faults.Fault.{Fault}

-- the words of a line's cause
abbrev pub cause_words : FileCause → List (List ℕ)
cause_words because.Rank = codes "rank" ∷ []
cause_words because.Form = codes "form" ∷ []
cause_words because.Range = codes "range" ∷ []
cause_words because.NotWhole = codes "whole" ∷ []
cause_words because.TooLarge = codes "number" ∷ []
cause_words because.Limit = codes "limit" ∷ []
cause_words because.Order = codes "order" ∷ []
cause_words because.Name = codes "name" ∷ []
cause_words because.Twice = codes "twice" ∷ []
cause_words because.NotBuilt = codes "not" ∷ codes "built" ∷ []

-- the words of a broken rule: its number, and the kind that is named for it
abbrev pub breach_words : Breach → List (List ℕ)
breach_words b = codes "breach" ∷ decimal b.rule ∷ b.kind ∷ []

-- the words of a fault's cause, also in a schema file and of a schema
abbrev pub fault_words : Cause → List (List ℕ)
fault_words (the.Line cause) = cause_words cause
fault_words (the.FormAt column) = codes "form" ∷ decimal column ∷ []
fault_words (the.LimitAt column) = codes "limit" ∷ decimal column ∷ []
fault_words (the.Breach b) = breach_words b

-- the line `refused FILE LINE CAUSE`
abbrev pub refused_text : Fault → List ℕ
refused_text fault = text_of ((codes "refused" ∷ fault.file ∷ decimal fault.line ∷ fault_words fault.cause) ∷ [])

-- the line `shelf FILE`
abbrev pub shelf_text : List ℕ → List ℕ
shelf_text file = text_of ((codes "shelf" ∷ file ∷ []) ∷ [])
