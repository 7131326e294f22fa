use Rattle.std.proofs.Common.{rules, ◌≡◌, ◌≤◌, ℕ, true, List, length, Ok, Some, ap, sym, subst, ◌∙◌}
use Rattle.std.specs.Prelude.{sum_by}
use Rattle.dt_model.specs.declared.limits.TheConstants.{MOST_LINES}
use Rattle.dt_model.specs.declared.replies.Verdict.{Verdict}
use Rattle.dt_model.specs.Worlds.{updates_in}
use Rattle.script_read.specs.Scripts.{script_of}
use Rattle.script_read.proofs.ReadingsLemmas.{IfSome-at}
use Rattle.dyntensor.specs.Gathering.{has_room}
use Rattle.dyntensor.specs.Workload.{Gathered, decls_of, with_script}
use Rattle.dyntensor.specs.declared.drafts.Draft.{Draft}
use Rattle.dyntensor.specs.Drafts.{IsRead}
use Rattle.dyntensor.proofs.ScriptsRead.{script_of-few, with_text-read}
use Rattle.dyntensor.proofs.drafts.add_draft.Goals as goal

-- the script of a draft was read of its text
read_so : (g : Gathered) (draft : Draft) (script : List Verdict) → IsRead (decls_of g) draft → draft.read ≡ Some script
    → (most : ℕ) × (most ≤ MOST_LINES) × (script_of (decls_of g) most draft.text.items ≡ Ok script)
read_so g draft script h e =
    IfSome-at (λ (s : List Verdict). (most : ℕ) × (most ≤ MOST_LINES) × (script_of (decls_of g) most draft.text.items ≡ Ok s)) draft.read script h e

pub has_room-requires-clause-script : goal.has_room-requires-clause-script
has_room-requires-clause-script c =
    subst (λ (vs : List Verdict). sum_by updates_in vs ≤ MOST_LINES) (sym c.as_slice-2.ensures.value)
    (script_of-few (decls_of c.args.gathering.now) c.args.draft.text.items c.in-Some.script
    (read_so c.args.gathering.now c.args.draft c.in-Some.script c.requires.read c.in-Some.is))

pub returns-clause-script : goal.returns-clause-script
returns-clause-script c =
    let g = c.args.gathering.now in
    let text = c.args.draft.text.items in
    let script = c.in-Some.script in
    let bytes : c.len.result ≡ length text = search rules in
    let again : c.len-2.result ≡ length text = search rules in
    let fits : has_room g (length text) script ≡ true =
    subst (λ n. has_room g n script ≡ true) bytes (subst (λ (vs : List Verdict). has_room g c.len.result vs ≡ true) c.as_slice-2.ensures.value
    (sym c.has_room.ensures.value ∙ search rules)) in
    with_text-read g c.args.draft.file text script (read_so g c.args.draft script c.requires.read c.in-Some.is) fits
    ∙ ap (λ n. Ok (with_script g n script)) (sym again) ∙ ap Ok (sym c.in_ok-add_script.ensures.ok)
