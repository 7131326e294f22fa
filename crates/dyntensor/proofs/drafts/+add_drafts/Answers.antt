use Rattle.std.proofs.Common.{◌≡◌, ◌∷◌, suc, length, ap, sym, subst, arith}
use Rattle.std.specs.Prelude.{All}
use Rattle.dyntensor.specs.Drafts.{CanAddDrafts, IsRead, IsShort}
use Rattle.dyntensor.specs.Workload.{decls_of}
use Rattle.dyntensor.proofs.DraftLemmas.{All-rest, CanAddDrafts-rest, decls_of-text}
use Rattle.dyntensor.proofs.drafts.+add_drafts.Goals as goal

pub add_drafts-requires : goal.add_drafts-requires
add_drafts-requires t c =
    let g = c.args.gathering.now in
    let new = c.add_draft.new.gathering in
    let draft = c.in-Some.draft in
    let rest = c.pop_front.new.self.items in
    let all : c.args.drafts.items ≡ draft ∷ rest = c.in-Some.ensures.items in
    let more : length c.args.drafts.items ≡ suc (length rest) = ap length all in
    let added = c.in_ok-add_draft.ensures.script in
    let can = CanAddDrafts-rest g new draft rest (subst (CanAddDrafts g) all c.requires.can) added in
    let short = All-rest IsShort draft rest (subst (All IsShort) all c.requires.short) in
    let read = All-rest (IsRead (decls_of g)) draft rest (subst (All (IsRead (decls_of g))) all c.requires.read) in
    let same = decls_of-text g new draft.file draft.text.items added in
    (omega arith, (can, (short, subst (λ d. All (IsRead d) rest) (sym same) read)))
