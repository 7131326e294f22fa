use Rattle.std.proofs.Common.{rules, ◌≡◌, [], ◌∷◌, ◌++◌, length, ap, sym, ◌∙◌, subst, None, Ok, arith}
use Rattle.std.specs.Prelude.{All}
use Rattle.std.proofs.lemmas.List.Elements.{All-push}
use Rattle.script_read.specs.declared.items.Item.TheVariants.{Session}
use Rattle.dyntensor.specs.declared.drafts.Draft.{Draft}
use Rattle.dyntensor.specs.Drafts.{AreTexts, IsShort}
use Rattle.dyntensor.specs.Readings.{HoldsOf}
use Rattle.dyntensor.specs.Workload.{text_in}
use Rattle.dyntensor.proofs.DraftLemmas.{AreTexts-push}
use Rattle.dyntensor.proofs.ReadingsLemmas.{HoldsOf-at, IsQuiet-trans}
use Rattle.dyntensor.proofs.drafts.fetch_drafts.Goals as goal

pub loop-item-preserved : goal.loop-item-preserved
loop-item-preserved g c =
    let old = g.S.Shelf.state c.args.shelf.now in
    let mid = g.S.Shelf.state c.loop-item.shelf in
    let items = c.args.items.now in
    let rest = c.loop-item.rest.now in
    let item = c.in-Some.item.now in
    let more = c.in-Some.more.now in
    let drafts = c.loop-item.drafts.items in
    let draft : Draft = record { file = c.copy-file.result; text = c.in-Ok.text; read = None } in
    let first : rest ≡ (item.0, Session draft.file) ∷ more =
    c.in-Some.ensures.cases.0 ∙ ap (λ i. (item.0, i) ∷ more) (c.in-Session.is ∙ ap Session (sym c.copy-file.ensures.value)) in
    let text : HoldsOf old.files (λ files. text_in files draft.file ≡ Ok draft.text.items) =
    subst (λ file. HoldsOf old.files (λ files. text_in files file ≡ Ok draft.text.items)) (sym c.copy-file.ensures.value)
    (HoldsOf-at mid.files old.files c.loop-item.invariant.quiet.files (λ files. text_in files c.in-Session.file ≡ Ok draft.text.items)
    c.in-Ok.ensures.text) in
    let grew : c.push.new.self.items ≡ drafts ++ draft ∷ [] = c.in_ok-push.ensures.items in
    record {
      quiet = IsQuiet-trans old mid (g.S.Shelf.state c.fetch.new.shelf) c.loop-item.invariant.quiet c.in-Ok.ensures.quiet;
      texts = subst (λ ds. AreTexts old.files items ds more) (sym grew)
          (AreTexts-push old.files items drafts draft item.0 rest more c.loop-item.invariant.texts first text);
      short = subst (All IsShort) (sym grew) (All-push IsShort drafts draft c.loop-item.invariant.short c.in-Ok.ensures.short);
      held = let low = c.if-held-gt-FILE_LIMIT.false in
          let short = c.in-Ok.ensures.short in
          let count : c.len.result ≡ length c.in-Ok.text.items = search rules in omega arith;
    }
