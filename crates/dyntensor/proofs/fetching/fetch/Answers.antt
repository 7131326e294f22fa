use Rattle.std.proofs.Common.{subst}
use Rattle.std.specs.Prelude.{IfSome, ◌≡◌}
use Rattle.dyntensor.proofs.ReadingsLemmas.{fetched}
use Rattle.dyntensor.proofs.fetching.fetch.Goals as goal

pub returns-in-Ok-clause-text : goal.returns-in-Ok-clause-text
returns-in-Ok-clause-text g c =
    fetched (g.S.Shelf.state c.args.shelf.now).files c.args.file.now c.fetch.new.into.items c.in-Ok.ensures.answer.short
    (subst (λ name. IfSome (g.S.Shelf.state c.args.shelf.now).files (λ f. c.fetch.new.into.items ≡ f name)) c.text.ensures.value c.in-Ok.ensures.answer.bytes)
