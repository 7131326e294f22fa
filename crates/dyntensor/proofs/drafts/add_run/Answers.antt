use Rattle.std.proofs.Common.{rules, ◌≡◌, length, drop, get_or, ap, sym, ◌∙◌, subst, Some, arith}
use Rattle.std.proofs.lemmas.List.{with_items_is}
use Rattle.std.proofs.lemmas.Result.{err_from_is_err_and}
use Rattle.dyntensor.specs.Adding.{IsAdded}
use Rattle.dyntensor.specs.Drafts.{HasEnded, Reads}
use Rattle.dyntensor.specs.Workload.{decls_of}
use Rattle.dyntensor.proofs.AddingLemmas.{IsItemsStop-then}
use Rattle.dyntensor.proofs.DraftLemmas.{AreReadTexts-after, AreTexts-behind, AreTexts-count, CanAddDrafts-texts, IsAdded-drafts, IsItemsStop-drafts, IsItemsStop-fetch}
use Rattle.dyntensor.proofs.drafts.add_run.Goals as goal

pub add_drafts-requires-clause-can : goal.add_drafts-requires-clause-can
add_drafts-requires-clause-can g c =
    let o = (g.S.Shelf.state c.args.shelf.now).files in
    let fetched = c.in_ok-fetched.ensures.fetched in
    let d = decls_of c.args.gathering.now in
    let items = c.args.items.now in
    let olds = c.in_ok-fetched.fetched.drafts in
    let before = c.as_mut_slice.result.now in
    let after = c.read_drafts.new.drafts in
    let same : length after ≡ length before = c.read_drafts.auto.drafts in
    let news : c.from_vec.result.items ≡ after = c.from_vec.ensures.items ∙ with_items_is olds after (same ∙ c.as_mut_slice.ensures.len) in
    let all = AreReadTexts-after o d items olds.items before after c.from_vec.result.items fetched.behind c.as_mut_slice.ensures.value news same
    (λ k e l. subst (λ x. Reads x (get_or before k e) (get_or after k e)) c.decls.ensures.value (c.read_drafts.ensures.reads k e l)) fetched.texts
    fetched.short in
    CanAddDrafts-texts o c.args.gathering.now items c.from_vec.result.items fetched.behind all.texts c.requires.can

pub add_drafts-requires-clause-short : goal.add_drafts-requires-clause-short
add_drafts-requires-clause-short g c =
    let o = (g.S.Shelf.state c.args.shelf.now).files in
    let fetched = c.in_ok-fetched.ensures.fetched in
    let d = decls_of c.args.gathering.now in
    let items = c.args.items.now in
    let olds = c.in_ok-fetched.fetched.drafts in
    let before = c.as_mut_slice.result.now in
    let after = c.read_drafts.new.drafts in
    let same : length after ≡ length before = c.read_drafts.auto.drafts in
    let news : c.from_vec.result.items ≡ after = c.from_vec.ensures.items ∙ with_items_is olds after (same ∙ c.as_mut_slice.ensures.len) in
    let all = AreReadTexts-after o d items olds.items before after c.from_vec.result.items fetched.behind c.as_mut_slice.ensures.value news same
    (λ k e l. subst (λ x. Reads x (get_or before k e) (get_or after k e)) c.decls.ensures.value (c.read_drafts.ensures.reads k e l)) fetched.texts
    fetched.short in
    all.short

pub add_drafts-requires-clause-read : goal.add_drafts-requires-clause-read
add_drafts-requires-clause-read g c =
    let o = (g.S.Shelf.state c.args.shelf.now).files in
    let fetched = c.in_ok-fetched.ensures.fetched in
    let d = decls_of c.args.gathering.now in
    let items = c.args.items.now in
    let olds = c.in_ok-fetched.fetched.drafts in
    let before = c.as_mut_slice.result.now in
    let after = c.read_drafts.new.drafts in
    let same : length after ≡ length before = c.read_drafts.auto.drafts in
    let news : c.from_vec.result.items ≡ after = c.from_vec.ensures.items ∙ with_items_is olds after (same ∙ c.as_mut_slice.ensures.len) in
    let all = AreReadTexts-after o d items olds.items before after c.from_vec.result.items fetched.behind c.as_mut_slice.ensures.value news same
    (λ k e l. subst (λ x. Reads x (get_or before k e) (get_or after k e)) c.decls.ensures.value (c.read_drafts.ensures.reads k e l)) fetched.texts
    fetched.short in
    all.read

pub returns-in_err-add_drafts-clause-stop : goal.returns-in_err-add_drafts-clause-stop
returns-in_err-add_drafts-clause-stop g c =
    let o = (g.S.Shelf.state c.args.shelf.now).files in
    let fetched = c.in_ok-fetched.ensures.fetched in
    let d = decls_of c.args.gathering.now in
    let items = c.args.items.now in
    let olds = c.in_ok-fetched.fetched.drafts in
    let before = c.as_mut_slice.result.now in
    let after = c.read_drafts.new.drafts in
    let same : length after ≡ length before = c.read_drafts.auto.drafts in
    let news : c.from_vec.result.items ≡ after = c.from_vec.ensures.items ∙ with_items_is olds after (same ∙ c.as_mut_slice.ensures.len) in
    let all = AreReadTexts-after o d items olds.items before after c.from_vec.result.items fetched.behind c.as_mut_slice.ensures.value news same
    (λ k e l. subst (λ x. Reads x (get_or before k e) (get_or after k e)) c.decls.ensures.value (c.read_drafts.ensures.reads k e l)) fetched.texts
    fetched.short in
    let p = err_from_is_err_and c.from_residual-in_err-add_drafts.result c.from_residual-in_err-add_drafts.ensures.1 in
    rw (p.1, p.2) (λ manifest. IsItemsStop-drafts (g.S.Shelf.state c.args.shelf.now) (g.S.Shelf.state c.fetch_drafts.new.shelf) manifest
    c.args.gathering.now items c.from_vec.result.items fetched.behind c.in_err-add_drafts.field-0.0 all.texts c.in_err-add_drafts.ensures.stop)

pub returns-in-None-clause-within : goal.returns-in-None-clause-within
returns-in-None-clause-within g c =
    let o = (g.S.Shelf.state c.args.shelf.now).files in
    let fetched = c.in_ok-fetched.ensures.fetched in
    let olds = c.in_ok-fetched.fetched.drafts.items in
    let count : c.len-count.result ≡ length olds = search rules in
    let few = AreTexts-count o c.args.items.now olds fetched.behind fetched.texts in
    omega arith

pub returns-in-None-clause-added : goal.returns-in-None-clause-added
returns-in-None-clause-added g c =
    let o = (g.S.Shelf.state c.args.shelf.now).files in
    let fetched = c.in_ok-fetched.ensures.fetched in
    let d = decls_of c.args.gathering.now in
    let items = c.args.items.now in
    let olds = c.in_ok-fetched.fetched.drafts in
    let before = c.as_mut_slice.result.now in
    let after = c.read_drafts.new.drafts in
    let same : length after ≡ length before = c.read_drafts.auto.drafts in
    let news : c.from_vec.result.items ≡ after = c.from_vec.ensures.items ∙ with_items_is olds after (same ∙ c.as_mut_slice.ensures.len) in
    let all = AreReadTexts-after o d items olds.items before after c.from_vec.result.items fetched.behind c.as_mut_slice.ensures.value news same
    (λ k e l. subst (λ x. Reads x (get_or before k e) (get_or after k e)) c.decls.ensures.value (c.read_drafts.ensures.reads k e l)) fetched.texts
    fetched.short in
    let count : c.len-count.result ≡ length olds.items = search rules in
    let left : drop c.len-count.result items ≡ fetched.behind =
    ap (λ n. drop n items) count ∙ AreTexts-behind o items olds.items fetched.behind fetched.texts in
    λ manifest. subst (IsAdded o manifest c.args.gathering.now items c.add_drafts.new.gathering) (sym left)
    (IsAdded-drafts o manifest c.args.gathering.now c.add_drafts.new.gathering items c.from_vec.result.items fetched.behind all.texts c.requires.can
    c.in_ok-add_drafts.ensures.scripts)

pub returns-in-Some-clause-stop : goal.returns-in-Some-clause-stop
returns-in-Some-clause-stop g c =
    let o = (g.S.Shelf.state c.args.shelf.now).files in
    let fetched = c.in_ok-fetched.ensures.fetched in
    let d = decls_of c.args.gathering.now in
    let items = c.args.items.now in
    let olds = c.in_ok-fetched.fetched.drafts in
    let before = c.as_mut_slice.result.now in
    let after = c.read_drafts.new.drafts in
    let same : length after ≡ length before = c.read_drafts.auto.drafts in
    let news : c.from_vec.result.items ≡ after = c.from_vec.ensures.items ∙ with_items_is olds after (same ∙ c.as_mut_slice.ensures.len) in
    let all = AreReadTexts-after o d items olds.items before after c.from_vec.result.items fetched.behind c.as_mut_slice.ensures.value news same
    (λ k e l. subst (λ x. Reads x (get_or before k e) (get_or after k e)) c.decls.ensures.value (c.read_drafts.ensures.reads k e l)) fetched.texts
    fetched.short in
    let old = g.S.Shelf.state c.args.shelf.now in
    let new = g.S.Shelf.state c.fetch_drafts.new.shelf in
    let here = c.args.gathering.now in
    let late = c.add_drafts.new.gathering in
    let ended : HasEnded old new fetched.behind (Some c.in-Some.stop) = subst (HasEnded old new fetched.behind) c.in-Some.is fetched.ended in
    λ manifest. IsItemsStop-then old ended.0 new manifest here late items fetched.behind c.in-Some.stop ended.1
    (IsAdded-drafts o manifest here late items c.from_vec.result.items fetched.behind all.texts c.requires.can c.in_ok-add_drafts.ensures.scripts)
    (IsItemsStop-fetch ended.0 new manifest late fetched.behind c.in-Some.stop ended.2)
