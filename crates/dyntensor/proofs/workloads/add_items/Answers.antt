use Rattle.std.proofs.Common.{◌≡◌, ℕ, List, ◌∷◌, ◌-◌, length, take, drop, refl, ap, sym, ◌∙◌, subst, Option, Ok, arith}
use Rattle.std.proofs.lemmas.List.{length-drop, take_all}
use Rattle.std.proofs.lemmas.Result.{err_from_is_err_and}
use Rattle.script_read.specs.declared.items.Item.{Item}
use Rattle.script_read.specs.Manifests.{nothing as nothing_declared}
use Rattle.dyntensor.specs.Adding.{IsAdded}
use Rattle.dyntensor.specs.Workload.{Files, Gathered, nothing, with_item}
use Rattle.dyntensor.proofs.AddingLemmas.{IsAdded-none, IsAdded-one, IsAdded-then, IsItemsStop-one, IsItemsStop-then, IsStop-items}
use Rattle.dyntensor.proofs.GatheringLemmas.{IsGatheredFrom-nothing}
use Rattle.dyntensor.proofs.ReadingsLemmas.{HoldsOf-at, IsQuiet-trans}
use Rattle.dyntensor.proofs.workloads.add_items.Goals as goal

-- the items behind the first few
behind : (items : List (ℕ × Item)) (n : ℕ) → drop n items ≡ take (length items - n) (drop n items)
behind items n = sym (take_all (length items - n) (drop n items) (omega (arith, length-drop n items)))

-- what is added of the rest is added of all
added_more : (o p : Option Files) (manifest : List ℕ) (g new : Gathered) (items rest left : List (ℕ × Item)) → p ≡ o → IsAdded o manifest nothing items g rest
    → IsAdded p manifest g rest new left → IsAdded o manifest nothing items new left
added_more o p manifest g new items rest left same before here =
    IsAdded-then o manifest nothing g new items rest left before (subst (λ q. IsAdded q manifest g rest new left) same here)

-- nothing was added of the rest, which has a first item
added_none : (o p : Option Files) (manifest : List ℕ) (g new : Gathered) (items rest more : List (ℕ × Item)) (item : ℕ × Item) (n : ℕ) → p ≡ o
    → IsAdded o manifest nothing items g rest
    → IsAdded p manifest g rest new (drop n rest) → n ≡ 0 → rest ≡ item ∷ more → IsAdded o manifest nothing items new (item ∷ more)
added_none o p manifest g new items rest more item n same before here none first =
    subst (IsAdded o manifest nothing items new) (ap (λ k. drop k rest) none ∙ first) (added_more o p manifest g new items rest (drop n rest) same before here)

pub loop-item-init : goal.loop-item-init
loop-item-init g c =
    let o = (g.S.Shelf.state c.args.shelf.now).files in
    let items = c.args.items.now in
    let manifest = c.args.manifest.now in
    let none = IsAdded-none o manifest nothing items
    (record { declared = nothing_declared; gathered = IsGatheredFrom-nothing; sound = c.requires.sound }) in
    record {
      quiet = record { files = refl; faults = refl };
      added = subst (λ new. IsAdded o manifest nothing items new c.as_slice-rest.result.now) (sym c.in_ok-gathering.ensures.value)
          (subst (IsAdded o manifest nothing items nothing) (sym c.as_slice-rest.ensures.value) none);
    }

pub add_item-requires : goal.add_item-requires
add_item-requires g c =
    let o = (g.S.Shelf.state c.args.shelf.now).files in
    let p = (g.S.Shelf.state c.loop-item.shelf).files in
    let manifest = c.args.manifest.now in
    let can = (added_none o p manifest c.loop-item.gathering c.add_run.new.gathering c.args.items.now c.loop-item.rest.now c.in-Some.more.now c.in-Some.item.now
    c.in_ok-added.added c.loop-item.invariant.quiet.files c.loop-item.invariant.added (c.in_ok-added.ensures.added manifest) c.if-added-eq0.true
    c.in-Some.ensures.cases.0).can in
    record { may_follow = record { declared = can.declared; gathered = can.gathered; sound = can.sound.0 } }

pub returns-in_err-added-clause-stop : goal.returns-in_err-added-clause-stop
returns-in_err-added-clause-stop g c =
    let p = err_from_is_err_and c.from_residual-in_err-added.result c.from_residual-in_err-added.ensures.1 in
    let old = g.S.Shelf.state c.args.shelf.now in
    let mid = g.S.Shelf.state c.loop-item.shelf in
    let new = g.S.Shelf.state c.add_run.new.shelf in
    let manifest = c.args.manifest.now in
    let items = c.args.items.now in
    let stop = c.in_err-added.field-0.0 in
    rw (p.1, p.2) (IsStop-items old new manifest items stop c.requires.items
    (IsItemsStop-then old mid new manifest nothing c.loop-item.gathering items c.loop-item.rest.now stop c.loop-item.invariant.quiet
    c.loop-item.invariant.added (c.in_err-added.ensures.stop manifest)))

pub returns-in_err-add_item-clause-stop : goal.returns-in_err-add_item-clause-stop
returns-in_err-add_item-clause-stop g c =
    let p = err_from_is_err_and c.from_residual-in_err-add_item.result c.from_residual-in_err-add_item.ensures.1 in
    let old = g.S.Shelf.state c.args.shelf.now in
    let mid = g.S.Shelf.state c.loop-item.shelf in
    let late = g.S.Shelf.state c.add_run.new.shelf in
    let new = g.S.Shelf.state c.add_item.new.shelf in
    let manifest = c.args.manifest.now in
    let items = c.args.items.now in
    let here = c.add_run.new.gathering in
    let item = c.in-Some.item.now in
    let more = c.in-Some.more.now in
    let stop = c.in_err-add_item.field-0.0 in
    let added = added_none old.files mid.files manifest c.loop-item.gathering here items c.loop-item.rest.now more item c.in_ok-added.added
    c.loop-item.invariant.quiet.files c.loop-item.invariant.added (c.in_ok-added.ensures.added manifest) c.if-added-eq0.true c.in-Some.ensures.cases.0 in
    let quiet = IsQuiet-trans old mid late c.loop-item.invariant.quiet c.in_ok-added.ensures.quiet in
    rw (p.1, p.2) (IsStop-items old new manifest items stop c.requires.items
    (IsItemsStop-then old late new manifest nothing here items (item ∷ more) stop quiet added
    (IsItemsStop-one late new manifest here item more stop c.in_err-add_item.ensures.stop)))

pub loop-item-preserved-then-added-eq0 : goal.loop-item-preserved-then-added-eq0
loop-item-preserved-then-added-eq0 g c =
    let old = g.S.Shelf.state c.args.shelf.now in
    let mid = g.S.Shelf.state c.loop-item.shelf in
    let late = g.S.Shelf.state c.add_run.new.shelf in
    let manifest = c.args.manifest.now in
    let items = c.args.items.now in
    let here = c.add_run.new.gathering in
    let new = c.add_item.new.gathering in
    let item = c.in-Some.item.now in
    let more = c.in-Some.more.now in
    let added = added_none old.files mid.files manifest c.loop-item.gathering here items c.loop-item.rest.now more item c.in_ok-added.added
    c.loop-item.invariant.quiet.files c.loop-item.invariant.added (c.in_ok-added.ensures.added manifest) c.if-added-eq0.true c.in-Some.ensures.cases.0 in
    let quiet = IsQuiet-trans old mid late c.loop-item.invariant.quiet c.in_ok-added.ensures.quiet in
    let one = IsAdded-one old.files manifest here new item more added.can
    (HoldsOf-at late.files old.files quiet.files (λ files. with_item files manifest here item.0 item.1 ≡ Ok new) c.in_ok-add_item.ensures.item) in
    record {
      quiet = IsQuiet-trans old late (g.S.Shelf.state c.add_item.new.shelf) quiet c.in_ok-add_item.ensures.quiet;
      added = IsAdded-then old.files manifest nothing here new items (item ∷ more) more added one;
    }

pub loop-item-preserved : goal.loop-item-preserved
loop-item-preserved g c =
    let old = g.S.Shelf.state c.args.shelf.now in
    let mid = g.S.Shelf.state c.loop-item.shelf in
    let manifest = c.args.manifest.now in
    let items = c.args.items.now in
    let rest = c.loop-item.rest.now in
    let n = c.in_ok-added.added in
    record {
      quiet = IsQuiet-trans old mid (g.S.Shelf.state c.add_run.new.shelf) c.loop-item.invariant.quiet c.in_ok-added.ensures.quiet;
      added = subst (IsAdded old.files manifest nothing items c.add_run.new.gathering) (behind rest n)
          (added_more old.files mid.files manifest c.loop-item.gathering c.add_run.new.gathering items rest (drop n rest)
          c.loop-item.invariant.quiet.files c.loop-item.invariant.added (c.in_ok-added.ensures.added manifest));
    }
