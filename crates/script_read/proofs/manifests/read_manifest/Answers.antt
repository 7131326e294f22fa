use Rattle.std.proofs.Common.{◌≡◌, ◌++◌, ◌∷◌, [], sym, ap, ◌∙◌, true, subst, arith}
use Rattle.script_read.specs.Manifests.{declared_with, declared_by, is_within_limits, numbered_item}
use Rattle.script_read.specs.Readings.{each_after}
use Rattle.script_read.proofs.ManifestsLemmas.{declared_by-push, items-push, AreSound-manifest_of}
use Rattle.script_read.proofs.manifests.read_manifest.Goals as goal

pub loop-line-preserved : goal.loop-line-preserved
loop-line-preserved c =
    let old = c.loop-line in
    let n = c.in-Some.line.number in
    let item = c.in_ok-item.item in
    let grew : c.push.new.self ≡ old.manifest ++ (n, item) ∷ [] = grind arith in
    let added : c.add.new.self ≡ declared_with old.declared item = grind arith in
    record {
      left = items-push old.manifest c.push.new.self old.declared n c.in-Some.line.line.now old.lines c.next.new.self item _ old.invariant.left
          c.in-Some.ensures.steps old.invariant.declared c.in_ok-item.ensures.reads grew;
      declared = added ∙ ap (λ d. declared_with d item) old.invariant.declared ∙ sym (declared_by-push old.manifest (n, item)) ∙ ap declared_by (sym grew);
      limits = subst (λ d. is_within_limits d ≡ true) (sym added) c.in_ok-item.ensures.limits;
    }

pub returns-clause-sound : goal.returns-clause-sound
returns-clause-sound c = AreSound-manifest_of c.args.text.now c.loop-line.manifest
    (sym (ap (each_after numbered_item c.loop-line.manifest) (sym c.in_default.ensures.steps.0) ∙ c.loop-line.invariant.left))
