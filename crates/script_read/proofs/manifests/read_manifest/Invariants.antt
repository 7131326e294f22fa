use Rattle.std.proofs.Common.{◌≡◌, true, length}
use Rattle.script_read.specs.Readings.{each_after}
use Rattle.script_read.specs.Manifests.{numbered_item, declared_by, is_within_limits, manifest_of}
use Rattle.script_read.proofs.manifests.read_manifest.Given as goal

abbrev pub invariant-loop-line : goal.invariant-loop-line
invariant-loop-line l = record {
  left : each_after numbered_item l.manifest l.lines ≡ manifest_of l.fn.text;
  declared : l.declared ≡ declared_by l.manifest;
  limits : is_within_limits l.declared ≡ true;
}

abbrev pub decreases-loop-line : goal.decreases-loop-line
decreases-loop-line l = length l.lines
