use Rattle.std.proofs.Common.{◌≡◌, refl, sym, arith}
use Rattle.iter_gen.proofs.BehindLemmas.{straight-others, straight-woven, straight-next}
use Rattle.iter_gen.proofs.walking.stop_behind.Goals as goal

pub returns-then-link_count-eq0 : goal.returns-then-link_count-eq0
returns-then-link_count-eq0 c = record {
  behind = let w = c.requires.within in omega (arith, w, c.len.ensures.value);
  within = omega (arith, c.len.ensures.value);
  straight = straight-woven _ _ _ _ _ c.in-Woven.is (let z : c.link_count.result ≡ 0 = c.if-link_count-eq0.true in omega (arith, z, c.link_count.ensures.value))
      (let w = c.requires.within in omega (arith, w, c.len.ensures.value)) (sym c.len.ensures.value);
}

pub returns-else-link_count-eq0 : goal.returns-else-link_count-eq0
returns-else-link_count-eq0 c = record {
  behind = omega arith;
  within = let w = c.requires.within in omega (arith, w);
  straight = straight-next _ _ _ _ _ c.requires.links c.requires.within refl;
}

pub returns-in_default : goal.returns-in_default
returns-in_default c = record {
  behind = let w = c.requires.within in omega (arith, w, c.len-in_default.ensures.value);
  within = omega (arith, c.len-in_default.ensures.value);
  straight = straight-others _ _ _ _ _ c.in_default.not-Woven (let w = c.requires.within in omega (arith, w, c.len-in_default.ensures.value))
      (sym c.len-in_default.ensures.value);
}
