use Rattle.std.proofs.Common.{arith}
use Rattle.iter_gen.proofs.ReadingLemmas.{reads-flat, reads-post, reads-post-end, reads-ends, reads-ends-end, reads-woven}
use Rattle.iter_gen.proofs.walking.link_before.Goals as goal

pub returns-in-Flat : goal.returns-in-Flat
returns-in-Flat c = record { value = reads-flat c.args.shape c.args.place c.args.node.now c.requires.links c.in-Flat.is c.requires.within }

pub returns-then-place-len : goal.returns-then-place-len
returns-then-place-len c = record {
  value = reads-post c.args.shape c.args.place c.args.node.now c.requires.links _ c.in-Post.is
      (let l = c.if-place-len.true in omega (arith, l, c.len.ensures.value));
}

pub returns-else-place-len : goal.returns-else-place-len
returns-else-place-len c = record {
  value = reads-post-end c.args.shape c.args.place c.args.node.now c.requires.links _ _ c.in-Post.is
      (let l = c.if-place-len.false in let w = c.requires.within in omega (arith, l, w, c.len.ensures.value)) c.link.ensures.value;
}

pub returns-then-place-len-2 : goal.returns-then-place-len-2
returns-then-place-len-2 c = record {
  value = reads-ends c.args.shape c.args.place c.args.node.now c.requires.links _ _ c.in-Ends.is c.if-place-eq0.false
      (let l = c.if-place-len-2.true in omega (arith, l, c.len-else-place-eq0.ensures.value));
}

pub returns-else-place-len-2 : goal.returns-else-place-len-2
returns-else-place-len-2 c = record {
  value = reads-ends-end c.args.shape c.args.place c.args.node.now c.requires.links _ _ _ c.in-Ends.is c.if-place-eq0.false
      (let l = c.if-place-len-2.false in let w = c.requires.within in omega (arith, l, w, c.len-else-place-eq0.ensures.value))
      c.link-else-place-len-2.ensures.value;
}

pub returns-in-Woven : goal.returns-in-Woven
returns-in-Woven c = record {
  value = reads-woven c.args.shape c.args.place c.args.node.now c.requires.links _ c.in-Woven.is c.requires.within c.link-in-Woven.ensures.value;
}
