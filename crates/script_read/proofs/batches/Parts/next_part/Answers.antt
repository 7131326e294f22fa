use Rattle.std.proofs.Common.{◌≡◌, ◌+◌, ◌∷◌, [], drop, take, ap, sym, ◌∙◌, subst, arith}
use Rattle.std.specs.Prelude.{if◌then◌else◌}
use Rattle.std.proofs.lemmas.List.{take_rest}
use Rattle.script_read.specs.Batches.{parts_of}
use Rattle.script_read.proofs.BatchesLemmas.{parts_of-at, parts_of-last}
use Rattle.script_read.proofs.batches.Parts.next_part.Goals as goal
use Rattle.script_read.proofs.batches.Parts.next_part.Goals.{then-end-self, else-end-self}

pub returns-clause-steps : goal.returns-clause-steps
returns-clause-steps c =
    let before = c.self.inside.before in
    let rest = c.self.inside.rest.now in
    let e = c.part_end-end.result in
    let found = c.part_end-end.ensures in
    let shown : parts_of before rest ≡ c.args.self.now =
    subst (λ b. (if b then [] else parts_of before rest) ≡ c.args.self.now) c.if-self.false c.self.view_is in
    elim c.if-end-self.branch [
      | then-end-self w ↦
          let same : before + e + 1 ≡ before + (e + 1) = omega arith in
          rw (w.self-is, c.if-self.false) (sym shown ∙ parts_of-at before rest e w.if-end-self.true (found.at w.if-end-self.true) found.before
          ∙ ap (λ n. (before, take e rest) ∷ parts_of n (drop (e + 1) rest)) same
          ∙ ap (λ r. (before, take e rest) ∷ parts_of (before + (e + 1)) r) (sym (take_rest rest (e + 1))))
      | else-end-self w ↦ rw w.self-is (sym shown ∙ parts_of-last before rest e w.if-end-self.false found.before)
    ]
