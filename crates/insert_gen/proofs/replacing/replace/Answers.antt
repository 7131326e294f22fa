use Rattle.std.proofs.Common.{sym, subst}
use Rattle.node_arena.specs.Kinds.{kinds_of, root_of}
use Rattle.node_arena.specs.Structures.{IsStanding}
use Rattle.iter_gen.specs.LookingUp.{IsSpotWith}
use Rattle.insert_gen.proofs.ReplaceLemmas.{IsReplacedIn-found}
use Rattle.insert_gen.proofs.replacing.replace.Goals as goal

pub returns-clause-walk : goal.returns-clause-walk
returns-clause-walk g c = λ t h.
    let q = c.requires.tree in
    let s = kinds_of c.args.code.now in
    let a = c.args.arena.now in
    let same = c.kinds.ensures.value in
    let read = c.in-Some.ensures.found q.0 (subst (λ v. IsStanding v a c.args.top.now q.0) (sym same) q.1) in
    let found = subst (λ v. IsSpotWith v a c.args.elem.at q.0 c.in-Some.spot) same read in
    IsReplacedIn-found s (root_of c.args.code.now) a c.replace_at.new.arena c.args.elem c.args.top.now t q.0 c.in-Some.spot h q.1 q.2 found
    c.replace_at.ensures.replaces
