use Rattle.std.proofs.Common.{refl, rules, ◌≡◌, Some, ◌∙◌, sym, ap, subst, arith}
use Rattle.node_arena.specs.Kinds.{kinds_of, root_of}
use Rattle.node_arena.specs.Structures.{walk_of}
use Rattle.node_arena.proofs.StructuresLemmas.{tree_unique}
use Rattle.btree_nodes.specs.Writes.{height_of}
use Rattle.iter_gen.specs.LookingUp.{elem_with}
use Rattle.nested_modes.specs.Putting.{IsSetIn}
use Rattle.nested_modes.proofs.SetsLemmas.{found-at, elem-same, Lacks-none, IsSetIn-put, IsSetIn-replaced, IsSetIn-same}
use Rattle.nested_modes.proofs.SpendsLemmas.{LeavesRoom-replaced, LeavesRoom-same, Spends-replaced}
use Rattle.nested_modes.proofs.RoomLemmas.{room-put}
use Rattle.nested_modes.proofs.PathLemmas.{some-top}
use Rattle.nested_modes.proofs.putting.set.Goals as goal

pub insert-requires-clause-tree : goal.insert-requires-clause-tree
insert-requires-clause-tree g c =
    let q = c.requires.structure in
    (q.0, q.1.stands, q.1.conforms, Lacks-none c.args.elem.now.at (walk_of (kinds_of c.args.code.now) q.0) (sym q.2 ∙ c.in-None.is))

pub returns-in-None-clause-set : goal.returns-in-None-clause-set
returns-in-None-clause-set g c = λ t h.
    let q = c.requires.structure in
    let s = kinds_of c.args.code.now in
    let k = root_of c.args.code.now in
    let a = c.args.arena.now in
    let b = c.insert.new.arena in
    let x = c.args.elem.now in
    let lacks = Lacks-none x.at (walk_of s q.0) (sym q.2 ∙ c.in-None.is) in
    subst (λ u. IsSetIn s k a b x u c.insert.result) (sym (tree_unique s a c.args.top.now t q.0 h q.1.stands))
    (IsSetIn-put s k a b x q.0 c.args.top.now c.insert.result lacks (c.insert.ensures.walk q.0 q.1.stands))

pub returns-in-None-clause-spent : goal.returns-in-None-clause-spent
returns-in-None-clause-spent g c =
    let q = c.requires.structure in
    let e = c.insert.ensures in
    let s = kinds_of c.args.code.now in
    let k = root_of c.args.code.now in
    let a = c.args.arena.now in
    let b = c.insert.new.arena in
    let x = c.args.elem.now in
    let st = c.args.top.now in
    let now = c.insert.result in
    let p = e.walk q.0 q.1.stands in
    let f = IsSetIn-put s k a b x q.0 st now (Lacks-none x.at (walk_of s q.0) (sym q.2 ∙ c.in-None.is)) p in
    let some = some-top s b now f.tree f.sets.before f.sets.after x f.stands f.sets.new_is in
    record {
      few = e.few;
      woven = λ w. let r = e.woven w q.0 q.1.stands in record { height = height_of (kinds_of c.args.code.now) q.0; low = r.low; differ = r.differ };
      len = omega (arith, e.len);
      spine = e.spine.one;
      nodes = λ n w. (e.spare n w).0;
      runs = λ n w. (e.spare n w).1;
      room = e.room;
      room_now = λ n h. room-put s k a b st now q.0 p.tree n q.1.stands q.1.conforms p.stands p.conforms some p.only e.room e.left h;
      spare_room = e.spare_room;
      most = e.most;
    }

pub returns-then-eq-clause-set : goal.returns-then-eq-clause-set
returns-then-eq-clause-set g c = λ t h.
    let q = c.requires.structure in
    let s = kinds_of c.args.code.now in
    let k = root_of c.args.code.now in
    let a = c.args.arena.now in
    let x = c.args.elem.now in
    let held : c.in-Some.old.held ≡ x.held = search (rules, c.if-eq.ensures, c.if-eq.true, c.eq.ensures) in
    let found : elem_with x.at (walk_of s q.0) ≡ Some c.in-Some.old = sym q.2 ∙ c.in-Some.is in
    let same : c.in-Some.old ≡ x = elem-same c.in-Some.old x (found-at x.at (walk_of s q.0) c.in-Some.old found) held in
    subst (λ u. IsSetIn s k a a x u c.args.top.now) (sym (tree_unique s a c.args.top.now t q.0 h q.1.stands))
    (IsSetIn-same s k a x q.0 c.args.top.now q.1.stands q.1.conforms (found ∙ ap (λ e. Some e) same))

pub returns-else-eq-clause-set : goal.returns-else-eq-clause-set
returns-else-eq-clause-set g c = λ t h.
    let q = c.requires.structure in
    let s = kinds_of c.args.code.now in
    let k = root_of c.args.code.now in
    let a = c.args.arena.now in
    let b = c.replace.new.arena in
    let x = c.args.elem.now in
    subst (λ u. IsSetIn s k a b x u c.replace.result) (sym (tree_unique s a c.args.top.now t q.0 h q.1.stands))
    (IsSetIn-replaced s k a b x q.0 c.args.top.now c.replace.result q.1.conforms (c.replace.ensures.walk q.0 q.1.stands))

pub returns-else-eq-clause-spent : goal.returns-else-eq-clause-spent
returns-else-eq-clause-spent g c =
    let s = kinds_of c.args.code.now in
    let k = root_of c.args.code.now in
    let a = c.args.arena.now in
    let b = c.replace.new.arena in
    let r = c.replace.ensures.one in
    Spends-replaced s k a b c.args.top.now c.replace.result (LeavesRoom-replaced c.args.top.now.top a b c.args.elem.now r.0 r.1)
    c.replace.ensures.value c.replace.ensures.spare c.replace.ensures.spare_runs c.replace.ensures.most

pub returns-then-eq-clause-spent : goal.returns-then-eq-clause-spent
returns-then-eq-clause-spent g c =
    let s = kinds_of c.args.code.now in
    let k = root_of c.args.code.now in
    let a = c.args.arena.now in
    Spends-replaced s k a a c.args.top.now c.args.top.now (LeavesRoom-same c.args.top.now.top a) refl refl refl refl
