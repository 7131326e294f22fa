use Rattle.std.proofs.Common.{◌≡◌, ◌≤◌, ◌+◌, ◌^◌, ℕ, Some, None, length, refl, sym, subst, arith}
use Rattle.node_arena.specs.declared.kinds.Shape.TheVariants.{Woven}
use Rattle.node_arena.specs.Kinds.{shape_at}
use Rattle.node_arena.specs.Trees.{Trees, absent, done}
use Rattle.node_arena.specs.Walks.{walk}
use Rattle.btree_nodes.specs.Links.{CanPutAt, PutsUnder}
use Rattle.btree_nodes.proofs.SpineLemmas.{CanPutAt-empty, CanPutAt-next}
use Rattle.btree_nodes.proofs.TrialLemmas.{under-rooted, walk-next}
use Rattle.btree_nodes.proofs.tests.hung.Goals as goal

pub insert_below-first-requires-clause-tree : goal.insert_below-first-requires-clause-tree
insert_below-first-requires-clause-tree g c =
    let s = c.woven-kinds.result in
    let woven : shape_at s 0 ≡ Woven = subst (λ v. shape_at v 0 ≡ Woven) (sym c.woven-kinds.ensures.kind) refl in
    let room = c.in_ok-reserve.ensures.ok in
    let can = CanPutAt-empty s 0 c.reserve.new.self c.elem.result in
    (absent done, can, record { digits = 1; more = omega arith; room = omega arith })

pub insert_below-second-requires-clause-tree : goal.insert_below-second-requires-clause-tree
insert_below-second-requires-clause-tree g c =
    let s = c.woven-kinds.result in
    let woven : shape_at s 0 ≡ Woven = subst (λ v. shape_at v 0 ≡ Woven) (sym c.woven-kinds.ensures.kind) refl in
    let room = c.in_ok-reserve.ensures.ok in
    let can = CanPutAt-empty s 0 c.reserve.new.self c.elem.result in
    let one = c.insert_below-first.ensures.puts (absent done) can in
    let left : c.reserve.new.self.nodes.spare ≤ c.insert_below-first.new.arena.nodes.spare + 1 =
    c.insert_below-first.ensures.spare (absent done) can 1 (omega arith) in
    let three = c.elem.ensures.at in
    let first = c.elem-2.ensures.at in
    let next = CanPutAt-next s 0 _ _ _ c.elem-2.result _ _ (absent done) woven can one (λ e. omega arith) tt (omega arith) in
    let n : length (walk s one.tree) ≡ 0 + 1 = walk-next s 0 _ _ _ (absent done) _ one in
    (one.tree, next, record { digits = 2; more = omega arith; room = omega arith })

pub insert_below-third-requires-clause-tree : goal.insert_below-third-requires-clause-tree
insert_below-third-requires-clause-tree g c =
    let s = c.woven-kinds.result in
    let woven : shape_at s 0 ≡ Woven = subst (λ v. shape_at v 0 ≡ Woven) (sym c.woven-kinds.ensures.kind) refl in
    let room = c.in_ok-reserve.ensures.ok in
    let can = CanPutAt-empty s 0 c.reserve.new.self c.elem.result in
    let one = c.insert_below-first.ensures.puts (absent done) can in
    let left : c.reserve.new.self.nodes.spare ≤ c.insert_below-first.new.arena.nodes.spare + 1 =
    c.insert_below-first.ensures.spare (absent done) can 1 (omega arith) in
    let three = c.elem.ensures.at in
    let first = c.elem-2.ensures.at in
    let next = CanPutAt-next s 0 _ _ _ c.elem-2.result _ _ (absent done) woven can one (λ e. omega arith) tt (omega arith) in
    let n : length (walk s one.tree) ≡ 0 + 1 = walk-next s 0 _ _ _ (absent done) _ one in
    let both = c.insert_below-second.ensures.puts one.tree next in
    let less : c.insert_below-first.new.arena.nodes.spare ≤ c.insert_below-second.new.arena.nodes.spare + 2 =
    c.insert_below-second.ensures.spare one.tree next 2 (omega arith) in
    let two = c.elem-3.ensures.at in
    let other = CanPutAt-next s 0 _ _ _ c.elem-3.result _ _ (absent done) woven can one (λ e. omega arith) tt (omega arith) in
    let last = CanPutAt-next s 0 _ _ _ c.elem-3.result _ _ one.tree woven next both (λ e. omega arith) other.lacks (omega arith) in
    let m : length (walk s both.tree) ≡ length (walk s one.tree) + 1 = walk-next s 0 _ _ _ one.tree _ both in
    (both.tree, last, record { digits = 2; more = omega arith; room = omega arith })

pub write-requires-clause-there : goal.write-requires-clause-there
write-requires-clause-there g c =
    let s = c.woven-kinds.result in
    let woven : shape_at s 0 ≡ Woven = subst (λ v. shape_at v 0 ≡ Woven) (sym c.woven-kinds.ensures.kind) refl in
    let room = c.in_ok-reserve.ensures.ok in
    let can = CanPutAt-empty s 0 c.reserve.new.self c.elem.result in
    let one = c.insert_below-first.ensures.puts (absent done) can in
    let left : c.reserve.new.self.nodes.spare ≤ c.insert_below-first.new.arena.nodes.spare + 1 =
    c.insert_below-first.ensures.spare (absent done) can 1 (omega arith) in
    let three = c.elem.ensures.at in
    let first = c.elem-2.ensures.at in
    let next = CanPutAt-next s 0 _ _ _ c.elem-2.result _ _ (absent done) woven can one (λ e. omega arith) tt (omega arith) in
    let n : length (walk s one.tree) ≡ 0 + 1 = walk-next s 0 _ _ _ (absent done) _ one in
    let both = c.insert_below-second.ensures.puts one.tree next in
    let less : c.insert_below-first.new.arena.nodes.spare ≤ c.insert_below-second.new.arena.nodes.spare + 2 =
    c.insert_below-second.ensures.spare one.tree next 2 (omega arith) in
    let two = c.elem-3.ensures.at in
    let other = CanPutAt-next s 0 _ _ _ c.elem-3.result _ _ (absent done) woven can one (λ e. omega arith) tt (omega arith) in
    let last = CanPutAt-next s 0 _ _ _ c.elem-3.result _ _ one.tree woven next both (λ e. omega arith) other.lacks (omega arith) in
    let m : length (walk s both.tree) ≡ length (walk s one.tree) + 1 = walk-next s 0 _ _ _ one.tree _ both in
    let all = c.insert_below-third.ensures.puts both.tree last in
    (under-rooted s 0 _ _ _ both.tree _ all).1

pub write-requires-clause-rooted : goal.write-requires-clause-rooted
write-requires-clause-rooted g c =
    let s = c.woven-kinds.result in
    let woven : shape_at s 0 ≡ Woven = subst (λ v. shape_at v 0 ≡ Woven) (sym c.woven-kinds.ensures.kind) refl in
    let room = c.in_ok-reserve.ensures.ok in
    let can = CanPutAt-empty s 0 c.reserve.new.self c.elem.result in
    let one = c.insert_below-first.ensures.puts (absent done) can in
    let left : c.reserve.new.self.nodes.spare ≤ c.insert_below-first.new.arena.nodes.spare + 1 =
    c.insert_below-first.ensures.spare (absent done) can 1 (omega arith) in
    let three = c.elem.ensures.at in
    let first = c.elem-2.ensures.at in
    let next = CanPutAt-next s 0 _ _ _ c.elem-2.result _ _ (absent done) woven can one (λ e. omega arith) tt (omega arith) in
    let n : length (walk s one.tree) ≡ 0 + 1 = walk-next s 0 _ _ _ (absent done) _ one in
    let both = c.insert_below-second.ensures.puts one.tree next in
    let less : c.insert_below-first.new.arena.nodes.spare ≤ c.insert_below-second.new.arena.nodes.spare + 2 =
    c.insert_below-second.ensures.spare one.tree next 2 (omega arith) in
    let two = c.elem-3.ensures.at in
    let other = CanPutAt-next s 0 _ _ _ c.elem-3.result _ _ (absent done) woven can one (λ e. omega arith) tt (omega arith) in
    let last = CanPutAt-next s 0 _ _ _ c.elem-3.result _ _ one.tree woven next both (λ e. omega arith) other.lacks (omega arith) in
    let m : length (walk s both.tree) ≡ length (walk s one.tree) + 1 = walk-next s 0 _ _ _ one.tree _ both in
    let all = c.insert_below-third.ensures.puts both.tree last in
    (under-rooted s 0 _ _ _ both.tree _ all).0
