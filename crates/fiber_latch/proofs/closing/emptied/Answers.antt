use Rattle.std.proofs.Common.{ℕ, List, Bool, false, ◌≡◌, ◌+◌, arith, sym, ◌∙◌, subst, get_or}
use Rattle.std.specs.Mem.Slots.{slots_filled, slots_len}
use Rattle.fiber_latch.proofs.LeavingLemmas.{left_more}
use Rattle.fiber_latch.proofs.closing.emptied.Goals as goal

pub free-requires : goal.free-requires
free-requires g c k b =
    let s = c.take_stores-stores.ensures in
    let old = c.take_stores-stores.new.slots.slots in
    let o = c.take.ensures.others in
    let n : ℕ = c.args.end in
    let count : slots_len old ≡ n + 1 = s.same.1 in
    let now : slots_len c.take.new.self.slots ≡ n + 1 = o.2 ∙ count in
    subst (λ (f : List Bool). get_or f k false ≡ false) (sym o.1)
    (left_more (slots_filled old) n (slots_len old) old.ok.1 (omega arith) s.left.0 k (omega arith))
