use Rattle.std.proofs.Common.{◌≡◌, ◌∙◌, ap, sym, true, false, Bool, ℕ}
use Rattle.std.specs.Prelude.{slice_index, nat_le, not, ◌||◌, ◌&&◌, ◌==◌}
use Rattle.dt_model.specs.Latches.{needs}
use Rattle.commit_core.specs.Machine.{journal_latch}
use Rattle.commit_core.specs.Events.{all_under}
use Rattle.commit_core.proofs.EventsLemmas.{holds-journal}
use Rattle.commit_core.proofs.possible.holds_below.Goals as goal

pub returns-then-holds_latch : goal.returns-then-holds_latch
returns-then-holds_latch c =
    let holder : ℕ → ℕ = slice_index c.args.holders.now in
    let own : Bool = all_under (λ k. not (needs c.args.decls.now c.args.call.now k) || holder k == c.args.session) c.args.end in
    let held : true ≡ (nat_le c.args.end (journal_latch c.args.decls.now) || holder (journal_latch c.args.decls.now) == c.args.session) =
    sym c.if-holds_latch.true ∙ c.holds_latch.ensures.value ∙ ap (λ l. nat_le c.args.end l || holder l == c.args.session) c.latch_count.ensures.value in
    record { value = c.holds_own.ensures.value ∙ ap (λ b. b && own) held ∙ holds-journal c.args.decls.now holder c.args.session c.args.end c.args.call.now }

pub returns-else-holds_latch : goal.returns-else-holds_latch
returns-else-holds_latch c =
    let holder : ℕ → ℕ = slice_index c.args.holders.now in
    let own : Bool = all_under (λ k. not (needs c.args.decls.now c.args.call.now k) || holder k == c.args.session) c.args.end in
    let lacks : false ≡ (nat_le c.args.end (journal_latch c.args.decls.now) || holder (journal_latch c.args.decls.now) == c.args.session) =
    sym c.if-holds_latch.false ∙ c.holds_latch.ensures.value ∙ ap (λ l. nat_le c.args.end l || holder l == c.args.session) c.latch_count.ensures.value in
    record { value = c.if-holds_latch.false ∙ ap (λ b. b && own) lacks ∙ holds-journal c.args.decls.now holder c.args.session c.args.end c.args.call.now }
