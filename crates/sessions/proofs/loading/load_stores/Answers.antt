use Rattle.std.proofs.Common.{◌≡◌, ◌∙◌, ℕ, [], arith, sym, ap, subst}
use Rattle.std.proofs.lemmas.List.{get_or-map, take_all}
use Rattle.dt_model.specs.Pairs.{total_at}
use Rattle.dt_model.specs.Runs.{base_of}
use Rattle.dt_model.specs.Tensors.{total_latches}
use Rattle.commit_core.specs.Cells.{cells_of, contents_of}
use Rattle.commit_core.specs.CellListState.{all_cells, all_orders}
use Rattle.sessions.specs.Loading.{AreFibersBelow}
use Rattle.sessions.specs.QueryTables.{AreNonzerosOf}
use Rattle.sessions.proofs.InRange.{IsInRange-base_of}
use Rattle.sessions.proofs.PairsLemmas.{without_zeros-cells_of}
use Rattle.sessions.proofs.LoadingLemmas.{AreRowsOf-loaded, as_many_lists}
use Rattle.sessions.proofs.loading.load_stores.Goals as goal

pub open_fibers-requires-clause-rows : goal.open_fibers-requires-clause-rows
open_fibers-requires-clause-rows c =
    let w = c.args.world.now in
    let xs = c.as_slice-all.result.now in
    let list = c.index-all-tensor.result in
    let t : ℕ = c.loop-tensor.tensor in
    let is : contents_of (all_cells xs) ≡ base_of w = ap (λ ys. contents_of (all_cells ys)) c.as_slice-all.ensures.value ∙ c.in_ok-lists.ensures.contents in
    let at : list.cells ≡ cells_of (all_cells xs) t = ap (λ x. x.cells) c.index-all-tensor.is
    ∙ sym (get_or-map (λ x. x.cells) xs t list [] c.loop-tensor-test.true) in
    AreRowsOf-loaded w.decls (base_of w) t list.cells c.in_ok-rows.rows (IsInRange-base_of w c.requires.world) c.nonzeros.ensures.ascending
    c.in_ok-rows.ensures.value (λ co. ap (λ ps. total_at ps co) at ∙ ap (λ m. m t co) is)
    (subst (λ m. AreNonzerosOf m t c.in_ok-rows.rows) is
    (without_zeros-cells_of (all_cells xs) t list.cells at c.nonzeros.ensures.ascending c.in_ok-rows.rows c.in_ok-rows.ensures.value
    c.in_ok-rows.ensures.small))

pub returns : goal.returns
returns c =
    let w = c.args.world.now in
    let many = as_many_lists w c.as_slice-all.result.now (ap all_orders c.as_slice-all.ensures.value ∙ c.in_ok-lists.ensures.orders) in
    record {
      stores = subst (λ n. AreFibersBelow w.decls (base_of w) n c.loop-tensor.stores.items)
          (ap total_latches (take_all c.loop-tensor.tensor w.decls.tensors (omega (arith, many)))) c.loop-tensor.invariant;
    }
