use Rattle.std.proofs.lemmas.Result.{on_ok_weaker}
use Rattle.sessions.proofs.HeldTablesLemmas.{AddsStore-some, AddsStore-none}
use Rattle.sessions.proofs.fiber_rows.add_store.Goals as goal

pub returns-in-Some : goal.returns-in-Some
returns-in-Some g c = record {
  ok = on_ok_weaker c.add_fiber.result (AddsStore-some (g.F.Fibers.has c.args.fibers.now c.args.latch) c.args.rows.now c.add_fiber.new.rows c.in-Some.store.now
      c.in-Some.ensures.some)
      c.add_fiber.ensures.ok;
}

pub returns-in-None : goal.returns-in-None
returns-in-None g c = record { ok = AddsStore-none (g.F.Fibers.has c.args.fibers.now c.args.latch) c.args.rows.now c.args.rows.now c.in-None.ensures.none }
