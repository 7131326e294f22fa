use Rattle.std.proofs.Common.{sym, subst}
use Rattle.sessions.specs.HeldTables.{AreHeldTables}
use Rattle.sessions.proofs.HeldTablesLemmas.{AreFibersFor-held, AreHeldTables-added}
use Rattle.sessions.proofs.held_tables.add_held_table.Goals as goal

pub returns-clause-tables : goal.returns-clause-tables
returns-clause-tables c =
    subst (AreHeldTables c.args.decls.now c.args.hands.now.items) (sym c.in_ok-add.ensures.ok)
    (AreHeldTables-added c.args.decls.now c.args.hands.now.items c.args.tables.now.entries (c.args.tensor, c.in_ok-pairs.pairs) c.requires.tables
    (λ m are each. c.in_ok-pairs.ensures.value m (AreFibersFor-held c.args.decls.now m c.args.hands.now.items c.args.tensor are each)))
