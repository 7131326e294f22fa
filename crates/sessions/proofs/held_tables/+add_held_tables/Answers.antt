use Rattle.std.proofs.Common.{ap, sym, ◌∙◌, subst}
use Rattle.std.proofs.lemmas.Result.{on_ok_weaker}
use Rattle.dt_model.specs.Statements.{accesses}
use Rattle.dt_model.proofs.StatementsLemmas.{accesses-Plus, accesses-Minus, accesses-Times, accesses-Negate}
use Rattle.sessions.specs.QueryTables.{HaveTables}
use Rattle.sessions.proofs.QueryTablesLemmas.{HaveTables-sides}
use Rattle.sessions.proofs.held_tables.+add_held_tables.Goals as goal

pub returns-in_ok-add_held_tables-in-Plus-clause-has : goal.returns-in_ok-add_held_tables-in-Plus-clause-has
returns-in_ok-add_held_tables-in-Plus-clause-has t c =
    HaveTables-sides c.add_held_tables-in-Plus.result c.args.decls.now c.add_held_tables.new.tables.entries c.add_held_tables-in-Plus.new.tables.entries _
    c.in-Plus.a c.in-Plus.b c.get.result.now c.get-in-Plus.result.now (ap accesses c.in-Plus.is ∙ accesses-Plus c.in-Plus.a c.in-Plus.b)
    c.get.ensures c.get-in-Plus.ensures c.in_ok-add_held_tables-in-Plus.ensures.has c.add_held_tables-in-Plus.ensures.has c.add_held_tables-in-Plus.ensures.kept

pub returns-in_ok-add_held_tables-in-Minus-clause-has : goal.returns-in_ok-add_held_tables-in-Minus-clause-has
returns-in_ok-add_held_tables-in-Minus-clause-has t c =
    HaveTables-sides c.add_held_tables-in-Minus-2.result c.args.decls.now c.add_held_tables-in-Minus.new.tables.entries
    c.add_held_tables-in-Minus-2.new.tables.entries _
    c.in-Minus.a c.in-Minus.b c.get-in-Minus.result.now c.get-in-Minus-2.result.now (ap accesses c.in-Minus.is ∙ accesses-Minus c.in-Minus.a c.in-Minus.b)
    c.get-in-Minus.ensures c.get-in-Minus-2.ensures c.in_ok-add_held_tables-in-Minus.ensures.has c.add_held_tables-in-Minus-2.ensures.has
    c.add_held_tables-in-Minus-2.ensures.kept

pub returns-in_ok-add_held_tables-in-Times-clause-has : goal.returns-in_ok-add_held_tables-in-Times-clause-has
returns-in_ok-add_held_tables-in-Times-clause-has t c =
    HaveTables-sides c.add_held_tables-in-Times-2.result c.args.decls.now c.add_held_tables-in-Times.new.tables.entries
    c.add_held_tables-in-Times-2.new.tables.entries _
    c.in-Times.a c.in-Times.b c.get-in-Times.result.now c.get-in-Times-2.result.now (ap accesses c.in-Times.is ∙ accesses-Times c.in-Times.a c.in-Times.b)
    c.get-in-Times.ensures c.get-in-Times-2.ensures c.in_ok-add_held_tables-in-Times.ensures.has c.add_held_tables-in-Times-2.ensures.has
    c.add_held_tables-in-Times-2.ensures.kept

pub returns-in-Negate-clause-has : goal.returns-in-Negate-clause-has
returns-in-Negate-clause-has t c =
    let same = ap accesses c.in-Negate.is ∙ accesses-Negate c.in-Negate.a ∙ ap accesses (sym c.get-in-Negate.ensures) in
    on_ok_weaker c.add_held_tables-in-Negate.result (subst (HaveTables c.args.decls.now c.add_held_tables-in-Negate.new.tables.entries) (sym same))
    c.add_held_tables-in-Negate.ensures.has
