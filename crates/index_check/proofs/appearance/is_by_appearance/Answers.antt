use Rattle.std.proofs.Common.{◌≡◌, true, ap, sym, ◌∙◌}
use Rattle.dt_model.specs.Verdicts.{names_differ}
use Rattle.index_check.proofs.SmallLemmas.{by_appearance-none, by_appearance-some}
use Rattle.index_check.proofs.appearance.is_by_appearance.Goals as goal

pub returns-in-None : goal.returns-in-None
returns-in-None c =
    let differ : names_differ c.args.stmt.now.vars.items ≡ true = ap names_differ (sym c.as_slice.ensures.value) ∙ sym c.names_differ.ensures.value ∙
    c.if-not-names_differ.false in
    record { value = by_appearance-none c.args.stmt.now c.numbered_of.result differ c.numbered_of.ensures.value c.in-None.is }

pub returns-in-Some : goal.returns-in-Some
returns-in-Some c =
    let differ : names_differ c.args.stmt.now.vars.items ≡ true = ap names_differ (sym c.as_slice.ensures.value) ∙ sym c.names_differ.ensures.value ∙
    c.if-not-names_differ.false in
    record {
      value = by_appearance-some c.args.stmt.now c.numbered_of.result c.in-Some.count c.len.result differ c.numbered_of.ensures.value c.in-Some.is
          c.len.ensures.value;
    }
