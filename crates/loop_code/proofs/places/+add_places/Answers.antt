use Rattle.std.proofs.Common.{◌≡◌, ℕ, ◌+◌, ◌++◌, Bool, List, length, append_assoc, ap, sym, ◌∙◌, arith}
use Rattle.dt_model.specs.declared.statements.Expr.{Expr}
use Rattle.dt_model.specs.Statements.{accesses}
use Rattle.merge_lattice.specs.Lattices.{bit_of}
use Rattle.merge_lattice.specs.Points.{parts}
use Rattle.merge_lattice.proofs.Laws.{parts-Plus, parts-Minus}
use Rattle.loop_code.specs.KernelExpressions.{accesses_left}
use Rattle.loop_code.specs.Terms.{count_of_terms}
use Rattle.loop_code.proofs.AccessLaws.{count-Plus, count-Minus, accesses_left-Plus, accesses_left-Minus, accesses_left-Negate}
use Rattle.loop_code.proofs.ExpressionLaws.{count_of_terms-Plus, count_of_terms-Minus}
use Rattle.loop_code.proofs.places.+add_places.Goals as goal

abbrev count : Expr → ℕ
count e = length (accesses e)

-- the accesses of two sides, from what the two calls answered
grown : (on : ℕ → Bool) (k j n i : ℕ) (whole a b x y : Expr) (start mid end : List ℕ)
    → accesses_left on k j whole ≡ accesses_left on k j a ++ accesses_left on (k + count_of_terms a) (j + count a) b → x ≡ a → y ≡ b
    → mid ≡ start ++ accesses_left on k j x → n ≡ k + count_of_terms x → i ≡ j + count x → end ≡ mid ++ accesses_left on n i y
    → end ≡ start ++ accesses_left on k j whole
grown on k j n i whole a b x y start mid end law xa yb m nk ij e =
    let regrouped = append_assoc start (accesses_left on k j a) (accesses_left on (k + count_of_terms a) (j + count a) b) in cc

pub add_places-requires : goal.add_places-requires
add_places-requires t c =
    let size = ap parts c.in-Plus.is ∙ parts-Plus c.in-Plus.a c.in-Plus.b in
    let e = ap parts c.get-in-Plus.ensures in
    let terms = ap count_of_terms c.in-Plus.is ∙ count_of_terms-Plus c.in-Plus.a c.in-Plus.b in
    let ta = ap count_of_terms c.get.ensures in
    let tb = ap count_of_terms c.get-in-Plus.ensures in
    let places = ap count c.in-Plus.is ∙ count-Plus c.in-Plus.a c.in-Plus.b in
    let pa = ap count c.get.ensures in
    let pb = ap count c.get-in-Plus.ensures in
    let middle = c.add_places-middle.ensures in (
      omega (arith, size, e, c.decreases),
      (
        omega (arith, terms, ta, tb, c.requires.terms, middle.term),
        (omega (arith, places, pa, pb, c.requires.accesses, middle.access), middle.room),
      ),
    )

pub returns-in-Plus-clause-value : goal.returns-in-Plus-clause-value
returns-in-Plus-clause-value t c =
    let on = bit_of c.args.terms in
    let law = ap (accesses_left on c.args.first.term c.args.first.access) c.in-Plus.is
    ∙ accesses_left-Plus on c.args.first.term c.args.first.access c.in-Plus.a c.in-Plus.b in
    let middle = c.add_places-middle.ensures in
    grown on c.args.first.term c.args.first.access c.add_places-middle.result.term c.add_places-middle.result.access c.args.expr.now c.in-Plus.a c.in-Plus.b
    c.get.result.now c.get-in-Plus.result.now c.args.into.now.items c.add_places-middle.new.into.items c.add_places.new.into.items law c.get.ensures
    c.get-in-Plus.ensures
    middle.value middle.term middle.access c.add_places.ensures.value

pub returns-in-Plus-clause-term : goal.returns-in-Plus-clause-term
returns-in-Plus-clause-term t c =
    let terms = ap count_of_terms c.in-Plus.is ∙ count_of_terms-Plus c.in-Plus.a c.in-Plus.b in
    let ta = ap count_of_terms c.get.ensures in
    let tb = ap count_of_terms c.get-in-Plus.ensures in
    omega (arith, terms, ta, tb, c.add_places-middle.ensures.term, c.add_places.ensures.term)

pub returns-in-Plus-clause-access : goal.returns-in-Plus-clause-access
returns-in-Plus-clause-access t c =
    let places = ap count c.in-Plus.is ∙ count-Plus c.in-Plus.a c.in-Plus.b in
    let pa = ap count c.get.ensures in
    let pb = ap count c.get-in-Plus.ensures in
    omega (arith, places, pa, pb, c.add_places-middle.ensures.access, c.add_places.ensures.access)

pub add_places-requires-in-Minus : goal.add_places-requires-in-Minus
add_places-requires-in-Minus t c =
    let size = ap parts c.in-Minus.is ∙ parts-Minus c.in-Minus.a c.in-Minus.b in
    let e = ap parts c.get-in-Minus-2.ensures in
    let terms = ap count_of_terms c.in-Minus.is ∙ count_of_terms-Minus c.in-Minus.a c.in-Minus.b in
    let ta = ap count_of_terms c.get-in-Minus.ensures in
    let tb = ap count_of_terms c.get-in-Minus-2.ensures in
    let places = ap count c.in-Minus.is ∙ count-Minus c.in-Minus.a c.in-Minus.b in
    let pa = ap count c.get-in-Minus.ensures in
    let pb = ap count c.get-in-Minus-2.ensures in
    let middle = c.add_places-middle-in-Minus.ensures in (
      omega (arith, size, e, c.decreases),
      (
        omega (arith, terms, ta, tb, c.requires.terms, middle.term),
        (omega (arith, places, pa, pb, c.requires.accesses, middle.access), middle.room),
      ),
    )

pub returns-in-Minus-clause-value : goal.returns-in-Minus-clause-value
returns-in-Minus-clause-value t c =
    let on = bit_of c.args.terms in
    let law = ap (accesses_left on c.args.first.term c.args.first.access) c.in-Minus.is
    ∙ accesses_left-Minus on c.args.first.term c.args.first.access c.in-Minus.a c.in-Minus.b in
    let middle = c.add_places-middle-in-Minus.ensures in
    grown on c.args.first.term c.args.first.access c.add_places-middle-in-Minus.result.term c.add_places-middle-in-Minus.result.access c.args.expr.now
    c.in-Minus.a c.in-Minus.b
    c.get-in-Minus.result.now c.get-in-Minus-2.result.now c.args.into.now.items c.add_places-middle-in-Minus.new.into.items
    c.add_places-in-Minus.new.into.items law c.get-in-Minus.ensures c.get-in-Minus-2.ensures
    middle.value middle.term middle.access c.add_places-in-Minus.ensures.value

pub returns-in-Minus-clause-term : goal.returns-in-Minus-clause-term
returns-in-Minus-clause-term t c =
    let terms = ap count_of_terms c.in-Minus.is ∙ count_of_terms-Minus c.in-Minus.a c.in-Minus.b in
    let ta = ap count_of_terms c.get-in-Minus.ensures in
    let tb = ap count_of_terms c.get-in-Minus-2.ensures in
    omega (arith, terms, ta, tb, c.add_places-middle-in-Minus.ensures.term, c.add_places-in-Minus.ensures.term)

pub returns-in-Minus-clause-access : goal.returns-in-Minus-clause-access
returns-in-Minus-clause-access t c =
    let places = ap count c.in-Minus.is ∙ count-Minus c.in-Minus.a c.in-Minus.b in
    let pa = ap count c.get-in-Minus.ensures in
    let pb = ap count c.get-in-Minus-2.ensures in
    omega (arith, places, pa, pb, c.add_places-middle-in-Minus.ensures.access, c.add_places-in-Minus.ensures.access)

pub returns-in-Negate-clause-value : goal.returns-in-Negate-clause-value
returns-in-Negate-clause-value t c =
    let left = accesses_left (bit_of c.args.terms) c.args.first.term c.args.first.access in
    c.add_places-in-Negate.ensures.value ∙ ap (λ e. c.args.into.now.items ++ left e) c.get-in-Negate.ensures
    ∙ ap (λ xs. c.args.into.now.items ++ xs) (sym (ap left c.in-Negate.is
    ∙ accesses_left-Negate (bit_of c.args.terms) c.args.first.term c.args.first.access c.in-Negate.a))
