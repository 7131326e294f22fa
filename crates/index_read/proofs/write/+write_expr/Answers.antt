use Rattle.std.proofs.Common.{◌≡◌, ◌++◌, [], ◌∷◌, cond}
use Rattle.index_read.specs.declared.write.Precedence.TheVariants as least
use Rattle.index_read.specs.Canonical.{enclose, encloses_sum, encloses_product, expr_text}
use Rattle.index_read.proofs.CanonicalLemmas.{expr_text_plus, expr_text_minus, expr_text_times, expr_text_negate, on_ok, written_pair, written_negation}
use Rattle.index_read.proofs.write.+write_expr.Goals as goal

pub returns-in_ok-write_expr-in-Plus-2 : goal.returns-in_ok-write_expr-in-Plus-2
returns-in_ok-write_expr-in-Plus-2 t c =
    let V = c.args.vars.now.items in
    let old = c.args.into.now.items in
    let e = encloses_sum c.args.least in
    let flag = c.encloses_sum-is_enclosed.result in
    let left = c.in-Plus.a in
    let right = c.in-Plus.b in
    let opened = c.write_parenthesis.new.into.items in
    let half = c.write_expr.new.into.items in
    let between = c.append.new.into.items in
    let both = c.write_expr-in-Plus.new.into.items in
    let new = c.write_parenthesis-in-Plus.new.into.items in
    record {
      ok = rw (c.in-Plus.is, expr_text_plus)
          (on_ok c.write_parenthesis-in-Plus.result (new ≡ both ++ cond flag (41 ∷ []) []) (new ≡ old
          ++ enclose e (expr_text V least.Sum left ++ 32 ∷ 43 ∷ 32 ∷ expr_text V least.Product right)) c.write_parenthesis-in-Plus.ensures.ok
          (λ last. written_pair V least.Sum least.Product flag e left c.get.result.now right c.get-in-Plus.result.now
          (32 ∷ 43 ∷ 32 ∷ []) old opened half between both new
          c.encloses_sum-is_enclosed.ensures.value c.get.ensures c.get-in-Plus.ensures c.in_ok-write_parenthesis-in-Plus.ensures.ok
          c.in_ok-write_expr-in-Plus.ensures.ok
          c.in_ok-append-in-Plus.ensures.ok c.in_ok-write_expr-in-Plus-2.ensures.ok last));
    }

pub returns-in_ok-write_expr-in-Minus-2 : goal.returns-in_ok-write_expr-in-Minus-2
returns-in_ok-write_expr-in-Minus-2 t c =
    let V = c.args.vars.now.items in
    let old = c.args.into.now.items in
    let e = encloses_sum c.args.least in
    let flag = c.encloses_sum-is_enclosed-in-Minus.result in
    let left = c.in-Minus.a in
    let right = c.in-Minus.b in
    let opened = c.write_parenthesis-in-Minus.new.into.items in
    let half = c.write_expr-in-Minus.new.into.items in
    let between = c.append-in-Minus.new.into.items in
    let both = c.write_expr-in-Minus-2.new.into.items in
    let new = c.write_parenthesis-in-Minus-2.new.into.items in
    record {
      ok = rw (c.in-Minus.is, expr_text_minus)
          (on_ok c.write_parenthesis-in-Minus-2.result (new ≡ both ++ cond flag (41 ∷ []) []) (new ≡ old
          ++ enclose e (expr_text V least.Sum left ++ 32 ∷ 45 ∷ 32 ∷ expr_text V least.Product right)) c.write_parenthesis-in-Minus-2.ensures.ok
          (λ last. written_pair V least.Sum least.Product flag e left c.get-in-Minus.result.now right c.get-in-Minus-2.result.now
          (32 ∷ 45 ∷ 32 ∷ []) old opened half between both new
          c.encloses_sum-is_enclosed-in-Minus.ensures.value c.get-in-Minus.ensures c.get-in-Minus-2.ensures
          c.in_ok-write_parenthesis-in-Minus.ensures.ok c.in_ok-write_expr-in-Minus.ensures.ok
          c.in_ok-append-in-Minus.ensures.ok c.in_ok-write_expr-in-Minus-2.ensures.ok last));
    }

pub returns-in_ok-write_expr-in-Times-2 : goal.returns-in_ok-write_expr-in-Times-2
returns-in_ok-write_expr-in-Times-2 t c =
    let V = c.args.vars.now.items in
    let old = c.args.into.now.items in
    let e = encloses_product c.args.least in
    let flag = c.encloses_product-is_enclosed.result in
    let left = c.in-Times.a in
    let right = c.in-Times.b in
    let opened = c.write_parenthesis-in-Times.new.into.items in
    let half = c.write_expr-in-Times.new.into.items in
    let between = c.append-in-Times.new.into.items in
    let both = c.write_expr-in-Times-2.new.into.items in
    let new = c.write_parenthesis-in-Times-2.new.into.items in
    record {
      ok = rw (c.in-Times.is, expr_text_times)
          (on_ok c.write_parenthesis-in-Times-2.result (new ≡ both ++ cond flag (41 ∷ []) []) (new ≡ old
          ++ enclose e (expr_text V least.Product left ++ 32 ∷ 42 ∷ 32 ∷ expr_text V least.Factor right)) c.write_parenthesis-in-Times-2.ensures.ok
          (λ last. written_pair V least.Product least.Factor flag e left c.get-in-Times.result.now right c.get-in-Times-2.result.now
          (32 ∷ 42 ∷ 32 ∷ []) old opened half between both new
          c.encloses_product-is_enclosed.ensures.value c.get-in-Times.ensures c.get-in-Times-2.ensures c.in_ok-write_parenthesis-in-Times.ensures.ok
          c.in_ok-write_expr-in-Times.ensures.ok
          c.in_ok-append-in-Times.ensures.ok c.in_ok-write_expr-in-Times-2.ensures.ok last));
    }

pub returns-in_ok-write_expr-in-Negate : goal.returns-in_ok-write_expr-in-Negate
returns-in_ok-write_expr-in-Negate t c =
    let V = c.args.vars.now.items in
    let old = c.args.into.now.items in
    let e = encloses_sum c.args.least in
    let flag = c.encloses_sum-is_enclosed-in-Negate.result in
    let operand = c.in-Negate.a in
    let opened = c.write_parenthesis-in-Negate.new.into.items in
    let sign = c.append-in-Negate.new.into.items in
    let whole = c.write_expr-in-Negate.new.into.items in
    let new = c.write_parenthesis-in-Negate-2.new.into.items in
    record {
      ok = rw (c.in-Negate.is, expr_text_negate)
          (on_ok c.write_parenthesis-in-Negate-2.result (new ≡ whole ++ cond flag (41 ∷ []) []) (new ≡ old
          ++ enclose e (45 ∷ expr_text V least.Product operand)) c.write_parenthesis-in-Negate-2.ensures.ok
          (λ last. written_negation V least.Product flag e operand c.get-in-Negate.result.now old opened sign whole new
          c.encloses_sum-is_enclosed-in-Negate.ensures.value c.get-in-Negate.ensures c.in_ok-write_parenthesis-in-Negate.ensures.ok
          c.in_ok-append-in-Negate.ensures.ok c.in_ok-write_expr-in-Negate.ensures.ok last));
    }
