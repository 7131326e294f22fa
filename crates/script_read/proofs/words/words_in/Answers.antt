use Rattle.std.proofs.Common.{◌≡◌, ◌++◌, ◌∷◌, List, map, refl, subst}
use Rattle.std.specs.List.{All}
use Rattle.std.proofs.lemmas.List.Elements.{All-head, All-tail}
use Rattle.dt_text.specs.declared.spans.Span.{Span}
use Rattle.dt_text.specs.Spans.{IsSpanOf}
use Rattle.script_read.specs.Words.{word_at, columned_words, seen_word}
use Rattle.script_read.proofs.WordsLemmas.{words_done, word_more, within_more}
use Rattle.script_read.proofs.words.words_in.Goals as goal

pub loop-span-preserved : goal.loop-span-preserved
loop-span-preserved c =
    let before = c.args.before in
    let text = c.args.text.now in
    let steps : c.loop-span.spans ≡ c.in-Some.span ∷ c.next.new.self = c.in-Some.ensures.steps in
    let grew = c.in_ok-push.ensures.items in
    let spans = subst (All (IsSpanOf text)) steps c.loop-span.invariant.inside in
    record {
      left = word_more before text c.loop-span.found.items c.push.new.self.items _ c.in-Some.span c.next.new.self grew refl
          (subst
          (λ (s : List Span). map seen_word c.loop-span.found.items ++ map (word_at before text) s ≡ columned_words before text) steps
          c.loop-span.invariant.left);
      inside = All-tail (IsSpanOf text) c.in-Some.span c.next.new.self spans;
      within = within_more before text c.loop-span.found.items c.push.new.self.items _ c.in-Some.span c.loop-span.invariant.within
          (All-head (IsSpanOf text) c.in-Some.span c.next.new.self spans) refl grew;
    }

pub returns-clause-words : goal.returns-clause-words
returns-clause-words c =
    words_done c.args.before c.args.text.now c.loop-span.found.items c.loop-span.spans c.loop-span.invariant.left
    c.in_default.ensures.steps.0 c.words-spans.ensures.words
