use Rattle.std.proofs.Common.{◌≡◌, ℕ, ◌+◌, ◌%◌, ◌^◌, ◌<◌, arith, sym, subst}
use mathlib.Core.Option.{none}
use Rattle.atomic_table.specs.Table.{Allows, step}
use Rattle.dt_model.specs.declared.calls.Entry.{Entry}
use Rattle.fiber_latch.specs.Rule.{Good, KeepsRule}
use Rattle.fiber_latch.specs.Steps.{AddsEntry}
use Rattle.fiber_latch.specs.Conditions.{config_of}
use Rattle.fiber_latch.proofs.CommitKind.{commit_moves}
use Rattle.fiber_latch.proofs.KindsLemmas.{allows}
use Rattle.fiber_latch.proofs.raw.commit_picked.Goals as goal

pair : {a b : Entry} {m n : ℕ} → a ≡ b → m ≡ n → ◌≡◌ {A = Entry × ℕ} (a, m) (b, n)
pair e f i = (e i, f i)

pub fetch_add-requires : goal.fetch_add-requires
fetch_add-requires g c =
    let key = c.args.top.now.key in
    let token = c.args.token.now in
    let t = c.requires.table in
    let r = c.requires.ready in
    let word : c.args.end + 1 < c.args.top.now.table_id.words = let a = t.sized.words in let b = c.requires.end in omega arith in (
      t.same,
      word,
      subst (λ (p : Entry × ℕ). Allows (KeepsRule (config_of key) (Good g.C.Keep.content g.C.Keep.sound (config_of key))) c.args.top.now.table_id.slots token.id
          token.me (c.args.end + 1) (λ n. (n + p.1) % 2 ^ 64) (AddsEntry p.0 (step c.args.top.now.table_id.slots (c.args.end + 1) p.1 0 none) token.me))
          (pair c.requires.entry (omega arith))
          (subst (λ (n : ℕ). Allows (KeepsRule (config_of key) (Good g.C.Keep.content g.C.Keep.sound (config_of key))) c.args.top.now.table_id.slots token.id
          token.me (n + 1) (λ n. (n + 1) % 2 ^ 64) (AddsEntry c.args.entry.now (step c.args.top.now.table_id.slots (n + 1) 1 0 none) token.me))
          (sym c.requires.end)
          (allows (Good g.C.Keep.content g.C.Keep.sound (config_of key)) (config_of key)
          (commit_moves (Good g.C.Keep.content g.C.Keep.sound (config_of key)) (config_of key) c.args.top.now.table_id.slots token.id token.me.0
          token.me.1 c.args.entry.now r))),
    )
