use Rattle.std.proofs.Common.{◌≡◌, ◌∙◌, ◌+◌, ◌∷◌, [], ◌++◌, ℕ, suc, List, take, ap, sym, subst, arith}
use Rattle.std.proofs.Math.Seq.{take-suc}
use Rattle.aria_record.specs.declared.record.Record.{Record}
use Rattle.aria_recovery.specs.Noted.{NotesAll}
use Rattle.aria_recovery.proofs.Noting.{notes_more}
use Rattle.aria_recovery.proofs.lives.note_all.Goals as goal

pub loop-entry-preserved : goal.loop-entry-preserved
loop-entry-preserved c =
    let i : ℕ = c.loop-entry.entry-index in
    let one_more : take (i + 1) c.args.records.now ≡ take i c.args.records.now ++ c.entry-item.result ∷ [] =
    ap (λ (n : ℕ). take n c.args.records.now) (let e : i + 1 ≡ suc i = omega arith in e) ∙ take-suc c.args.records.now i c.entry-item.result c.loop-entry-test.true
    ∙ ap (λ (r : Record). take i c.args.records.now ++ r ∷ []) (sym c.entry-item.is) in
    subst (λ (rs : List Record). NotesAll c.args.at rs c.args.lives.now c.note_record.new.lives) (sym one_more)
    (notes_more c.args.at (take i c.args.records.now) c.entry-item.result c.args.lives.now c.loop-entry.lives c.note_record.new.lives c.loop-entry.invariant c.in_ok-note_record.ensures)
