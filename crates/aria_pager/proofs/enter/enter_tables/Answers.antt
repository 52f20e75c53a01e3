use Rattle.std.proofs.Common.{◌≡◌, ◌∙◌, ℕ, ◌+◌, List, [], length, cond, Some, None, ap, sym, subst}
use Rattle.std.specs.Prelude.{All}
use Rattle.aria_page.specs.Lsn.{IsLsn}
use Rattle.aria_record.specs.Writing.{Writes}
use Rattle.aria_record.proofs.Writers.{written_is}
use Rattle.aria_cache.specs.Frames.{held}
use Rattle.aria_pager.specs.declared.page_store.PageStore.{PageStore}
use Rattle.aria_pager.specs.Filing.{with_tables}
use Rattle.aria_pager.specs.Entered.{HasMany, AreMany, HaveSlots, is_listed}
use Rattle.std.proofs.lemmas.Result.{err_from_is_err_and}
use Rattle.aria_pager.proofs.Again.{if_err_at}
use Rattle.aria_pager.proofs.Given.{are_many, tidy_blank, told_none, entering_begun}
use Rattle.aria_pager.proofs.Entered.{covered, tidy_entered}
use Rattle.aria_pager.proofs.enter.enter_tables.Goals as goal

pub returns-clause-entered : goal.returns-clause-entered
returns-clause-entered g c = λ told checkpoint groups has low listed.
    let b = c.in_ok-store.store in
    let noted : PageStore = with_tables b b.frames b.slots c.note_files.new.tables in
    let n : PageStore = c.give_slots.new.self in
    let s = g.H.Host.state c.args.host.now in
    let blank = c.in_ok-store.ensures in
    let rest : n ≡ with_tables noted noted.frames n.slots n.tables = c.in_ok-give_slots.ensures.rest in
    let names : List (List ℕ) = c.in_ok-names.names.items in
    let begun = entering_begun noted s.folder groups c.args.files.now blank.slots (λ q. c.in_ok-note_files.ensures checkpoint groups has q ∙ ap (cond (is_listed c.args.files.now groups q) (Some None)) (blank.tables q)) listed in
    let both = c.in_ok-give_slots.ensures.enters told checkpoint groups has low (written_is b.writer [] blank.empty) begun in
    let have : HaveSlots n groups names = subst (λ (l : List (List ℕ)). HaveSlots n groups l) c.as_slice.ensures.value both.1 in
    let oldest_is = c.pending.ensures checkpoint groups has in
    record {
      log = ap (λ (v : PageStore). v.log) rest ∙ blank.log;
      started = ap (λ (v : PageStore). v.started) rest ∙ blank.started;
      none = λ k. ap (λ (v : PageStore). held v.frames k) rest ∙ blank.none k;
      pins = ap (λ (v : PageStore). v.frames.pins.items) rest ∙ blank.pins;
      empty = subst (λ (v : PageStore). Writes v.writer []) (sym rest) blank.empty;
      pending = λ fits. ap (λ (v : PageStore). v.pending.items) rest ∙ blank.pending ∙ c.in_ok-pending.ensures.same (subst (All IsLsn) (sym oldest_is) fits) ∙ oldest_is;
      entering = both.0;
      have = λ name needs. covered n groups checkpoint c.args.analysis.now names has have (c.in_ok-names.ensures.all checkpoint groups has) name needs;
    }

pub returns-clause-told : goal.returns-clause-told
returns-clause-told g c = λ checkpoint groups has.
    let b = c.in_ok-store.store in
    let noted : PageStore = with_tables b b.frames b.slots c.note_files.new.tables in
    c.in_ok-give_slots.ensures.told checkpoint groups has (told_none noted groups c.in_ok-store.ensures.slots)

pub returns-clause-none : goal.returns-clause-none
returns-clause-none g c = λ k.
    let b = c.in_ok-store.store in
    let noted : PageStore = with_tables b b.frames b.slots c.note_files.new.tables in
    let n : PageStore = c.give_slots.new.self in
    let rest : n ≡ with_tables noted noted.frames n.slots n.tables = c.in_ok-give_slots.ensures.rest in
    ap (λ (v : PageStore). held v.frames k) rest ∙ c.in_ok-store.ensures.none k

pub returns-clause-tidy : goal.returns-clause-tidy
returns-clause-tidy g c =
    let b = c.in_ok-store.store in
    let noted : PageStore = with_tables b b.frames b.slots c.note_files.new.tables in
    let n : PageStore = c.give_slots.new.self in
    let blank = c.in_ok-store.ensures in
    let rest : n ≡ with_tables noted noted.frames n.slots n.tables = c.in_ok-give_slots.ensures.rest in
    tidy_entered n (c.in_ok-give_slots.ensures.tidy (tidy_blank noted blank.slots)) (subst (λ (v : PageStore). Writes v.writer []) (sym rest) blank.empty)
    (subst (All IsLsn) (sym (ap (λ (v : PageStore). v.pending.items) rest ∙ blank.pending)) c.in_ok-pending.ensures.fits)

pub returns-in_err-give_slots-clause-many : goal.returns-in_err-give_slots-clause-many
returns-in_err-give_slots-clause-many g c = λ checkpoint groups has.
    let e = err_from_is_err_and c.from_residual-in_err-give_slots.result c.from_residual-in_err-give_slots.ensures.1 in
    let names : List (List ℕ) = c.in_ok-names.names.items in
    if_err_at c.from_residual-in_err-give_slots.result (AreMany groups) e.0 c.in_err-give_slots.field-0.0 e.1 e.2
    (are_many groups c.in_ok-store.store.slots names c.in_err-give_slots.field-0.0 c.in_ok-store.ensures.slots c.in_ok-names.ensures.ordered (c.in_ok-names.ensures.all checkpoint groups has)
    (subst (λ (l : List (List ℕ)). HasMany (length c.in_ok-store.store.slots + length l) c.in_err-give_slots.field-0.0) c.as_slice.ensures.value c.in_err-give_slots.ensures.many))
