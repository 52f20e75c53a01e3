use Rattle.std.proofs.Common.{◌≡◌, ◌∙◌, ◌∷◌, [], ◌++◌, ◌+◌, ℕ, true, is_ok, List, length, ap, refl, sym}
use Rattle.aria_record.specs.declared.record.Record.TheVariants.{Redo}
use Rattle.aria_record.specs.Logged.{lsn_at_place}
use Rattle.aria_cache.specs.declared.page_id.PageId.{PageId}
use Rattle.aria_cache.specs.Key.{key_of}
use Rattle.aria_recovery.specs.declared.life.Told.{Told}
use Rattle.aria_recovery.specs.Noted.{told_of}
use Rattle.aria_recovery.specs.Tables.{life_of}
use Rattle.aria_recovery.specs.Midway.{raised, midway, is_counted}
use Rattle.aria_pager.specs.PageStore.{spot_of}
use Rattle.aria_pager.specs.Steps.{OfHold}
use Rattle.aria_pager.specs.Redone.{OfEdited, is_log_damage}
use Rattle.aria_pager.proofs.Again.{redoes_aside, redoes_alike, without_slot, not_counted, entry_page, entry_passed, if_err_both, edited_before, of_edited}
use Rattle.aria_pager.proofs.page_store.PageStore.redo_on.Goals as goal

pub returns-in_default-clause-redoes : goal.returns-in_default-clause-redoes
returns-in_default-clause-redoes g c = λ told base start groups forced before after place at passed rest kind edits group some is.
    redoes_aside c.args.self.now (g.H.Host.state c.args.host.now) base start groups forced (length before) passed (passed ++ Redo kind c.args.name.now c.args.part c.args.page edits ∷ [])
    (λ f b left. g.met.H.Host.only_now c.args.host.now f b told left) (g.met.H.Host.reads_now c.args.host.now told)
    (without_slot c.args.self.now (g.H.Host.state c.args.host.now) (midway groups (length before) passed (spot_of c.args.self.now)) base start groups forced (length before) passed kind c.args.name.now c.args.part c.args.page edits is.pager (c.in_default.ensures.none refl)) is

pub returns-then-not-is_counted-clause-redoes : goal.returns-then-not-is_counted-clause-redoes
returns-then-not-is_counted-clause-redoes g c = λ told base start groups forced before after place at passed rest kind edits group some is.
    redoes_aside c.args.self.now (g.H.Host.state c.args.host.now) base start groups forced (length before) passed (passed ++ Redo kind c.args.name.now c.args.part c.args.page edits ∷ [])
    (λ f b left. g.met.H.Host.only_now c.args.host.now f b told left) (g.met.H.Host.reads_now c.args.host.now told)
    (not_counted c.args.self.now (g.H.Host.state c.args.host.now) (midway groups (length before) passed (spot_of c.args.self.now)) base start groups before after _ forced c.in-Some.slot passed kind c.args.name.now c.args.part c.args.page edits is at.whole c.in-Some.ensures.known
    (ap (λ (t : Told). is_counted t (lsn_at_place place)) (sym (c.told.ensures at.knows.checkpoint groups at.knows.has)) ∙ ap (is_counted c.told.result) (sym at.lsn_is) ∙ sym c.is_counted.ensures ∙ c.if-not-is_counted.true)) is

pub returns-clause-redoes : goal.returns-clause-redoes
returns-clause-redoes g c = λ told base start groups forced before after place at passed rest kind edits group some is.
    let store = c.args.self.now in
    let s = g.H.Host.state c.args.host.now in
    let t = g.H.Host.state c.redo_page.new.host in
    let name : List ℕ = c.args.name.now in
    let here : PageId = record { slot = c.in-Some.slot; part = c.args.part; page = c.args.page } in
    let counts : is_counted (told_of (life_of name groups).last) (lsn_at_place place) ≡ true =
    ap (λ (t : Told). is_counted t (lsn_at_place place)) (sym (c.told.ensures at.knows.checkpoint groups at.knows.has)) ∙ ap (is_counted c.told.result) (sym at.lsn_is) ∙ sym c.is_counted.ensures ∙ c.if-not-is_counted.false in
    let page = entry_page store s base start groups before after (record { at = place; group = c.args.group.now }) forced here passed rest kind name edits is at.whole group some c.requires.low c.in-Some.ensures.known counts in
    redoes_alike store c.redo_page.new.self s t (raised (key_of here) (length before + 1) (midway groups (length before) passed (spot_of store))) (midway groups (length before) (passed ++ Redo kind name c.args.part c.args.page edits ∷ []) (spot_of store)) base start groups forced (is_ok c.redo_page.result)
    (entry_passed store s base start groups before after (record { at = place; group = c.args.group.now }) forced here passed kind name edits is some page)
    (c.redo_page.ensures.redoes told (midway groups (length before) passed (spot_of store)) base start groups forced is before after place at.lsn_is page)

pub returns-clause-edited : goal.returns-clause-edited
returns-clause-edited g c = λ told base start groups forced before after place at passed rest kind edits group some is.
    let store = c.args.self.now in
    let s = g.H.Host.state c.args.host.now in
    let t = g.H.Host.state c.redo_page.new.host in
    let name : List ℕ = c.args.name.now in
    let here : PageId = record { slot = c.in-Some.slot; part = c.args.part; page = c.args.page } in
    let counts : is_counted (told_of (life_of name groups).last) (lsn_at_place place) ≡ true =
    ap (λ (t : Told). is_counted t (lsn_at_place place)) (sym (c.told.ensures at.knows.checkpoint groups at.knows.has)) ∙ ap (is_counted c.told.result) (sym at.lsn_is) ∙ sym c.is_counted.ensures ∙ c.if-not-is_counted.false in
    let page = entry_page store s base start groups before after (record { at = place; group = c.args.group.now }) forced here passed rest kind name edits is at.whole group some c.requires.low c.in-Some.ensures.known counts in
    let n = c.redo_page.new.self in
    if_err_both c.redo_page.result (OfHold g.H.Host.tells n (key_of here) s t) (λ fault. is_log_damage fault ≡ true → n.log ≡ store.log) (OfEdited store.log groups t.folder)
    (λ fault held late. edited_before store.log n.log groups t.folder fault
    (of_edited g.H.Host.tells store n (midway groups (length before) passed (spot_of store)) groups before after (record { at = place; group = c.args.group.now }) (key_of here) _ s t told page c.redo_page.ensures.same.slots fault held) late)
    c.redo_page.ensures.cause.only (c.redo_page.ensures.late told is.idle)
