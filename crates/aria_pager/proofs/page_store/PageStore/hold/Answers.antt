use Rattle.std.proofs.Common.{◌≡◌, ◌∙◌, ℕ, true, false, is_ok, is_some, Option, None, Some, List, ap, sym, subst, refl}
use Rattle.std.specs.Prelude.{IsTrue}
use Rattle.std.proofs.lemmas.Result.{err_from_is_err_and}
use Rattle.aria_host.proofs.Answered.{on_ok, on_ok_of}
use Rattle.aria_pager.specs.Redone.{KeepsLog}
use Rattle.aria_pager.proofs.Quiet.{keeps_on}
use Rattle.aria_pager.proofs.Looking.{on_err, looks_on, looks_frames, same_work}
use Rattle.aria_pager.proofs.Viewing.{tidy_same}
use Rattle.aria_cache.specs.Frames.{Held, held, is_pinned}
use Rattle.aria_cache.specs.Key.{key_of}
use Rattle.aria_pager.proofs.Stepping.{still_step, steps_on, fault_on, same_step, same_after, same_frames, with_frames}
use Rattle.aria_pager.proofs.page_store.PageStore.hold.Goals as goal

pub returns-then-find-clause-steps : goal.returns-then-find-clause-steps
returns-then-find-clause-steps g c = λ told redone base start groups forced is.
    let s = g.H.Host.state c.args.host.now in
    still_step c.args.self.now (with_frames c.args.self.now c.find.new.self) s redone base start groups forced true (λ f b left. g.met.H.Host.only_now c.args.host.now f b told left) (g.met.H.Host.reads_now c.args.host.now told)
    (λ on p. same_step c.args.self.now c.find.new.self s redone base start groups forced (ap (λ v k. is_pinned record { cache = c.find.new.self.cache; pins = v } k) c.find.ensures.pins) p c.find.ensures.held) is

pub returns-then-find-clause-held : goal.returns-then-find-clause-held
returns-then-find-clause-held g c = ap (λ (m : ℕ → Option Held). is_some (m (key_of c.args.at))) c.find.ensures.held ∙ ap (λ (k : ℕ). is_some (held c.args.self.now.frames k)) (sym c.key.ensures) ∙ sym c.find.ensures.found ∙ c.if-find.true

pub returns-then-find-clause-front : goal.returns-then-find-clause-front
returns-then-find-clause-front g c = c.find.ensures.front c.if-find.true ∙ ap (held c.args.self.now.frames) c.key.ensures ∙ sym (ap (λ (m : ℕ → Option Held). m (key_of c.args.at)) c.find.ensures.held)

pub make_room-requires : goal.make_room-requires
make_room-requires g c = record {
  pager = λ told.
      let p = c.requires.pager told in
      (p.0, p.1, p.2, p.3, p.4, same_step c.args.self.now c.find.new.self (g.H.Host.state c.args.host.now) p.0 p.1 p.2 p.3 p.4 (ap (λ v k. is_pinned record { cache = c.find.new.self.cache; pins = v } k) c.find.ensures.pins) p.5 c.find.ensures.held);
}

pub returns-in_err-make_room-clause-steps : goal.returns-in_err-make_room-clause-steps
returns-in_err-make_room-clause-steps g c = λ told redone base start groups forced is.
    let store = c.args.self.now in
    let found = with_frames store c.find.new.self in
    let s = g.H.Host.state c.args.host.now in
    let t = g.H.Host.state c.make_room.new.host in
    let e = err_from_is_err_and c.from_residual.result c.from_residual.ensures.1 in
    let first = still_step store found s redone base start groups forced true (λ f b left. g.met.H.Host.only_now c.args.host.now f b told left) (g.met.H.Host.reads_now c.args.host.now told)
    (λ on p. same_step store c.find.new.self s redone base start groups forced (ap (λ v k. is_pinned record { cache = c.find.new.self.cache; pins = v } k) c.find.ensures.pins) p c.find.ensures.held) is in
    fault_on store c.make_room.new.self c.make_room.new.self s t redone base start groups forced false (is_ok c.from_residual.result) (ap is_ok e.1)
    (steps_on store found c.make_room.new.self s s t redone base start groups forced false refl first (c.in_err-make_room.ensures.steps told redone base start groups first.forced' (first.pager refl)))

pub fetch-requires-clause-pager : goal.fetch-requires-clause-pager
fetch-requires-clause-pager g c = λ told.
    let p = c.requires.pager told in
    let st = c.in_ok-make_room.ensures.steps told p.0 p.1 p.2 p.3 p.4
    (same_step c.args.self.now c.find.new.self (g.H.Host.state c.args.host.now) p.0 p.1 p.2 p.3 p.4 (ap (λ v k. is_pinned record { cache = c.find.new.self.cache; pins = v } k) c.find.ensures.pins) p.5 c.find.ensures.held) in
    (p.0, p.1, p.2, p.3, st.forced', st.pager refl)

pub fetch-requires-clause-open : goal.fetch-requires-clause-open
fetch-requires-clause-open g c = subst (λ (f : ℕ → Option (List ℕ)). IsTrue (is_some (f c.args.at.slot))) (sym c.in_ok-make_room.ensures.same.slots) c.requires.open

pub returns-clause-steps : goal.returns-clause-steps
returns-clause-steps g c = λ told redone base start groups forced is.
    let store = c.args.self.now in
    let found = with_frames store c.find.new.self in
    let room = c.make_room.new.self in
    let s = g.H.Host.state c.args.host.now in
    let m = g.H.Host.state c.make_room.new.host in
    let t = g.H.Host.state c.fetch.new.host in
    let first = still_step store found s redone base start groups forced true (λ f b left. g.met.H.Host.only_now c.args.host.now f b told left) (g.met.H.Host.reads_now c.args.host.now told)
    (λ on p. same_step store c.find.new.self s redone base start groups forced (ap (λ v k. is_pinned record { cache = c.find.new.self.cache; pins = v } k) c.find.ensures.pins) p c.find.ensures.held) is in
    let both = steps_on store found room s s m redone base start groups forced true refl first (c.in_ok-make_room.ensures.steps told redone base start groups first.forced' (first.pager refl)) in
    steps_on store room c.fetch.new.self s m t redone base start groups forced (is_ok c.fetch.result) c.in_ok-make_room.ensures.same.opens both (c.fetch.ensures.steps told redone base start groups both.forced' (both.pager refl))

pub returns-clause-same : goal.returns-clause-same
returns-clause-same g c = same_after c.args.self.now c.make_room.new.self c.fetch.new.self (same_frames c.args.self.now c.make_room.new.self c.find.new.self c.in_ok-make_room.ensures.same) c.fetch.ensures.same

pub returns-clause-quiet : goal.returns-clause-quiet
returns-clause-quiet g c = λ told idle. on_ok c.fetch.result _ (λ done.
    let room = c.in_ok-make_room.ensures.quiet told idle in
    let first : KeepsLog c.args.self.now c.make_room.new.self (g.H.Host.state c.args.host.now).folder (g.H.Host.state c.make_room.new.host).folder = record { log = room.log; files = room.files } in
    keeps_on c.args.self.now c.make_room.new.self c.fetch.new.self (g.H.Host.state c.args.host.now).folder (g.H.Host.state c.make_room.new.host).folder (g.H.Host.state c.fetch.new.host).folder first
    (on_ok_of c.fetch.result _ (c.fetch.ensures.quiet told (ap (λ v. v.used) first.log ∙ idle)) done))

pub returns-then-find-clause-pages : goal.returns-then-find-clause-pages
returns-then-find-clause-pages g c = λ told tidy. looks_frames c.args.self.now c.find.new.self (g.H.Host.state c.args.host.now).folder tidy c.find.ensures.held

pub returns-in_err-make_room-clause-pages : goal.returns-in_err-make_room-clause-pages
returns-in_err-make_room-clause-pages g c = λ told tidy.
    let store = c.args.self.now in
    let found = with_frames store c.find.new.self in
    let d = (g.H.Host.state c.args.host.now).folder in
    looks_on store found c.make_room.new.self d d (g.H.Host.state c.make_room.new.host).folder (looks_frames store c.find.new.self d tidy c.find.ensures.held)
    (c.in_err-make_room.ensures.pages told (tidy_same store found (same_work store c.find.new.self) tidy))

pub returns-clause-pages : goal.returns-clause-pages
returns-clause-pages g c = λ told tidy.
    let store = c.args.self.now in
    let found = with_frames store c.find.new.self in
    let room = c.make_room.new.self in
    let d = (g.H.Host.state c.args.host.now).folder in
    let m = (g.H.Host.state c.make_room.new.host).folder in
    let tidy' = tidy_same store found (same_work store c.find.new.self) tidy in
    looks_on store room c.fetch.new.self d m (g.H.Host.state c.fetch.new.host).folder
    (looks_on store found room d d m (looks_frames store c.find.new.self d tidy c.find.ensures.held) (c.in_ok-make_room.ensures.pages told tidy'))
    (c.fetch.ensures.pages told (tidy_same found room c.in_ok-make_room.ensures.same tidy'))

none_held : (o : Option Held) → is_some o ≡ false → o ≡ None
none_held None e = refl
none_held (Some h) e = absurd (cc)

pub returns-in_err-make_room-clause-gone : goal.returns-in_err-make_room-clause-gone
returns-in_err-make_room-clause-gone g c = on_err c.from_residual.result (c.in_err-make_room.ensures.fewer (key_of c.args.at) (ap (λ (m : ℕ → Option Held). m (key_of c.args.at)) c.find.ensures.held
    ∙ none_held _ (ap (λ (k : ℕ). is_some (held c.args.self.now.frames k)) (sym c.key.ensures) ∙ sym c.find.ensures.found ∙ c.if-find.false)))
