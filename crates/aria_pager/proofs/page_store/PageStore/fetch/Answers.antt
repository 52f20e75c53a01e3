use Rattle.std.proofs.Common.{◌≡◌, ◌∙◌, ℕ, subst, Bool, true, false, cond, is_ok, is_some, nat_eq, Option, Some, None, ap, sym, refl}
use Rattle.std.specs.Map.{update}
use Rattle.std.proofs.lemmas.Bool.{eq-eqb}
use Rattle.std.proofs.lemmas.Result.{err_from_is_err_and}
use Rattle.aria_host.specs.Folder.{Folder}
use Rattle.aria_cache.specs.Frames.{Held, held, shown, is_pinned}
use Rattle.aria_cache.specs.Key.{key_of}
use Rattle.aria_pager.specs.PageStore.{raw}
use Rattle.aria_pager.specs.Steps.{IsRead}
use Rattle.aria_pager.specs.Looks.{KeepsPages}
use Rattle.aria_pager.proofs.Looking.{on_err, looks_frames, looks_inserted}
use Rattle.aria_pager.proofs.Loading.{known_open}
use Rattle.aria_pager.proofs.Stepping.{still_step, look_step, same_step, inserted_step, with_frames}
use Rattle.aria_pager.proofs.page_store.PageStore.fetch.Goals as goal

none_held : (o : Option Held) → is_some o ≡ false → o ≡ None
none_held None e = refl
none_held (Some h) e = absurd (cc)

pub returns-then-find-clause-steps : goal.returns-then-find-clause-steps
returns-then-find-clause-steps g c = λ told redone base start groups forced is.
    let s = g.H.Host.state c.args.host.now in
    still_step c.args.self.now (with_frames c.args.self.now c.find.new.self) s redone base start groups forced true (λ f b left. g.met.H.Host.only_now c.args.host.now f b told left) (g.met.H.Host.reads_now c.args.host.now told)
    (λ on p. same_step c.args.self.now c.find.new.self s redone base start groups forced (ap (λ v k. is_pinned record { cache = c.find.new.self.cache; pins = v } k) c.find.ensures.pins) p c.find.ensures.held) is

pub returns-then-find-clause-held : goal.returns-then-find-clause-held
returns-then-find-clause-held g c = ap (λ (m : ℕ → Option Held). is_some (m (key_of c.args.at))) c.find.ensures.held ∙ ap (λ (k : ℕ). is_some (held c.args.self.now.frames k)) (sym c.key-key.ensures) ∙ sym c.find.ensures.found ∙ c.if-find.true

pub returns-then-find-clause-front : goal.returns-then-find-clause-front
returns-then-find-clause-front g c = c.find.ensures.front c.if-find.true ∙ ap (held c.args.self.now.frames) c.key-key.ensures ∙ sym (ap (λ (m : ℕ → Option Held). m (key_of c.args.at)) c.find.ensures.held)

pub read_frame-requires-clause-pager : goal.read_frame-requires-clause-pager
read_frame-requires-clause-pager g c = λ told.
    let p = c.requires.pager told in
    (p.0, p.1, p.2, p.3, p.4, same_step c.args.self.now c.find.new.self (g.H.Host.state c.args.host.now) p.0 p.1 p.2 p.3 p.4 (ap (λ v k. is_pinned record { cache = c.find.new.self.cache; pins = v } k) c.find.ensures.pins) p.5 c.find.ensures.held)

pub read_frame-requires-clause-absent : goal.read_frame-requires-clause-absent
read_frame-requires-clause-absent g c =
    let key : ℕ = key_of c.args.at in
    none_held _ (ap (λ (m : ℕ → Option Held). is_some (m key)) c.find.ensures.held ∙ ap (λ (k : ℕ). is_some (held c.args.self.now.frames k)) (sym c.key-key.ensures) ∙ sym c.find.ensures.found ∙ c.if-find.false)

pub returns-in_err-frame-clause-steps : goal.returns-in_err-frame-clause-steps
returns-in_err-frame-clause-steps g c = λ told redone base start groups forced is.
    let p = err_from_is_err_and c.from_residual.result c.from_residual.ensures.1 in
    let failed : is_ok c.from_residual.result ≡ false = ap is_ok p.1 in
    look_step c.args.self.now (with_frames c.args.self.now c.find.new.self) (g.H.Host.state c.args.host.now) (g.H.Host.state c.read_frame.new.host) redone base start groups forced _ (λ f b left. g.met.H.Host.only_now c.args.host.now f b told left)
    (g.met.H.Host.reads_now c.read_frame.new.host told) (c.in_err-frame.ensures.same told) (λ on. absurd (let e : true ≡ false = sym on ∙ failed in (cc))) is

pub insert-requires-clause-absent : goal.insert-requires-clause-absent
insert-requires-clause-absent g c = none_held _ (ap (λ (m : ℕ → Option Held). is_some (m c.key-key.result)) c.find.ensures.held ∙ sym c.find.ensures.found ∙ c.if-find.false)

pub returns-in_err-insert-clause-steps : goal.returns-in_err-insert-clause-steps
returns-in_err-insert-clause-steps g c = λ told redone base start groups forced is.
    let p = err_from_is_err_and c.from_residual-in_err-insert.result c.from_residual-in_err-insert.ensures.1 in
    let failed : is_ok c.from_residual-in_err-insert.result ≡ false = ap is_ok p.1 in
    look_step c.args.self.now (with_frames c.args.self.now c.insert.new.self) (g.H.Host.state c.args.host.now) (g.H.Host.state c.read_frame.new.host) redone base start groups forced _ (λ f b left. g.met.H.Host.only_now c.args.host.now f b told left)
    (g.met.H.Host.reads_now c.read_frame.new.host told) (c.in_ok-frame.ensures.same told) (λ on. absurd (let e : true ≡ false = sym on ∙ failed in (cc))) is

pub returns-clause-steps : goal.returns-clause-steps
returns-clause-steps g c = λ told redone base start groups forced is.
    let store = c.args.self.now in
    let s = g.H.Host.state c.args.host.now in
    let t = g.H.Host.state c.read_frame.new.host in
    let key : ℕ = key_of c.args.at in
    let h : Held = shown c.in_ok-frame.frame in
    let pins : is_pinned c.insert.new.self ≡ is_pinned store.frames = ap (λ v k. is_pinned record { cache = c.insert.new.self.cache; pins = v } k) (c.insert.ensures.pins ∙ c.find.ensures.pins) in
    let map : held c.insert.new.self ≡ update nat_eq (held store.frames) key (Some h) = c.in_ok-insert.ensures.ok ∙ ap (λ (k : ℕ). update nat_eq (held c.find.new.self) k (Some h)) c.key-key.ensures ∙ ap (λ (m : ℕ → Option Held). update nat_eq m key (Some h)) c.find.ensures.held in
    let none : held store.frames key ≡ None = none_held _ (ap (λ (k : ℕ). is_some (held store.frames k)) (sym c.key-key.ensures) ∙ sym c.find.ensures.found ∙ c.if-find.false) in
    let same = c.in_ok-frame.ensures.same told in
    let r = c.in_ok-frame.ensures.read told in
    let read : IsRead store t key h = record { page = ap (λ (d : Folder). raw store d key) same.folder ∙ r.page; below = r.below; clean = r.clean } in
    look_step store (with_frames store c.insert.new.self) s t redone base start groups forced true (λ f b left. g.met.H.Host.only_now c.args.host.now f b told left) (g.met.H.Host.reads_now c.read_frame.new.host told) same
    (λ on p. inserted_step store c.insert.new.self t redone base start groups forced pins p key h (known_open store c.args.at c.requires.low c.requires.open) none map read) is

pub returns-clause-held : goal.returns-clause-held
returns-clause-held g c =
    let h : Held = shown c.in_ok-frame.frame in
    let key : ℕ = key_of c.args.at in
    ap (λ (m : ℕ → Option Held). is_some (m key)) c.in_ok-insert.ensures.ok ∙ ap (λ (k : ℕ). is_some (cond (nat_eq k key) (Some h) (held c.find.new.self key))) c.key-key.ensures
    ∙ ap (λ (b : Bool). is_some (cond b (Some h) (held c.find.new.self key))) (eq-eqb key key refl)

pub returns-clause-front : goal.returns-clause-front
returns-clause-front g c =
    let h : Held = shown c.in_ok-frame.frame in
    let key : ℕ = key_of c.args.at in
    c.in_ok-insert.ensures.front
    ∙ sym (ap (λ (m : ℕ → Option Held). m key) c.in_ok-insert.ensures.ok ∙ ap (λ (k : ℕ). cond (nat_eq k key) (Some h) (held c.find.new.self key)) c.key-key.ensures ∙ ap (λ (b : Bool). cond b (Some h) (held c.find.new.self key)) (eq-eqb key key refl))

pub returns-then-find-clause-pages : goal.returns-then-find-clause-pages
returns-then-find-clause-pages g c = λ told tidy. looks_frames c.args.self.now c.find.new.self (g.H.Host.state c.args.host.now).folder tidy c.find.ensures.held

pub returns-in_err-frame-clause-pages : goal.returns-in_err-frame-clause-pages
returns-in_err-frame-clause-pages g c = λ told tidy.
    let store = c.args.self.now in
    let d = (g.H.Host.state c.args.host.now).folder in
    subst (λ (f : Folder). KeepsPages store (with_frames store c.find.new.self) d f) (sym (c.in_err-frame.ensures.same told).folder) (looks_frames store c.find.new.self d tidy c.find.ensures.held)

pub returns-in_err-insert-clause-pages : goal.returns-in_err-insert-clause-pages
returns-in_err-insert-clause-pages g c = λ told tidy.
    let store = c.args.self.now in
    let d = (g.H.Host.state c.args.host.now).folder in
    subst (λ (f : Folder). KeepsPages store (with_frames store c.insert.new.self) d f) (sym (c.in_ok-frame.ensures.same told).folder) (looks_frames store c.insert.new.self d tidy (c.in_err-insert.ensures.err ∙ c.find.ensures.held))

pub returns-clause-pages : goal.returns-clause-pages
returns-clause-pages g c = λ told tidy.
    let store = c.args.self.now in
    let s = g.H.Host.state c.args.host.now in
    let key : ℕ = key_of c.args.at in
    let h : Held = shown c.in_ok-frame.frame in
    let map : held c.insert.new.self ≡ update nat_eq (held store.frames) key (Some h) = c.in_ok-insert.ensures.ok ∙ ap (λ (k : ℕ). update nat_eq (held c.find.new.self) k (Some h)) c.key-key.ensures ∙ ap (λ (m : ℕ → Option Held). update nat_eq m key (Some h)) c.find.ensures.held in
    let none : held store.frames key ≡ None = none_held _ (ap (λ (k : ℕ). is_some (held store.frames k)) (sym c.key-key.ensures) ∙ sym c.find.ensures.found ∙ c.if-find.false) in
    let r = c.in_ok-frame.ensures.read told in
    let read : IsRead store s key h = record { page = r.page; below = r.below; clean = r.clean } in
    subst (λ (f : Folder). KeepsPages store (with_frames store c.insert.new.self) s.folder f) (sym (c.in_ok-frame.ensures.same told).folder) (looks_inserted store c.insert.new.self s key h tidy map none read)

pub returns-in_err-frame-clause-gone : goal.returns-in_err-frame-clause-gone
returns-in_err-frame-clause-gone g c = on_err c.from_residual.result (ap (λ (m : ℕ → Option Held). m (key_of c.args.at)) c.find.ensures.held
    ∙ none_held _ (ap (λ (k : ℕ). is_some (held c.args.self.now.frames k)) (sym c.key-key.ensures) ∙ sym c.find.ensures.found ∙ c.if-find.false))

pub returns-in_err-insert-clause-gone : goal.returns-in_err-insert-clause-gone
returns-in_err-insert-clause-gone g c = on_err c.from_residual-in_err-insert.result (ap (λ (m : ℕ → Option Held). m (key_of c.args.at)) (c.in_err-insert.ensures.err ∙ c.find.ensures.held)
    ∙ none_held _ (ap (λ (k : ℕ). is_some (held c.args.self.now.frames k)) (sym c.key-key.ensures) ∙ sym c.find.ensures.found ∙ c.if-find.false))
