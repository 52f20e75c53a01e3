use Rattle.std.proofs.Common.{◌≡◌, ◌∙◌, true, false, is_ok, is_some, Option, Some, None, ap, sym, refl, arith}
use Rattle.std.specs.Prelude.{option_map, IsTrue}
use Rattle.std.proofs.lemmas.Result.{err_from_is_err_and}
use Rattle.aria_cache.specs.Frames.{Held, held, shown, is_pinned}
use Rattle.aria_cache.specs.declared.frames.Frame.{Frame}
use Rattle.aria_pager.proofs.Viewing.{tidy_same}
use Rattle.aria_pager.proofs.Looking.{looks_on, looks_gone, looks_taken, taken_none}
use Rattle.aria_pager.proofs.Stepping.{still_step, steps_on, fault_on, taken_step, with_frames}
use Rattle.aria_pager.proofs.page_store.PageStore.evict.Goals as goal

there : (o : Option Frame) → is_some (option_map shown o) ≡ is_some o
there None = refl
there (Some f) = refl

pub returns-in_default-clause-steps : goal.returns-in_default-clause-steps
returns-in_default-clause-steps g c = λ told redone base start groups forced is.
    still_step c.args.self.now c.args.self.now (g.H.Host.state c.args.host.now) redone base start groups forced false (λ f b left. g.met.H.Host.only_now c.args.host.now f b told left) (g.met.H.Host.reads_now c.args.host.now told) (λ on p. p) is

pub returns-in_err-write_back-clause-steps : goal.returns-in_err-write_back-clause-steps
returns-in_err-write_back-clause-steps g c = λ told redone base start groups forced is.
    let p = err_from_is_err_and c.from_residual.result c.from_residual.ensures.1 in
    fault_on c.args.self.now c.write_back.new.self c.write_back.new.self (g.H.Host.state c.args.host.now) (g.H.Host.state c.write_back.new.host) redone base start groups forced false (is_ok c.from_residual.result) (ap is_ok p.1)
    (c.in_err-write_back.ensures.steps told redone base start groups forced is)

pub returns-then-is_none-clause-steps : goal.returns-then-is_none-clause-steps
returns-then-is_none-clause-steps g c = λ told redone base start groups forced is.
    fault_on c.args.self.now c.write_back.new.self (with_frames c.write_back.new.self c.remove.new.self) (g.H.Host.state c.args.host.now) (g.H.Host.state c.write_back.new.host) redone base start groups forced true false refl
    (c.in_ok-write_back.ensures.steps told redone base start groups forced is)

pub returns-clause-steps : goal.returns-clause-steps
returns-clause-steps g c = λ told redone base start groups forced is.
    let old = g.H.Host.state c.args.host.now in
    let mid = g.H.Host.state c.write_back.new.host in
    let store = c.write_back.new.self in
    let first = c.in_ok-write_back.ensures.steps told redone base start groups forced is in
    let pins : is_pinned c.remove.new.self ≡ is_pinned store.frames = ap (λ v k. is_pinned record { cache = store.frames.cache; pins = v } k) c.remove.ensures.pins in
    steps_on c.args.self.now store (with_frames store c.remove.new.self) old mid mid redone base start groups forced true c.in_ok-write_back.ensures.same.opens first
    (still_step store (with_frames store c.remove.new.self) mid redone base start groups first.forced' true (λ f b left. g.met.H.Host.only_now c.write_back.new.host f b told left) (g.met.H.Host.reads_now c.write_back.new.host told)
    (λ on p. taken_step store c.remove.new.self mid redone base start groups first.forced' pins p c.in-Some.key c.remove.ensures.held c.in_ok-write_back.ensures.clean) (first.pager refl))

pub returns-clause-room : goal.returns-clause-room
returns-clause-room g c =
    let on : IsTrue (is_some (held c.write_back.new.self.frames c.in-Some.key)) = sym (ap is_some c.remove.ensures.was) ∙ there c.remove.result ∙ c.if-is_none.ensures in
    let less = c.remove.ensures.count on in
    omega (arith, less, c.count.ensures.most, c.remove.ensures.room)

none_there : (o : Option Frame) (x : Option Held) → option_map shown o ≡ x → is_some o ≡ false → x ≡ None
none_there None x e off = sym e
none_there (Some f) x e off = absurd (cc)

some_there : (o : Option Held) → is_some o ≡ true → (h : Held) × (o ≡ Some h)
some_there None off = absurd (cc)
some_there (Some h) on = (h, refl)

pub returns-then-is_none-clause-pages : goal.returns-then-is_none-clause-pages
returns-then-is_none-clause-pages g c = λ told tidy.
    let store = c.write_back.new.self in
    let t = g.H.Host.state c.write_back.new.host in
    looks_on c.args.self.now store (with_frames store c.remove.new.self) (g.H.Host.state c.args.host.now).folder t.folder t.folder (c.in_ok-write_back.ensures.pages told tidy)
    (looks_gone store c.remove.new.self t.folder c.in-Some.key (tidy_same c.args.self.now store c.in_ok-write_back.ensures.same tidy) c.remove.ensures.held (none_there c.remove.result (held store.frames c.in-Some.key) c.remove.ensures.was c.if-is_none.ensures))

pub returns-clause-pages : goal.returns-clause-pages
returns-clause-pages g c = λ told tidy.
    let p = c.requires.pager told in
    let store = c.write_back.new.self in
    let t = g.H.Host.state c.write_back.new.host in
    let first = c.in_ok-write_back.ensures.steps told p.0 p.1 p.2 p.3 p.4 p.5 in
    let on : is_some (held store.frames c.in-Some.key) ≡ true = sym (ap is_some c.remove.ensures.was) ∙ there c.remove.result ∙ c.if-is_none.ensures in
    let h = some_there (held store.frames c.in-Some.key) on in
    looks_on c.args.self.now store (with_frames store c.remove.new.self) (g.H.Host.state c.args.host.now).folder t.folder t.folder (c.in_ok-write_back.ensures.pages told tidy)
    (looks_taken store c.remove.new.self t p.0 p.1 p.2 p.3 first.forced' c.in-Some.key (tidy_same c.args.self.now store c.in_ok-write_back.ensures.same tidy) (first.pager refl) c.remove.ensures.held c.in_ok-write_back.ensures.clean
    (ap (λ v. is_pinned record { cache = store.frames.cache; pins = v } c.in-Some.key) c.in_ok-write_back.ensures.pins ∙ c.in-Some.ensures.free) h.0 h.1)

pub returns-then-is_none-clause-fewer : goal.returns-then-is_none-clause-fewer
returns-then-is_none-clause-fewer g c = λ k none. taken_none (held c.write_back.new.self.frames) (held c.remove.new.self) c.in-Some.key c.remove.ensures.held k (c.in_ok-write_back.ensures.fewer k none)

pub returns-clause-fewer : goal.returns-clause-fewer
returns-clause-fewer g c = λ k none. taken_none (held c.write_back.new.self.frames) (held c.remove.new.self) c.in-Some.key c.remove.ensures.held k (c.in_ok-write_back.ensures.fewer k none)
