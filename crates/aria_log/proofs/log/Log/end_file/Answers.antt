use Rattle.std.proofs.Common.{◌∙◌, ◌/◌, sym, ap, ℕ}
use Rattle.aria_host.specs.declared.file_name.FileName.TheVariants.{Log}
use Rattle.aria_host.specs.Folder.{Folder}
use Rattle.aria_host.specs.Calls.{extent_of}
use Rattle.aria_log.specs.Log.{HoldsAll}
use Rattle.aria_host.proofs.Moments.{one_after}
use Rattle.aria_log.proofs.Staying.{look_opened}
use Rattle.aria_log.proofs.Cutting.{look_keeps, found_none}
use Rattle.aria_log.proofs.Blank.{none_end, looked_end}
use Rattle.aria_log.proofs.log.Log.end_file.Goals as goal

pub returns-in_err-look-clause-moments : goal.returns-in_err-look-clause-moments
returns-in_err-look-clause-moments g c = λ told base groups is.
    look_keeps c.args.self.now (g.H.Host.state c.args.host.now) (g.H.Host.state c.look.new.self) base groups _ (λ f b left. g.met.H.Host.only_now c.args.host.now f b told left) (c.in_err-look.ensures.same told) is

pub returns-in-None-clause-ended : goal.returns-in-None-clause-ended
returns-in-None-clause-ended g c = λ told base groups is.
    let old = g.H.Host.state c.args.host.now in
    none_end c.args.self.now old (g.H.Host.state c.look.new.self) base groups is (c.in_ok-look.ensures.same told)
    (ap (λ (f : ℕ). old.folder (Log f)) (sym c.file_of.ensures.is) ∙ found_none (old.folder (Log c.file_of.result)) (sym c.in-None.is ∙ c.in_ok-look.ensures.found told))

pub returns-in-None-clause-moments : goal.returns-in-None-clause-moments
returns-in-None-clause-moments g c = λ told base groups is.
    look_keeps c.args.self.now (g.H.Host.state c.args.host.now) (g.H.Host.state c.look.new.self) base groups _ (λ f b left. g.met.H.Host.only_now c.args.host.now f b told left) (c.in_ok-look.ensures.same told) is

pub end_pages-requires-clause-opened : goal.end_pages-requires-clause-opened
end_pages-requires-clause-opened g c = λ told.
    let (base, groups, is) = c.requires.opened told in
    (base, groups, look_opened c.args.self.now (g.H.Host.state c.args.host.now) (g.H.Host.state c.look.new.self) base groups _ (c.in_ok-look.ensures.same told) is)

pub end_pages-requires-clause-found : goal.end_pages-requires-clause-found
end_pages-requires-clause-found g c = λ told.
    let old = g.H.Host.state c.args.host.now in
    sym c.in-Some.is ∙ c.in_ok-look.ensures.found told ∙ ap (λ (f : ℕ). extent_of (old.folder (Log f))) c.file_of.ensures.is
    ∙ ap (λ (x : Folder). extent_of (x (Log (c.args.self.now.number / 1024)))) (sym (c.in_ok-look.ensures.same told).folder)

pub returns-in_err-end_pages-in-Some-clause-moments : goal.returns-in_err-end_pages-in-Some-clause-moments
returns-in_err-end_pages-in-Some-clause-moments g c = λ told base groups is.
    let old = g.H.Host.state c.args.host.now in
    let mid = g.H.Host.state c.look.new.self in
    one_after old mid (g.H.Host.state c.end_pages.new.host)
    (look_keeps c.args.self.now old mid base groups _ (λ f b left. g.met.H.Host.only_now c.args.host.now f b told left) (c.in_ok-look.ensures.same told) is)
    (c.in_err-end_pages-in-Some.ensures.moments told base groups (look_opened c.args.self.now old mid base groups _ (c.in_ok-look.ensures.same told) is))

pub returns-in_ok-end_pages-in-Some-clause-ended : goal.returns-in_ok-end_pages-in-Some-clause-ended
returns-in_ok-end_pages-in-Some-clause-ended g c = λ told base groups is.
    let old = g.H.Host.state c.args.host.now in
    let mid = g.H.Host.state c.look.new.self in
    looked_end c.args.self.now old mid (g.H.Host.state c.end_pages.new.host) base groups _ (c.in_ok-look.ensures.same told)
    (c.in_ok-end_pages-in-Some.ensures.ended told base groups (look_opened c.args.self.now old mid base groups _ (c.in_ok-look.ensures.same told) is))

pub returns-in_ok-end_pages-in-Some-clause-moments : goal.returns-in_ok-end_pages-in-Some-clause-moments
returns-in_ok-end_pages-in-Some-clause-moments g c = λ told base groups is.
    let old = g.H.Host.state c.args.host.now in
    let mid = g.H.Host.state c.look.new.self in
    one_after old mid (g.H.Host.state c.end_pages.new.host)
    (look_keeps c.args.self.now old mid base groups _ (λ f b left. g.met.H.Host.only_now c.args.host.now f b told left) (c.in_ok-look.ensures.same told) is)
    (c.in_ok-end_pages-in-Some.ensures.moments told base groups (look_opened c.args.self.now old mid base groups _ (c.in_ok-look.ensures.same told) is))
