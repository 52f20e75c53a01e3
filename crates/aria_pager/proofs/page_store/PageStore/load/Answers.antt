use Rattle.std.proofs.Common.{◌≡◌, ◌∙◌, ◌<◌, ℕ, is_ok, is_some, Option, Some, List, [], length, ap, sym, subst, refl}
use Rattle.std.specs.Prelude.{IsTrue, IfSome, unwrap_or}
use Rattle.aria_host.specs.declared.fault.Fault.{Fault}
use Rattle.aria_host.specs.declared.file_name.FileName.{FileName}
use Rattle.aria_host.proofs.Answered.{on_ok, on_ok_of}
use Rattle.aria_cache.specs.Calls.{fault_of}
use Rattle.aria_cache.specs.PageState.{table_file}
use Rattle.aria_recovery.specs.Frames.{all_of}
use Rattle.aria_pager.specs.PageStore.{name_at, with_rest}
use Rattle.aria_pager.specs.View.{page_counts, page_bodies}
use Rattle.aria_pager.specs.Laws.{stays_none}
use Rattle.aria_pager.proofs.Viewing.{counts_same, tidy_same}
use Rattle.aria_pager.proofs.Lending.{page_low, loaded_shown}
use Rattle.aria_pager.proofs.Keeping.{was_ok, same_rest, tidy_rest, stays_step}
use Rattle.aria_pager.proofs.Looking.{looks_on, looks_none}
use Rattle.aria_pager.proofs.Showing.{looks_rest}
use Rattle.aria_pager.proofs.page_store.PageStore.load.Goals as goal

pub returns-in-Some-clause-moves : goal.returns-in-Some-clause-moves
returns-in-Some-clause-moves g c = λ told. stays_none c.args.self.now (g.H.Host.state c.args.host.now) (λ f b left. g.met.H.Host.only_now c.args.host.now f b told left)

pub returns-in-Some-clause-keeps : goal.returns-in-Some-clause-keeps
returns-in-Some-clause-keeps g c = c.in-Some.is

pub returns-in-Some-clause-again : goal.returns-in-Some-clause-again
returns-in-Some-clause-again g c = subst (λ (o : Option Fault). IfSome o (λ kept. Some c.in-Some.fault ≡ Some kept)) (sym c.in-Some.is) refl

pub hold-answer-requires-clause-pager : goal.hold-answer-requires-clause-pager
hold-answer-requires-clause-pager g c = λ told. let is = c.requires.stands told in (all_of is.2, is.0, is.1, is.2, is.3, is.4.pager c.in_default.is)

pub hold-answer-requires-clause-low : goal.hold-answer-requires-clause-low
hold-answer-requires-clause-low g c = page_low c.args.self.now c.args.at.slot c.args.at.part c.args.at.page c.requires.tidy c.requires.open c.requires.below

pub returns-clause-tidy : goal.returns-clause-tidy
returns-clause-tidy g c =
    let mid = c.hold-answer.new.self in
    let tidy = tidy_same c.args.self.now mid c.hold-answer.ensures.same c.requires.tidy in
    tidy_rest mid mid.in_group mid.made c.more_lent-self.result c.fault_in-self.result (λ off none. tidy.closed off (c.hold-answer.ensures.same.kept ∙ c.in_default.is)) (λ none. c.hold-answer.ensures.same.kept ∙ c.in_default.is) tidy

pub returns-clause-moves : goal.returns-clause-moves
returns-clause-moves g c = λ told.
    let mid = c.hold-answer.new.self in
    stays_step c.args.self.now mid mid.in_group mid.made c.more_lent-self.result c.fault_in-self.result (g.H.Host.state c.args.host.now) (g.H.Host.state c.hold-answer.new.host) (is_ok c.hold-answer.result)
    c.hold-answer.ensures.same c.in_default.is (λ none. was_ok c.hold-answer.result (sym c.fault_in-self.ensures ∙ none)) (λ base start groups forced is. c.hold-answer.ensures.steps told (all_of groups) base start groups forced is)

pub returns-clause-same : goal.returns-clause-same
returns-clause-same g c = same_rest c.args.self.now c.hold-answer.new.self c.more_lent-self.result c.fault_in-self.result c.hold-answer.ensures.same

pub returns-clause-pages : goal.returns-clause-pages
returns-clause-pages g c = λ told.
    let mid = c.hold-answer.new.self in
    let d = (g.H.Host.state c.hold-answer.new.host).folder in
    looks_on c.args.self.now mid (with_rest mid mid.in_group mid.made c.more_lent-self.result c.fault_in-self.result) (g.H.Host.state c.args.host.now).folder d d (c.hold-answer.ensures.pages told c.requires.tidy)
    (looks_rest mid mid.in_group mid.made c.more_lent-self.result c.fault_in-self.result d)

pub returns-in-Some-clause-pages : goal.returns-in-Some-clause-pages
returns-in-Some-clause-pages g c = λ told. looks_none c.args.self.now (g.H.Host.state c.args.host.now).folder

pub returns-clause-loaded : goal.returns-clause-loaded
returns-clause-loaded g c = λ told. on_ok c.hold-answer.result _ (λ on.
    let store = c.args.self.now in
    let mid = c.hold-answer.new.self in
    let at = c.args.at in
    let t = g.H.Host.state c.hold-answer.new.host in
    let same = c.hold-answer.ensures.same in
    let named : name_at mid at.slot ≡ name_at store at.slot = ap (λ (f : ℕ → Option (List ℕ)). f at.slot) same.slots in
    let bodies = (c.hold-answer.ensures.pages told c.requires.tidy).bodies in
    let below : at.page < page_counts mid (table_file (unwrap_or (name_at mid at.slot) []) at.part) =
    subst (λ (o : Option (List ℕ)). at.page < page_counts mid (table_file (unwrap_or o []) at.part)) (sym named)
    (subst (λ (f : FileName → ℕ). at.page < f (table_file (unwrap_or (name_at store at.slot) []) at.part)) (sym (counts_same store mid same c.requires.tidy)) c.requires.below) in
    ap (λ (f : FileName → ℕ → Option (List ℕ)). f (table_file (unwrap_or (name_at store at.slot) []) at.part) at.page) (sym bodies)
    ∙ ap (λ (o : Option (List ℕ)). page_bodies mid t.folder (table_file (unwrap_or o []) at.part) at.page) (sym named)
    ∙ loaded_shown mid t.folder at.slot at.part at.page (tidy_same store mid same c.requires.tidy) (subst (λ (o : Option (List ℕ)). IsTrue (is_some o)) (sym named) c.requires.open) below
    (on_ok_of c.hold-answer.result _ c.hold-answer.ensures.held on) (on_ok_of c.hold-answer.result _ c.hold-answer.ensures.front on) (sym (ap (λ (l : List ℕ). length l) c.loaded.ensures.body) ∙ c.loaded.ensures.len))

pub returns-clause-again : goal.returns-clause-again
returns-clause-again g c = subst (λ (o : Option Fault). IfSome o (λ kept. fault_of c.hold-answer.result ≡ Some kept)) (sym c.in_default.is) tt

pub returns-clause-keeps : goal.returns-clause-keeps
returns-clause-keeps g c = c.fault_in-self.ensures
