use Rattle.std.proofs.Common.{◌≡◌, ◌∙◌, ◌+◌, ℕ, sym, ap, subst, arith}
use Rattle.std.specs.Prelude.{⊤}
use Rattle.std.proofs.lemmas.Result.{err_from_is_err_and}
use Rattle.aria_host.specs.declared.file_name.FileName.{FileName}
use Rattle.aria_cache.specs.PageState.{PageState, Counts}
use Rattle.aria_keypage.specs.Item.{Item}
use Rattle.aria_keypage.specs.Change.{with_item}
use Rattle.aria_keypage.specs.Split.{left_half}
use Rattle.aria_key.specs.Held.{HasContent, Takes, Rewritten}
use Rattle.aria_key.specs.Reading.{keys_file, OfKeyPage, OfTree, IsOverfull, IsDivisible}
use Rattle.aria_key.proofs.Later.{Went, went, went_on, cause_later, found_later, page_later, reaches, either_low, ready_now}
use Rattle.aria_key.proofs.halving.put_in_half.Goals as goal

pub returns-in_err-k-clause-cause : goal.returns-in_err-k-clause-cause
returns-in_err-k-clause-cause g c =
    let tells = g.P.Pages.tells in
    let slot = c.args.slot in
    let old : PageState = g.P.Pages.state c.args.pages.now in
    let mid : PageState = g.P.Pages.state c.divide.new.pages in
    let new : PageState = g.P.Pages.state c.count_of.new.pages in
    let file : FileName = keys_file old slot in
    let whole = IsOverfull old file c.args.page c.args.fresh c.args.kind c.args.at in
    let e = c.in_ok-between.ensures in
    let first : Went tells slot old mid = went tells slot (OfTree tells g.P.Pages.logged (IsDivisible old file c.args.page c.args.fresh) file old mid) old mid e.slots e.answers e.cause e.late in
    let p = err_from_is_err_and c.from_residual-in_err-k.result c.from_residual-in_err-k.ensures.1 in
    rw (p.1, p.2) (cause_later tells slot (OfKeyPage tells g.P.Pages.logged (λ x. ⊤) (keys_file mid slot) c.args.page mid new) (OfTree tells g.P.Pages.logged whole file old new) old mid new _ first
    (page_later tells g.P.Pages.logged slot c.args.page (λ x. ⊤) whole old mid new first (λ t asked.
    let d = e.divided t asked.divisible.content asked.divisible.held asked.divisible.some asked.divisible.apart in
    let count : mid.counts (keys_file mid slot) ≡ mid.counts file = ap mid.counts first.file in
    let grown = reaches file (c.args.fresh + 1) old.counts in
    let counts : mid.counts file ≡ _ = ap (λ (n : Counts). n file) e.counts in
    record {
      low = omega (arith, count, counts, grown.0, asked.divisible.low);
      content = left_half asked.divisible.content d.at;
      held = subst (λ (f : FileName). HasContent (mid.bodies f) c.args.page (left_half asked.divisible.content d.at)) (sym first.file) d.left;
      asked = tt;
    })) c.in_err-k.ensures.cause)

pub returns-in_err-put-clause-cause : goal.returns-in_err-put-clause-cause
returns-in_err-put-clause-cause g c =
    let tells = g.P.Pages.tells in
    let slot = c.args.slot in
    let old : PageState = g.P.Pages.state c.args.pages.now in
    let mid : PageState = g.P.Pages.state c.divide.new.pages in
    let now : PageState = g.P.Pages.state c.count_of.new.pages in
    let new : PageState = g.P.Pages.state c.put.new.pages in
    let file : FileName = keys_file old slot in
    let whole = IsOverfull old file c.args.page c.args.fresh c.args.kind c.args.at in
    let half : ℕ = c.half_of-half.result.0 in
    let place : ℕ = c.half_of-half.result.1 in
    let x : Item = record { entry = c.args.entry.now; to = c.args.to } in
    let e = c.in_ok-between.ensures in
    let r = c.in_ok-k.ensures in
    let first : Went tells slot old mid = went tells slot (OfTree tells g.P.Pages.logged (IsDivisible old file c.args.page c.args.fresh) file old mid) old mid e.slots e.answers e.cause e.late in
    let second : Went tells slot mid now = went tells slot (OfKeyPage tells g.P.Pages.logged (λ x. ⊤) (keys_file mid slot) c.args.page mid now) mid now r.loads.slots r.answers r.cause r.loads.late in
    let both = went_on tells slot old mid now first second in
    let p = err_from_is_err_and c.from_residual-in_err-put.result c.from_residual-in_err-put.ensures.1 in
    rw (p.1, p.2) (cause_later tells slot (OfKeyPage tells g.P.Pages.logged (Takes c.args.kind place) (keys_file now slot) half now new) (OfTree tells g.P.Pages.logged whole file old new) old now new _ both
    (page_later tells g.P.Pages.logged slot half (Takes c.args.kind place) whole old now new both (λ t asked.
    let v = asked.divisible in
    let is = ready_now slot c.args.page c.args.fresh c.args.at c.in_ok-k.k half place x c.in_ok-between.between c.args.kind v.content old mid now first.file (r.loads.bodies t) v.held (e.divided t v.content v.held v.some v.apart) v.apart (r.count t) asked.takes.0 asked.takes.1 c.requires.entry c.half_of-half.ensures.page c.half_of-half.ensures.position in
    let grown = reaches file (c.args.fresh + 1) old.counts in
    let counts : mid.counts file ≡ _ = ap (λ (n : Counts). n file) e.counts in
    let count : now.counts (keys_file now slot) ≡ mid.counts file = ap (λ (n : Counts). n (keys_file now slot)) r.loads.counts ∙ ap mid.counts both.file in
    record {
      low = either_low _ c.args.page c.args.fresh half (now.counts (keys_file now slot)) c.half_of-half.ensures.page (omega (arith, count, counts, grown.0, v.low)) (omega (arith, count, counts, grown.1));
      content = is.content;
      held = subst (λ (f : FileName). HasContent (now.bodies f) half is.content) (sym both.file) is.held;
      asked = is.takes;
    })) c.in_err-put.ensures.cause)

pub returns-in-true-clause-put : goal.returns-in-true-clause-put
returns-in-true-clause-put g c = λ t content held same within some apart.
    let slot = c.args.slot in
    let old : PageState = g.P.Pages.state c.args.pages.now in
    let mid : PageState = g.P.Pages.state c.divide.new.pages in
    let now : PageState = g.P.Pages.state c.count_of.new.pages in
    let new : PageState = g.P.Pages.state c.put.new.pages in
    let half : ℕ = c.half_of-half.result.0 in
    let place : ℕ = c.half_of-half.result.1 in
    let x : Item = record { entry = c.args.entry.now; to = c.args.to } in
    let e = c.in_ok-between.ensures in
    let r = c.in_ok-k.ensures in
    let first : Went g.P.Pages.tells slot old mid = went g.P.Pages.tells slot (OfTree g.P.Pages.tells g.P.Pages.logged (IsDivisible old (keys_file old slot) c.args.page c.args.fresh) (keys_file old slot) old mid) old mid e.slots e.answers e.cause e.late in
    let second : Went g.P.Pages.tells slot mid now = went g.P.Pages.tells slot (OfKeyPage g.P.Pages.tells g.P.Pages.logged (λ x. ⊤) (keys_file mid slot) c.args.page mid now) mid now r.loads.slots r.answers r.cause r.loads.late in
    let both = went_on g.P.Pages.tells slot old mid now first second in
    let is = ready_now slot c.args.page c.args.fresh c.args.at c.in_ok-k.k half place x c.in_ok-between.between c.args.kind content old mid now first.file (r.loads.bodies t) held (e.divided t content held some apart) apart (r.count t) same within c.requires.entry c.half_of-half.ensures.page c.half_of-half.ensures.position in
    let put = rw c.in-true.is at (c.in_ok-put.ensures.put t is.content (subst (λ (f : FileName). HasContent (now.bodies f) half is.content) (sym both.file) is.held)) in
    is.made new.bodies (subst (λ (f : FileName). Rewritten f half (with_item is.content place x) now.bodies new.bodies) both.file put)

pub returns-in-false-clause-moves : goal.returns-in-false-clause-moves
returns-in-false-clause-moves g c =
    let on = g.met.P.Pages.stays_on in
    on c.args.pages.now c.put.new.pages c.stop.new.self
    (on c.args.pages.now c.count_of.new.pages c.put.new.pages (on c.args.pages.now c.divide.new.pages c.count_of.new.pages c.in_ok-between.ensures.moves c.in_ok-k.ensures.moves) c.in_ok-put.ensures.moves) c.stop.ensures.moves

pub returns-in-false-clause-cause : goal.returns-in-false-clause-cause
returns-in-false-clause-cause g c =
    let tells = g.P.Pages.tells in
    let slot = c.args.slot in
    let old : PageState = g.P.Pages.state c.args.pages.now in
    let mid : PageState = g.P.Pages.state c.divide.new.pages in
    let now : PageState = g.P.Pages.state c.count_of.new.pages in
    let done : PageState = g.P.Pages.state c.put.new.pages in
    let new : PageState = g.P.Pages.state c.stop.new.self in
    let file : FileName = keys_file old slot in
    let whole = IsOverfull old file c.args.page c.args.fresh c.args.kind c.args.at in
    let half : ℕ = c.half_of-half.result.0 in
    let place : ℕ = c.half_of-half.result.1 in
    let x : Item = record { entry = c.args.entry.now; to = c.args.to } in
    let e = c.in_ok-between.ensures in
    let r = c.in_ok-k.ensures in
    let q = c.in_ok-put.ensures in
    let first : Went tells slot old mid = went tells slot (OfTree tells g.P.Pages.logged (IsDivisible old file c.args.page c.args.fresh) file old mid) old mid e.slots e.answers e.cause e.late in
    let second : Went tells slot mid now = went tells slot (OfKeyPage tells g.P.Pages.logged (λ x. ⊤) (keys_file mid slot) c.args.page mid now) mid now r.loads.slots r.answers r.cause r.loads.late in
    let both = went_on tells slot old mid now first second in
    let third : Went tells slot now done = went tells slot (OfKeyPage tells g.P.Pages.logged (Takes c.args.kind place) (keys_file now slot) half now done) now done q.slots q.answers q.cause q.late in
    found_later tells slot (OfTree tells g.P.Pages.logged whole file old new) old done new _ c.stop.result (went_on tells slot old now done both third) c.stop.ensures.fault c.stop.ensures.stops (
      c.file-file.ensures,
      λ t asked.
          let v = asked.divisible in
          let is = ready_now slot c.args.page c.args.fresh c.args.at c.in_ok-k.k half place x c.in_ok-between.between c.args.kind v.content old mid now first.file (r.loads.bodies t) v.held (e.divided t v.content v.held v.some v.apart) v.apart (r.count t) asked.takes.0 asked.takes.1 c.requires.entry c.half_of-half.ensures.page c.half_of-half.ensures.position in
          let full = rw c.in-false.is at (q.put t is.content (subst (λ (f : FileName). HasContent (now.bodies f) half is.content) (sym both.file) is.held)) in
          absurd (omega (arith, full.1, is.room)),
    )
